use Rattle.std.proofs.Common.{refl}
use Rattle.piece.proofs.Exact.{exact, back}
use Rattle.piece.proofs.read.reading_stands.Goals as goal

pub returns : goal.returns
returns g c = record {
  exact = exact g.F.Field.ops g.met.F.Field.bounds;
  back = back g.F.Field.ops g.met.F.Field.bounds g.met.F.Field.laws;
  number = refl;
}
