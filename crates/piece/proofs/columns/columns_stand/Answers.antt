use Rattle.std.proofs.Common.{refl}
use Rattle.piece.proofs.Apart.{distance}
use Rattle.piece.proofs.Open.{hiding}
use Rattle.piece.proofs.columns.columns_stand.Goals as goal

pub returns : goal.returns
returns g c = record {
  distance = distance g.met.F.Field.laws g.met.F.Field.bounds;
  hiding = hiding g.met.F.Field.laws g.met.F.Field.bounds;
  count = refl;
}
