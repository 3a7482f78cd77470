use Rattle.std.proofs.Common.{refl}
use Rattle.collection.proofs.Books.{open_fresh}
use Rattle.collection.proofs.open.Open.start.Goals as goal

pub returns : goal.returns
returns g c = record {
  named = refl;
  fresh = open_fresh g.F.Field.ops c.start.result c.args.work.now c.start.ensures.field c.start.ensures.none;
}
