use borrow.Author.Count.{below_more}
use mathlib.Core.Logic.{◌≢◌}
use Prim.Native.Nat.{◌<◌}
use native.Mathlib.Omega.{arith}
use lib.ListN.{length}
use lib.Seq.{get_or-set_same, get_or-set_other}
use Rattle.algebra.specs.Flat.{cell}
use Rattle.algebra.proofs.opposites.Goals as goal

pub neg-requires : goal.neg-requires
unfolding cell
neg-requires g c = c.requires.grid.below c.loop-r.r c.loop-r-test.true c.args.c c.requires.column

pub loop-r-preserved : goal.loop-r-preserved
unfolding cell
loop-r-preserved g c =
    below_more _ _
    (λ k h. let ne : k ≢ c.loop-r.r = omega arith in rw get_or-set_other (c.loop-r.invariant k h))
    (let lt : c.loop-r.r < length c.loop-r.factors = omega arith in rw get_or-set_same c.neg.ensures)
