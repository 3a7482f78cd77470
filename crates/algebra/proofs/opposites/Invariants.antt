use mathlib.Core.Path.{◌≡◌}
use Prim.Native.Nat.{ℕ, ◌<◌}
use lib.ListN.{get_or}
use Rattle.algebra.specs.Flat.{cell}
use Rattle.algebra.proofs.opposites.Given as goal

abbrev pub invariant-loop-r : goal.invariant-loop-r
invariant-loop-r g l = (k : ℕ) → k < l.r → get_or l.factors k 0 ≡ g.F.Field.ops.neg (cell l.w l.rows k l.c)
