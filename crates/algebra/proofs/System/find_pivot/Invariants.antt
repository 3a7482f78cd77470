use Rattle.std.proofs.Common.{◌≡◌, ℕ, ◌<◌, ◌≤◌, length}
use Rattle.algebra.specs.Flat.{cell}
use Rattle.algebra.proofs.System.find_pivot.Given as goal

abbrev pub invariant-loop-r : goal.invariant-loop-r
invariant-loop-r g l = (k : ℕ) → l.c ≤ k → k < l.r → cell (length l.self.row.now) l.self.rows.now k l.c ≡ 0
