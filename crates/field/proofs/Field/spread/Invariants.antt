use Rattle.std.proofs.Common.{◌≡◌, ℕ, ◌/◌, ◌%◌, ◌<◌, ◌≤◌, length, get_or}
use Rattle.field.proofs.Field.spread.Given as goal

abbrev pub invariant-loop-i : goal.invariant-loop-i
invariant-loop-i g l =
    ((k : ℕ) → k < l.i → get_or l.rows k 0 ≡ g.Self.Field.ops.add (get_or l.initial.rows k 0) (g.Self.Field.ops.mul (get_or l.factors (k / length l.row) 0) (get_or l.row (k % length l.row) 0)))
    × ((k : ℕ) → l.i ≤ k → get_or l.rows k 0 ≡ get_or l.initial.rows k 0)
