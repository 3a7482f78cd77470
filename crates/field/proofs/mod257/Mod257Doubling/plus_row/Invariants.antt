use Rattle.std.proofs.Common.{◌≡◌, ℕ, ◌<◌, ◌≤◌, get_or}
use Rattle.field.specs.Mod257.{mod257}
use Rattle.field.proofs.mod257.Mod257Doubling.plus_row.Given as goal

abbrev pub invariant-loop-k : goal.invariant-loop-k
invariant-loop-k l =
    ((i : ℕ) → i < l.k → get_or l.out i 0 ≡ mod257.add (get_or l.initial.out i 0) (get_or l.row i 0))
    × ((i : ℕ) → l.k ≤ i → get_or l.out i 0 ≡ get_or l.initial.out i 0)
