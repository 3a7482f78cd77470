use Rattle.std.proofs.Common.{◌≡◌, ℕ, ◌<◌, ◌≤◌, get_or}
use Rattle.field.specs.Gf256.{gf256}
use Rattle.field.proofs.gf256.Gf256Doubling.double_row.Given as goal

abbrev pub invariant-loop-x : goal.invariant-loop-x
invariant-loop-x l =
    ((i : ℕ) → i < l.x-index → get_or l.row i 0 ≡ gf256.mul 2 (get_or l.initial.row i 0))
    × ((i : ℕ) → l.x-index ≤ i → get_or l.row i 0 ≡ get_or l.initial.row i 0)
