use Rattle.std.proofs.Common.{◌≡◌, ℕ, ◌-◌, ◌/◌, ◌%◌, ◌^◌, ◌<◌, length, get_or}
use Rattle.field.specs.Laws.{Codes}
use Rattle.field.proofs.Digits.{left}
use Rattle.field.proofs.doublings.spread.Given as goal

-- what the digits from this place on have left to do brings each place to what it is to be
abbrev pub invariant-loop-place : goal.invariant-loop-place
invariant-loop-place g l =
    Codes g.D.Doubling.arith.order l.rows
    × Codes g.D.Doubling.arith.order l.row
    × ((i : ℕ) → i < length l.initial.rows
    → left g.D.Doubling.arith (l.place-end - l.place) (get_or l.factors (i / length l.initial.row) 0 / 2 ^ l.place) (get_or l.rows i 0) (get_or l.row (i % length l.initial.row) 0)
    ≡ g.D.Doubling.arith.add (get_or l.initial.rows i 0) (g.D.Doubling.arith.mul (get_or l.factors (i / length l.initial.row) 0) (get_or l.initial.row (i % length l.initial.row) 0)))
