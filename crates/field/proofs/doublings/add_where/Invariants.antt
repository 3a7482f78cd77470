use Rattle.std.proofs.Common.{◌≡◌, ◌/◌, ◌%◌, ◌^◌, length, get_or}
use Rattle.field.specs.Laws.{Codes}
use Rattle.field.proofs.Where.{GainedTo}
use Rattle.field.proofs.doublings.add_where.Given as goal

abbrev pub invariant-loop-r : goal.invariant-loop-r
invariant-loop-r g l =
    (length l.rows ≡ length l.initial.rows)
    × Codes g.D.Doubling.arith.order l.rows
    × GainedTo g.D.Doubling.arith (λ r. get_or l.factors r 0 / 2 ^ l.place % 2) l.row l.r l.initial.rows l.rows
