use Rattle.std.proofs.Common.{length}
use Rattle.field.specs.Laws.{Codes}
use Rattle.field.proofs.Combining.{CombinedTo}
use Rattle.field.proofs.Field.combine.Given as goal

abbrev pub invariant-loop-i : goal.invariant-loop-i
invariant-loop-i g l =
    Codes g.Self.Field.ops.order l.out
    × CombinedTo g.Self.Field.ops (length l.initial.out) l.rows l.factors l.i l.out
