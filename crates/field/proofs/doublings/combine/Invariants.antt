use Rattle.std.proofs.Common.{length}
use Rattle.field.specs.Laws.{Codes}
use Rattle.field.proofs.Combining.{DigitsDone}
use Rattle.field.proofs.doublings.combine.Given as goal

abbrev pub invariant-loop-place : goal.invariant-loop-place
invariant-loop-place g l = record {
  codes : Codes g.D.Doubling.arith.order l.out;
  done : DigitsDone g.D.Doubling.arith l.place l.rows l.factors (length l.initial.out) l.out;
}
