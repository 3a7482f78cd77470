use Rattle.std.proofs.Common.{length}
use Rattle.algebra.specs.Flat.{Keeps, Reduced}
use Rattle.algebra.proofs.System.solve.Given as goal

abbrev pub invariant-loop-c : goal.invariant-loop-c
invariant-loop-c g l = record {
  rows : Keeps l.initial.self.rows l.self.rows;
  factors : Keeps l.initial.self.factors l.self.factors;
  row : Keeps l.initial.self.row l.self.row;
  reduced : Reduced g.F.Field.ops (length l.initial.self.factors.now) (length l.initial.self.row.now) l.c l.initial.self.rows.now l.self.rows.now;
}
