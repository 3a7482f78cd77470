use Rattle.collection.proofs.Symbols.{RowTo}
use Rattle.collection.proofs.back.write_row.Given as goal

abbrev pub invariant-loop-k : goal.invariant-loop-k
invariant-loop-k l = RowTo l.m l.j l.k l.row l.initial.job l.job
