use Rattle.collection.proofs.Symbols.{WholeTo}
use Rattle.collection.proofs.closed.Closed.is_job.Given as goal

abbrev pub invariant-loop-j : goal.invariant-loop-j
invariant-loop-j l = WholeTo l.self.book l.self.work.now l.j
