use Rattle.collection.proofs.Symbols.{JobTo}
use Rattle.collection.proofs.closed.Closed.write_job.Given as goal

abbrev pub invariant-loop-j : goal.invariant-loop-j
invariant-loop-j l = JobTo l.self.book l.self.work.now l.j l.job
