use Rattle.collection.proofs.Entering.{EnteredTo}
use Rattle.collection.proofs.back.lay_entries.Given as goal

abbrev pub invariant-loop-t : goal.invariant-loop-t
invariant-loop-t g l = EnteredTo g.F.Field.ops l.book l.t l.initial.rows l.rows
