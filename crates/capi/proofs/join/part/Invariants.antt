use Rattle.std.proofs.Common.{length}
use Rattle.capi.proofs.Parting.{PartedTo}
use Rattle.capi.proofs.join.part.Given as goal

abbrev pub invariant-loop-n : goal.invariant-loop-n
invariant-loop-n l = PartedTo (length l.initial.list) l.each l.bytes l.n l.list l.rest
