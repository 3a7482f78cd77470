use Rattle.piece.proofs.Faults.{Passed}
use Rattle.piece.proofs.Unpacking.{ReadTo}
use Rattle.piece.proofs.bits.fault.Given as goal

abbrev pub invariant-loop-k : goal.invariant-loop-k
invariant-loop-k l = ReadTo l.width l.bytes l._k l.reader × Passed l.order l.width l.bytes l._k
