use Rattle.piece.proofs.Unpacking.{ReadTo, UnpackedTo}
use Rattle.piece.proofs.bits.unpack.Given as goal

abbrev pub invariant-loop-k : goal.invariant-loop-k
invariant-loop-k l = UnpackedTo 8 l.bytes l.k l.values

abbrev pub invariant-loop-value : goal.invariant-loop-value
invariant-loop-value l = ReadTo l.width l.bytes l.value-index l.reader × UnpackedTo l.width l.bytes l.value-index l.values
