use Rattle.std.proofs.Common.{◌≡◌}
use Rattle.piece.proofs.Packing.{Copied, PackedTo}
use Rattle.piece.proofs.bits.pack.Given as goal

abbrev pub invariant-loop-k : goal.invariant-loop-k
invariant-loop-k l = Copied l.values l.initial.out l.k l.out

abbrev pub invariant-loop-v : goal.invariant-loop-v
invariant-loop-v l = (l.writer.out.ghost_name ≡ l.initial.writer.out.ghost_name) × PackedTo l.width l.values l.initial.writer.out.now l.v-index l.writer
