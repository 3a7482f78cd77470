use Rattle.std.proofs.Common.{◌≡◌, ◌+◌, ◌-◌, ◌*◌, ◌++◌}
use Rattle.piece.specs.Bits.{bits_of}
use Rattle.piece.specs.Stream.{written}
use Rattle.piece.proofs.Packing.{Flushed}
use Rattle.piece.proofs.bits.Writer.write.Given as goal

abbrev pub invariant-loop-bits : goal.invariant-loop-bits
invariant-loop-bits l =
    let w = l.initial.self in
    (l.self.out.ghost_name ≡ w.out.ghost_name)
    × Flushed w.out.now (written w ++ bits_of l.width l.v) (8 * w.next + w.bits + l.width) l.self.out.now l.next l.acc l.bits

abbrev pub decreases-loop-bits : goal.decreases-loop-bits
decreases-loop-bits l = l.bits + 1 - 8
