use Rattle.std.proofs.Common.{◌+◌, ◌-◌, ◌<◌}
use Rattle.piece.specs.Stream.{unread}
use Rattle.piece.proofs.Unpacking.{Filling}
use Rattle.piece.proofs.bits.Reader.read.Given as goal

abbrev pub invariant-loop-bits : goal.invariant-loop-bits
invariant-loop-bits l = Filling l.self.bytes.now (unread l.self) l.next l.acc l.bits × (l.bits < l.width + 8)

abbrev pub decreases-loop-bits : goal.decreases-loop-bits
decreases-loop-bits l = l.width - l.bits
