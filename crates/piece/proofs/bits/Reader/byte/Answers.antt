use Rattle.std.proofs.Common.{arith}
use Rattle.piece.proofs.Unpacking.{length_unread}
use Rattle.piece.proofs.bits.Reader.byte.Goals as goal

pub returns-then-self-gt0 : goal.returns-then-self-gt0
returns-then-self-gt0 c = let r = c.args.self.now in record { byte = omega (arith, length_unread r.bytes.now r.next r.acc r.bits r.within, r.few, r.taken) }

pub returns-else-self-gt0 : goal.returns-else-self-gt0
returns-else-self-gt0 c = let r = c.args.self.now in record { byte = omega (arith, length_unread r.bytes.now r.next r.acc r.bits r.within) }
