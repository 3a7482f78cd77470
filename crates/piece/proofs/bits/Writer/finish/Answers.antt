use Rattle.std.proofs.Common.{arith}
use Rattle.piece.proofs.Packing.{length_written, finish_many, finish_front}
use Rattle.piece.proofs.bits.Writer.finish.Goals as goal

pub write-requires-clause-room : goal.write-requires-clause-room
write-requires-clause-room c = let w = c.args.self.now in omega (arith, length_written w, w.room, w.few)

pub returns-clause-many : goal.returns-clause-many
returns-clause-many c = finish_many c.args.self.now c.write.new.self c.write.ensures.same

pub returns-clause-front : goal.returns-clause-front
returns-clause-front c = finish_front c.args.self.now c.write.new.self c.write.ensures.same
