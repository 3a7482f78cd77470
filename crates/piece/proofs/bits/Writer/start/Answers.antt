use Rattle.piece.proofs.Octets.{bits_none}
use Rattle.piece.proofs.bits.Writer.start.Goals as goal

pub returns-clause-none : goal.returns-clause-none
returns-clause-none c = bits_none 0
