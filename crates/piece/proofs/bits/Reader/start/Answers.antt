use Rattle.std.proofs.Common.{List, ◌++◌, ap, ℕ}
use Rattle.piece.specs.Bits.{bits_in}
use Rattle.piece.proofs.Octets.{bits_none}
use Rattle.piece.proofs.bits.Reader.start.Goals as goal

pub returns-clause-all : goal.returns-clause-all
returns-clause-all c = ap (λ (xs : List ℕ). xs ++ bits_in c.args.bytes.now) (bits_none 0)
