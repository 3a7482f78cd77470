use Rattle.std.proofs.Common.{refl}
use Rattle.field.specs.Gf256 as gf
use Rattle.field.specs.Gf256.{over_bits}
use Rattle.field.specs.Mod257 as residues
use Rattle.field.specs.Search.{found}
use Rattle.field.specs.Sums.{sum}
use Rattle.algebra.specs.Field.{power}
use Rattle.field.proofs.Remainders.{worked}
use Rattle.piece.specs.Bits.{bits_of, octets}
use Rattle.piece.specs.Pieces.{header, listed, piece, value}
use Rattle.piece.specs.Worked.{WorkedPieces}
use Rattle.piece.proofs.worked.worked_pieces_stand.Goals as goal

table : WorkedPieces
unfolding bits_of octets header listed piece value sum power over_bits found gf.inverse residues.inverse
table = record {
  sums = worked;
  piece_1 = refl;
  body_2 = refl;
  body_3 = refl;
  nine_bits = refl;
  no_byte = refl;
  cauchy_1 = refl;
  cauchy_2 = refl;
}

pub returns : goal.returns
returns c = record { pieces = table; count = refl }
