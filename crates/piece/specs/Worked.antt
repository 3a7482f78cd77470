-- Pieces worked by hand, over the definition that cutting's contract cites. Assumes nothing.
use Rattle.std.specs.Prelude.{◌≡◌, ℕ, [], ◌∷◌, drop}
use Rattle.field.specs.Gf256.{gf256}
use Rattle.field.specs.Mod257.{mod257}
use Rattle.field.specs.Worked.{WorkedSums}
use Rattle.piece.specs.declared.Settings.{Settings}
use Rattle.piece.specs.Pieces.{piece}

abbrev pub two_of : ℕ → ℕ → Settings
two_of rows n = record { rows = rows; m = 2; n = n }

-- the bodies stand behind the ten bytes of the header
pub record WorkedPieces : Type 0 where
  -- the sums of the two fields
  pub sums : WorkedSums
  -- GF(2^8), Vandermonde, m = 2, n = 3, job 01 02 03, job number 7, stamp 1
  pub piece_1 : piece gf256 (two_of 0 3) 1 7 1 (0x01 ∷ 0x02 ∷ 0x03 ∷ [])
      ≡ 0x01 ∷ 0x10 ∷ 0x00 ∷ 0x03 ∷ 0x00 ∷ 0x07 ∷ 0x00 ∷ 0x00 ∷ 0x00 ∷ 0x01 ∷ 0x03 ∷ 0x03 ∷ []
  pub body_2 : drop 10 (piece gf256 (two_of 0 3) 2 7 1 (0x01 ∷ 0x02 ∷ 0x03 ∷ [])) ≡ 0x05 ∷ 0x03 ∷ []
  pub body_3 : drop 10 (piece gf256 (two_of 0 3) 3 7 1 (0x01 ∷ 0x02 ∷ 0x03 ∷ [])) ≡ 0x07 ∷ 0x03 ∷ []
  -- the same modulo 257
  pub nine_bits : drop 10 (piece mod257 (two_of 0 3) 1 7 1 (0x01 ∷ 0x02 ∷ 0x03 ∷ [])) ≡ 0x01 ∷ 0x80 ∷ 0xC0 ∷ []
  -- a value of 256
  pub no_byte : drop 10 (piece mod257 (two_of 0 2) 1 7 1 (0xFF ∷ 0x01 ∷ [])) ≡ 0x80 ∷ 0x00 ∷ []
  -- GF(2^8), Cauchy
  pub cauchy_1 : drop 10 (piece gf256 (two_of 1 2) 1 7 1 (0x01 ∷ 0x00 ∷ [])) ≡ 0x8D ∷ []
  pub cauchy_2 : drop 10 (piece gf256 (two_of 1 2) 1 7 1 (0x00 ∷ 0x01 ∷ [])) ≡ 0xF6 ∷ []

abbrev pub WorkedPiecesStand : Type 0
WorkedPiecesStand = WorkedPieces
