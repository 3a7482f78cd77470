-- Sums worked by hand. Assumes nothing.
use Rattle.std.specs.Prelude.{◌≡◌}
use Rattle.field.specs.Gf256.{gf256}
use Rattle.field.specs.Mod257.{mod257}

pub record WorkedSums : Type 0 where
  -- GF(2^8), in hexadecimal: 57 times 83 is C1
  pub product_256 : gf256.mul 0x57 0x83 ≡ 0xC1
  -- the inverse of 02 is 8D, of 03 is F6, of 53 is CA
  pub inverse_02 : gf256.inv 0x02 ≡ 0x8D
  pub inverse_03 : gf256.inv 0x03 ≡ 0xF6
  pub inverse_53 : gf256.inv 0x53 ≡ 0xCA
  -- modulo 257: the inverse of 2 is 129, and 256 times 256 is 1
  pub inverse_2 : mod257.inv 2 ≡ 129
  pub product_257 : mod257.mul 256 256 ≡ 1

abbrev pub WorkedSumsStand : Type 0
WorkedSumsStand = WorkedSums
