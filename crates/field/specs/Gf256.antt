-- GF(2^8): a code is a polynomial over two elements, bit i the coefficient of x^i, and products are taken modulo
-- x^8 + x^4 + x^3 + x + 1, whose code is 11B in hexadecimal. Assumes nothing.
use Rattle.std.specs.Prelude.{◌≡◌, ℕ, zero, suc, ◌*◌, ◌/◌, ◌%◌, ◌<◌, bit_xor, nat_eq}
use Rattle.field.specs.Laws.{Ops}
use Rattle.field.specs.Search.{found}

-- the exclusive or, over the set bits i of b among its k lowest, of a after i steps
unfoldable pub over_bits : (ℕ → ℕ) → ℕ → ℕ → ℕ → ℕ
over_bits step zero a b = 0
over_bits step (suc k) a b = bit_xor (b % 2 * a) (over_bits step k (step a) (b / 2))

-- a times x, with nothing taken away
abbrev pub shifted : ℕ → ℕ
shifted a = a * 2

-- the carry-less product of a by b, which has at most eight bits: the product of the two polynomials
abbrev pub carryless : ℕ → ℕ → ℕ
carryless a b = over_bits shifted 8 a b

-- r is the remainder of the polynomial p: below 256, and it differs from p by a carry-less multiple of 11B
abbrev pub Remainder : ℕ → ℕ → Type 0
Remainder p r = (r < 256) × ((q : ℕ) × (bit_xor r (carryless 0x11B q) ≡ p))

-- a times x: shifted, and where x^8 comes up, 11B taken away
abbrev pub xtime : ℕ → ℕ
xtime a = bit_xor (a * 2) (a / 128 % 2 * 0x11B)

-- the product: what carryless is, with each step kept below x^8
abbrev pub times : ℕ → ℕ → ℕ
times a b = over_bits xtime 8 a b

abbrev pub same : ℕ → ℕ
same a = a

-- the code whose product with a is 1, and 0 where there is none
unfoldable pub inverse : ℕ → ℕ
inverse a = found (λ b. nat_eq (times a b) 1) 256

abbrev pub gf256 : Ops
gf256 = record { code = 0; order = 256; width = 8; add = bit_xor; mul = times; neg = same; inv = inverse }
