-- The product of GF(2^8) is the one remainder of the carry-less product, and sums worked by hand. Assumes nothing.
use Rattle.std.proofs.Common.{◌≡◌, ℕ, zero, suc, ◌*◌, ◌/◌, ◌%◌, ◌^◌, ◌<◌, Bool, true, cond, T, eqb, ltb, List, [], ◌∷◌, sym, refl, ap, ◌∙◌, subst, ap₂, mod-lt, add-one, lit<, eqb→eq, lt-ltb}
use lib.Pow.{field, mod-mod-pow}
use lib.Bits.{bit_xor, xor_assoc, xor_comm, xor_lt, xor_mod, xor_self, xor_shr, xor_zero_l, xor_zero_r}
use Rattle.field.specs.Search.{found}
use Rattle.field.specs.Gf256.{over_bits, shifted, carryless, Remainder, times, inverse}
use Rattle.field.specs.Mod257 as residues
use Rattle.field.specs.Worked.{WorkedSums}
use Rattle.field.specs.Every.{every, at}
use Rattle.field.specs.Laws256.{laws256, left, right}
use Rattle.field.specs.Linear.{Linear, agree, compose, plus, xor_swap, scale_bit, double, over_left, over_right}

shifted_linear : Linear shifted
shifted_linear = record { sums = double }

-- the exclusive or of the entries at the set bits of x
unfoldable chosen : List ℕ → ℕ → ℕ
chosen [] x = 0
chosen (c ∷ cs) x = bit_xor (x % 2 * c) (chosen cs (x / 2))

chosen_sums : (cs : List ℕ) (x y : ℕ) → chosen cs (bit_xor x y) ≡ bit_xor (chosen cs x) (chosen cs y)
unfolding chosen
chosen_sums [] x y = refl
chosen_sums (c ∷ cs) x y =
    ap₂ bit_xor (ap (λ (n : ℕ). n * c) (xor_mod x y 1) ∙ scale_bit c (x % 2) (y % 2) (mod-lt x (lit< tt)) (mod-lt y (lit< tt)))
    (ap (chosen cs) (xor_shr x y 1) ∙ chosen_sums cs (x / 2) (y / 2))
    ∙ xor_swap (x % 2 * c) (y % 2 * c) (chosen cs (x / 2)) (chosen cs (y / 2))

-- the quotients of 1, x, x^2 .. x^14 by x^8 + x^4 + x^3 + x + 1
unfoldable quotients : List ℕ
quotients = 0 ∷ 0 ∷ 0 ∷ 0 ∷ 0 ∷ 0 ∷ 0 ∷ 0 ∷ 1 ∷ 2 ∷ 4 ∷ 8 ∷ 17 ∷ 35 ∷ 70 ∷ []

quotient : Linear (chosen quotients)
quotient = record { sums = chosen_sums quotients }

-- the quotient of the carry-less product
over : ℕ → ℕ → ℕ
over a b = chosen quotients (carryless a b)

whole : ℕ → ℕ → ℕ
whole a b = bit_xor (times a b) (carryless 0x11B (chosen quotients (carryless a b)))

whole_left : (b : ℕ) → Linear (λ a. whole a b)
unfolding whole
whole_left b = plus (left b) (compose (over_right shifted 8 0x11B) (compose quotient (over_left shifted_linear 8 b)))

whole_right : (a : ℕ) → Linear (whole a)
unfolding whole
whole_right a = plus (right a) (compose (over_right shifted 8 0x11B) (compose quotient (over_right shifted 8 a)))

-- 64 tests
test : ℕ → ℕ → Bool
unfolding over_bits chosen quotients whole
test i j = eqb (whole (2 ^ i) (2 ^ j)) (carryless (2 ^ i) (2 ^ j))

all : T (every (λ i. every (test i) 8) 8)
unfolding over_bits chosen quotients whole test
all = tt

test_at : (i j : ℕ) → i < 8 → j < 8 → whole (2 ^ i) (2 ^ j) ≡ carryless (2 ^ i) (2 ^ j)
unfolding test
test_at i j hi hj = eqb→eq _ _ (at (test i) 8 (at (λ n. every (test n) 8) 8 all i hi) j hj)

whole_is : (a b : ℕ) → a < 256 → b < 256 → whole a b ≡ carryless a b
whole_is a b ha hb =
    agree (whole_left b) (over_left shifted_linear 8 b) 8
    (λ i hi. agree (whole_right (2 ^ i)) (over_right shifted 8 (2 ^ i)) 8 (λ j hj. test_at i j hi hj) b hb) a ha

-- the product is the remainder of the carry-less product
pub product_remainder : (a b : ℕ) → a < 256 → b < 256 → Remainder (carryless a b) (times a b)
unfolding whole
product_remainder a b ha hb = (laws256.mul_below a b ha hb, (chosen quotients (carryless a b), whole_is a b ha hb))

-- a multiple of 11B that is below 256 is 0: only the eight lowest bits of the factor count
-- r + s = a + b where r + a = s + b
xor_move : (r s a b : ℕ) → bit_xor r a ≡ bit_xor s b → bit_xor r s ≡ bit_xor a b
xor_move r s a b e =
    ap (λ (x : ℕ). bit_xor x s) (sym (xor_zero_r r) ∙ ap (bit_xor r) (sym (xor_self a)) ∙ sym (xor_assoc r a a) ∙ ap (λ (x : ℕ). bit_xor x a) e)
    ∙ ap (λ (x : ℕ). bit_xor x s) (xor_assoc s b a ∙ ap (bit_xor s) (xor_comm b a) ∙ xor_comm s (bit_xor a b))
    ∙ xor_assoc (bit_xor a b) s s ∙ ap (bit_xor (bit_xor a b)) (xor_self s) ∙ xor_zero_r (bit_xor a b)

xor_none : (r s : ℕ) → bit_xor r s ≡ 0 → r ≡ s
xor_none r s e = sym (xor_zero_r r) ∙ ap (bit_xor r) (sym (xor_self s)) ∙ sym (xor_assoc r s s) ∙ ap (λ (x : ℕ). bit_xor x s) e ∙ xor_zero_l s

low : ℕ → Bool
unfolding over_bits
low q = cond (ltb (carryless 0x11B q) 256) (eqb (carryless 0x11B q) 0) true

all_low : T (every low 256)
unfolding over_bits low
all_low = tt

low_at : (v : ℕ) → T (cond (ltb v 256) (eqb v 0) true) → v < 256 → v ≡ 0
low_at v t h = eqb→eq v 0 (subst (λ (b : Bool). T (cond b (eqb v 0) true)) (lt-ltb v 256 h) t)

-- the lowest eight bits of the factor
trimmed : (k a q : ℕ) → over_bits shifted k a q ≡ over_bits shifted k a (q % 2 ^ k)
unfolding over_bits
trimmed zero a q = refl
trimmed (suc k) a q =
    ap₂ bit_xor (ap (λ (x : ℕ). x * a) (sym (mod-mod-pow q k 1) ∙ ap (λ (n : ℕ). q % 2 ^ n % 2) (add-one k)))
    (trimmed k (a * 2) (q / 2) ∙ ap (over_bits shifted k (a * 2)) (sym (field q k 1) ∙ ap (λ (n : ℕ). q % 2 ^ n / 2) (add-one k)))

only_zero : (q : ℕ) → carryless 0x11B q < 256 → carryless 0x11B q ≡ 0
only_zero q h =
    let e = trimmed 8 0x11B q in
    e ∙ low_at (carryless 0x11B (q % 256)) (unfold low in at low 256 all_low (q % 256) (mod-lt q (lit< tt))) (subst (λ (v : ℕ). v < 256) e h)

-- a remainder is the only one
pub one_remainder : (p r s : ℕ) → Remainder p r → Remainder p s → r ≡ s
one_remainder p r s (lr, (u, er)) (ls, (v, es)) =
    let apart : bit_xor r s ≡ carryless 0x11B (bit_xor u v) = xor_move r s (carryless 0x11B u) (carryless 0x11B v) (er ∙ sym es) ∙ sym ((over_right shifted 8 0x11B).sums u v) in
    let none : bit_xor r s ≡ 0 = apart ∙ only_zero (bit_xor u v) (subst (λ (x : ℕ). x < 256) apart (xor_lt 8 r s lr ls)) in
    xor_none r s none

pub worked : WorkedSums
unfolding over_bits inverse residues.inverse found
worked = record { product_256 = refl; inverse_02 = refl; inverse_03 = refl; inverse_53 = refl; inverse_2 = refl; product_257 = refl }
