-- Functions that are linear over the exclusive or. Assumes nothing.
use Rattle.std.specs.Prelude.{◌≡◌, ℕ, zero, suc, ◌*◌, ◌/◌, ◌%◌, ◌^◌, ◌<◌, T, bit_xor, nat_eq, refl}
use Rattle.std.proofs.Common.{sym, ap, ap₂, subst, ◌∙◌, zero-mul, one-mul, add-zero, div-add-mod', mod-lt, lt-suc_self, one-add, arith, eqb→eq, lit<, pow_pos}
use Rattle.std.proofs.Math.Arith.{lt-one}
use Rattle.std.specs.Int.Bits.{xor_assoc, xor_self, xor_zero_r, xor_shifted}
use Rattle.std.proofs.lemmas.Nat.{shr_below, xor_comm, xor_shr, xor_mod, xor_block}
use Rattle.field.specs.Gf256.{over_bits}
use Rattle.field.specs.Every.{every, at}

pub record Linear (f : ℕ → ℕ) : Type 0 where
  pub sums : (a b : ℕ) → f (bit_xor a b) ≡ bit_xor (f a) (f b)

pub zero_at : {f : ℕ → ℕ} → Linear f → f 0 ≡ 0
zero_at {f} l = l.sums 0 0 ∙ xor_self (f 0)

-- (a + b) + (c + d) = (a + c) + (b + d)
pub xor_swap : (a b c d : ℕ) → bit_xor (bit_xor a b) (bit_xor c d) ≡ bit_xor (bit_xor a c) (bit_xor b d)
xor_swap a b c d =
    xor_assoc a b (bit_xor c d)
    ∙ ap (bit_xor a) (sym (xor_assoc b c d) ∙ ap (λ (x : ℕ). bit_xor x d) (xor_comm b c) ∙ xor_assoc c b d)
    ∙ sym (xor_assoc a c (bit_xor b d))

-- linear functions that agree at p agree at 0 and 1 times p
at_bit : {f g : ℕ → ℕ} → Linear f → Linear g → (p : ℕ) → f p ≡ g p → (x : ℕ) → x < 2 → f (x * p) ≡ g (x * p)
at_bit {f} {g} lf lg p e zero h = ap f (zero-mul p) ∙ zero_at lf ∙ sym (zero_at lg) ∙ ap g (sym (zero-mul p))
at_bit {f} {g} lf lg p e (suc zero) h = ap f (one-mul p) ∙ e ∙ ap g (sym (one-mul p))
at_bit {f} {g} lf lg p e (suc (suc n)) h = absurd (omega arith)

-- linear functions that agree at 1, 2, 4 .. 2 ^ (k - 1) agree below 2 ^ k
pub agree : {f g : ℕ → ℕ} → Linear f → Linear g → (k : ℕ) → ((i : ℕ) → i < k → f (2 ^ i) ≡ g (2 ^ i)) → (a : ℕ) → a < 2 ^ k → f a ≡ g a
agree {f} {g} lf lg zero e a h = ap f (lt-one h) ∙ zero_at lf ∙ sym (zero_at lg) ∙ ap g (sym (lt-one h))
agree {f} {g} lf lg (suc k) e a h =
    let x : ℕ = a / 2 ^ k in
    let r : ℕ = a % 2 ^ k in
    let hr : r < 2 ^ k = mod-lt a (pow_pos k) in
    let hx : x < 2 = shr_below a 1 k (subst (λ (n : ℕ). a < 2 ^ n) (sym (one-add k)) h) in
    let split : a ≡ bit_xor (x * 2 ^ k) r = sym (div-add-mod' a (2 ^ k)) ∙ sym (xor_shifted x k r hr) in
    ap f split ∙ lf.sums (x * 2 ^ k) r
    ∙ ap₂ bit_xor (at_bit lf lg (2 ^ k) (e k (lt-suc_self k)) x hx) (agree lf lg k (λ i hi. e i (omega arith)) r hr)
    ∙ sym (ap g split ∙ lg.sums (x * 2 ^ k) r)

-- so eight computed tests decide whether they agree at all codes
pub agree8 : {f g : ℕ → ℕ} → Linear f → Linear g → T (every (λ i. nat_eq (f (2 ^ i)) (g (2 ^ i))) 8) → (a : ℕ) → a < 256 → f a ≡ g a
agree8 {f} {g} lf lg t =
    agree lf lg 8 (λ i h. eqb→eq (f (2 ^ i)) (g (2 ^ i)) (at (λ j. nat_eq (f (2 ^ j)) (g (2 ^ j))) 8 t i h))

-- a bit times a number, linear in either
pub scale_num : (x a b : ℕ) → x < 2 → x * bit_xor a b ≡ bit_xor (x * a) (x * b)
scale_num zero a b h = zero-mul (bit_xor a b) ∙ sym (ap₂ bit_xor (zero-mul a) (zero-mul b))
scale_num (suc zero) a b h = one-mul (bit_xor a b) ∙ sym (ap₂ bit_xor (one-mul a) (one-mul b))
scale_num (suc (suc n)) a b h = absurd (omega arith)

pub scale_bit : (a x y : ℕ) → x < 2 → y < 2 → bit_xor x y * a ≡ bit_xor (x * a) (y * a)
scale_bit a zero y hx hy = sym (ap (λ (n : ℕ). bit_xor n (y * a)) (zero-mul a))
scale_bit a (suc zero) zero hx hy = sym (ap (bit_xor (1 * a)) (zero-mul a) ∙ xor_zero_r (1 * a))
scale_bit a (suc zero) (suc zero) hx hy = zero-mul a ∙ sym (xor_self (1 * a))
scale_bit a (suc zero) (suc (suc n)) hx hy = absurd (omega arith)
scale_bit a (suc (suc n)) y hx hy = absurd (omega arith)

pub double : (a b : ℕ) → bit_xor a b * 2 ≡ bit_xor (a * 2) (b * 2)
double a b = sym (simp add-zero at (xor_block 1 a b 0 0 (lit< tt) (lit< tt)))

pub compose : {f g : ℕ → ℕ} → Linear f → Linear g → Linear (λ x. f (g x))
compose {f} {g} lf lg = record { sums = λ a b. ap f (lg.sums a b) ∙ lf.sums (g a) (g b) }

bit : (a : ℕ) → a % 2 < 2
bit a = mod-lt a (lit< tt)

-- a sum over the bits of b is linear in a, where the step is, and in b
over_left_sums : {f : ℕ → ℕ} → Linear f → (k b a c : ℕ) → over_bits f k (bit_xor a c) b ≡ bit_xor (over_bits f k a b) (over_bits f k c b)
unfolding over_bits
over_left_sums lf zero b a c = refl
over_left_sums {f} lf (suc k) b a c =
    ap₂ bit_xor (scale_num (b % 2) a c (bit b))
    (ap (λ (x : ℕ). over_bits f k x (b / 2)) (lf.sums a c) ∙ over_left_sums lf k (b / 2) (f a) (f c))
    ∙ xor_swap (b % 2 * a) (b % 2 * c) (over_bits f k (f a) (b / 2)) (over_bits f k (f c) (b / 2))

over_right_sums : (f : ℕ → ℕ) (k a b c : ℕ) → over_bits f k a (bit_xor b c) ≡ bit_xor (over_bits f k a b) (over_bits f k a c)
unfolding over_bits
over_right_sums f zero a b c = refl
over_right_sums f (suc k) a b c =
    ap₂ bit_xor (ap (λ (x : ℕ). x * a) (xor_mod b c 1) ∙ scale_bit a (b % 2) (c % 2) (bit b) (bit c))
    (ap (over_bits f k (f a)) (xor_shr b c 1) ∙ over_right_sums f k (f a) (b / 2) (c / 2))
    ∙ xor_swap (b % 2 * a) (c % 2 * a) (over_bits f k (f a) (b / 2)) (over_bits f k (f a) (c / 2))

pub over_left : {f : ℕ → ℕ} → Linear f → (k b : ℕ) → Linear (λ a. over_bits f k a b)
over_left lf k b = record { sums = over_left_sums lf k b }

pub over_right : (f : ℕ → ℕ) (k a : ℕ) → Linear (over_bits f k a)
over_right f k a = record { sums = over_right_sums f k a }

pub plus : {f g : ℕ → ℕ} → Linear f → Linear g → Linear (λ x. bit_xor (f x) (g x))
plus {f} {g} lf lg = record { sums = λ a b. ap₂ bit_xor (lf.sums a b) (lg.sums a b) ∙ xor_swap (f a) (f b) (g a) (g b) }
