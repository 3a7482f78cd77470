-- Multiples by the digits of the factor, from the lowest up. Assumes nothing.
use Rattle.std.proofs.Common.{◌≡◌, ℕ, zero, suc, ◌+◌, ◌-◌, ◌/◌, ◌%◌, ◌^◌, ◌<◌, ◌≤◌, sym, ap, ◌∙◌, subst, ap₂, add-one, arith, shr-shr, shr_lt}
use lib.Arith.{lt-one}
use Rattle.field.specs.Laws.{Ops, FieldLaws}
use Rattle.field.specs.Digits.{Digits, gained}

-- what is left to do for n digits of the factor c: a gains x for each digit 1, and x is doubled
unfoldable pub left : Ops → ℕ → ℕ → ℕ → ℕ → ℕ
left K zero c a x = a
left K (suc n) c a x = left K n (c / 2) (gained K (c % 2) a x) (K.mul 2 x)

module _ {K : Ops} (L : FieldLaws K) where
  zero_below : 0 < K.order
  zero_below = omega (arith, L.one_below)

  -- a + b = b leaves a = 0
  cancel : (a b : ℕ) → a < K.order → b < K.order → K.add a b ≡ b → a ≡ 0
  cancel a b ha hb e =
      sym (L.add-zero a ha) ∙ ap (K.add a) (sym (L.add_neg b hb)) ∙ sym (L.add_assoc a b (K.neg b) ha hb (L.neg_below b hb))
      ∙ ap (λ (x : ℕ). K.add x (K.neg b)) e ∙ L.add_neg b hb

  pub mul-zero : (a : ℕ) → a < K.order → K.mul a 0 ≡ 0
  mul-zero a h =
      let z = L.mul_below a 0 h zero_below in
      cancel (K.mul a 0) (K.mul a 0) z z (sym (L.mul-add a 0 0 h zero_below zero_below) ∙ ap (K.mul a) (L.add-zero 0 zero_below))

  pub zero-mul : (a : ℕ) → a < K.order → K.mul 0 a ≡ 0
  zero-mul a h = L.mul_comm 0 a zero_below h ∙ mul-zero a h

  pub one-mul : (a : ℕ) → a < K.order → K.mul 1 a ≡ a
  one-mul a h = L.mul_comm 1 a L.one_below h ∙ L.mul-one a h

  pub zero_add : (a : ℕ) → a < K.order → K.add 0 a ≡ a
  zero_add a h = L.add_comm 0 a zero_below h ∙ L.add-zero a h

  -- (d + 2 h) x = d x + h (2 x)
  spread_out : (d h x : ℕ) → 2 < K.order → d < K.order → h < K.order → x < K.order
      → K.mul (K.add d (K.mul 2 h)) x ≡ K.add (K.mul d x) (K.mul h (K.mul 2 x))
  spread_out d h x l2 ld lh lx =
      let w = L.mul_below 2 h l2 lh in
      L.mul_comm _ x (L.add_below d _ ld w) lx ∙ L.mul-add x d (K.mul 2 h) lx ld w
      ∙ ap₂ K.add (L.mul_comm x d lx ld)
      (L.mul_comm x (K.mul 2 h) lx w ∙ ap (λ (z : ℕ). K.mul z x) (L.mul_comm 2 h l2 lh) ∙ L.mul_assoc h 2 x lh l2 lx)

  -- a, with x added where the digit is 1, is a + d x
  pub gained_is : (d a x : ℕ) → d < 2 → a < K.order → x < K.order → gained K d a x ≡ K.add a (K.mul d x)
  gained_is zero a x h la lx = sym (ap (K.add a) (zero-mul x lx) ∙ L.add-zero a la)
  gained_is (suc zero) a x h la lx = ap (K.add a) (sym (one-mul x lx))
  gained_is (suc (suc n)) a x h la lx = absurd (omega arith)

  pub gained_below : (d a x : ℕ) → d < 2 → a < K.order → x < K.order → gained K d a x < K.order
  gained_below d a x h la lx =
      let ld : d < K.order = omega (arith, L.one_below) in
      subst (λ (z : ℕ). z < K.order) (sym (gained_is d a x h la lx)) (L.add_below a _ la (L.mul_below d x ld lx))

  module _ (D : Digits K) where
    -- n digits are enough for a factor below 2 ^ n
    pub left_is : (n c a x : ℕ) → c < 2 ^ n → c < K.order → a < K.order → x < K.order → left K n c a x ≡ K.add a (K.mul c x)
    unfolding left
    left_is zero c a x h lc la lx =
        sym (ap (λ (z : ℕ). K.add a (K.mul z x)) (lt-one h) ∙ ap (K.add a) (zero-mul x lx) ∙ L.add-zero a la)
    left_is (suc n) c a x h lc la lx =
        let lh : c / 2 < K.order = omega arith in
        let ld : c % 2 < 2 = omega arith in
        let lq : c % 2 < K.order = omega (arith, L.one_below) in
        let l2 = D.two_below in
        let lt = L.mul_below 2 x l2 lx in
        let half : c / 2 < 2 ^ n = shr_lt n 1 (subst (λ (k : ℕ). c < 2 ^ k) (sym (add-one n)) h) in
        left_is n (c / 2) (gained K (c % 2) a x) (K.mul 2 x) half lh (gained_below (c % 2) a x ld la lx) lt
        ∙ ap (λ (z : ℕ). K.add z (K.mul (c / 2) (K.mul 2 x))) (gained_is (c % 2) a x ld la lx)
        ∙ L.add_assoc a _ _ la (L.mul_below _ x lq lx) (L.mul_below _ _ lh lt)
        ∙ ap (K.add a) (sym (spread_out (c % 2) (c / 2) x l2 lq lh lx) ∙ ap (λ (z : ℕ). K.mul z x) (D.binary c lc))

-- one place of the factor f done: the place b is its digit
pub left_next : (K : Ops) (w b f a x a' x' t : ℕ) → b < w → left K (w - b) (f / 2 ^ b) a x ≡ t
    → a' ≡ gained K (f / 2 ^ b % 2) a x → x' ≡ K.mul 2 x → left K (w - (b + 1)) (f / 2 ^ (b + 1)) a' x' ≡ t
unfolding left
left_next K w b f a x a' x' t h e ea ex =
    let less : w - b ≡ suc (w - (b + 1)) = omega arith in
    ap (λ (z : ℕ). left K (w - (b + 1)) z a' x') (sym (shr-shr f b 1))
    ∙ ap₂ (λ (y z : ℕ). left K (w - (b + 1)) (f / 2 ^ b / 2) y z) ea ex
    ∙ sym (ap (λ (n : ℕ). left K n (f / 2 ^ b) a x) less) ∙ e

pub left_none : (K : Ops) (w b c a x t : ℕ) → w ≤ b → left K (w - b) c a x ≡ t → a ≡ t
unfolding left
left_none K w b c a x t h e =
    let none : w - b ≡ 0 = omega arith in
    sym (ap (λ (n : ℕ). left K n c a x) none) ∙ e
