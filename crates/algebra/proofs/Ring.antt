-- Ring laws and finite sums over a field. Assumes nothing.
use mathlib.Core.Logic.{◌≢◌}
use mathlib.Core.Path.{◌≡◌, refl, sym, ◌∙◌, ap}
use Prim.Native.Nat.{ℕ, zero, suc, ◌<◌}
use native.Mathlib.Omega.{arith}
use native.Mathlib.Decide.{ℕ_discrete}
use Rattle.field.specs.Sums.{sum}
use Rattle.algebra.specs.Field.{Field, Zeros}

-- a sum by its terms: no law is needed
pub sum_same : {F : Type 0} (o : F) (add : F → F → F) (n : ℕ) (f g : ℕ → F) → ((j : ℕ) → j < n → f j ≡ g j) → sum o add n f ≡ sum o add n g
unfolding sum
sum_same o add zero f g h = refl
sum_same o add (suc n) f g h = let p = sum_same o add n f g (λ j l. h j (omega arith)) in let r = h n (omega arith) in cc

module _ {F : Type 0} {o e : F} {◌⊕◌ ◌⊗◌ : F → F → F} {neg inv : F → F} (K : Field o e ◌⊕◌ ◌⊗◌ neg inv) where
  infixl 20 ◌⊕◌
  infixl 25 ◌⊗◌
  pub add_assoc : (a b c : F) → (a ⊕ b) ⊕ c ≡ a ⊕ (b ⊕ c)
  add_assoc = K.add_assoc

  pub add_comm : (a b : F) → a ⊕ b ≡ b ⊕ a
  add_comm = K.add_comm

  pub add_left_comm : (a b c : F) → a ⊕ (b ⊕ c) ≡ b ⊕ (a ⊕ c)
  add_left_comm a b c = rw (← add_assoc a b c, add_comm a b, add_assoc b a c)

  pub add-zero : (a : F) → a ⊕ o ≡ a
  add-zero = K.add-zero

  pub zero_add : (a : F) → o ⊕ a ≡ a
  zero_add a = add_comm o a ∙ add-zero a

  pub mul_assoc : (a b c : F) → (a ⊗ b) ⊗ c ≡ a ⊗ (b ⊗ c)
  mul_assoc = K.mul_assoc

  pub mul_comm : (a b : F) → a ⊗ b ≡ b ⊗ a
  mul_comm = K.mul_comm

  pub mul_left_comm : (a b c : F) → a ⊗ (b ⊗ c) ≡ b ⊗ (a ⊗ c)
  mul_left_comm a b c = rw (← mul_assoc a b c, mul_comm a b, mul_assoc b a c)

  pub mul-one : (a : F) → a ⊗ e ≡ a
  mul-one = K.mul-one

  pub one-mul : (a : F) → e ⊗ a ≡ a
  one-mul a = mul_comm e a ∙ mul-one a

  pub mul-add : (a b c : F) → a ⊗ (b ⊕ c) ≡ (a ⊗ b) ⊕ (a ⊗ c)
  mul-add = K.mul-add

  pub add-mul : (a b c : F) → (a ⊕ b) ⊗ c ≡ (a ⊗ c) ⊕ (b ⊗ c)
  add-mul a b c = simp (mul_comm a c, mul_comm b c, ← mul-add c a b) (mul_comm (a ⊕ b) c)

  pub add_neg : (a : F) → a ⊕ neg a ≡ o
  add_neg = K.add_neg

  pub neg_add : (a : F) → neg a ⊕ a ≡ o
  neg_add a = add_comm (neg a) a ∙ add_neg a

  -- a + b = a + c gives b = c
  pub add_cancel : (a b c : F) → a ⊕ b ≡ a ⊕ c → b ≡ c
  add_cancel a b c h =
      let p : neg a ⊕ (a ⊕ b) ≡ neg a ⊕ (a ⊕ c) = ap (λ x. neg a ⊕ x) h in
      simp (← add_assoc (neg a) a b, ← add_assoc (neg a) a c, neg_add, zero_add) at p

  pub mul-zero : (a : F) → a ⊗ o ≡ o
  mul-zero a = add_cancel (a ⊗ o) (a ⊗ o) o (sym (mul-add a o o) ∙ ap (λ x. a ⊗ x) (add-zero o) ∙ sym (add-zero (a ⊗ o)))

  pub zero-mul : (a : F) → o ⊗ a ≡ o
  zero-mul a = mul_comm o a ∙ mul-zero a

  -- a - b = 0 gives a = b
  pub sub_zero : (a b : F) → a ⊕ neg b ≡ o → a ≡ b
  sub_zero a b h = add_cancel (neg b) a b (add_comm (neg b) a ∙ h ∙ sym (neg_add b))

  pub sub_not_zero : (a b : F) → a ≢ b → (a ⊕ neg b) ≢ o
  sub_not_zero a b n h = n (sub_zero a b h)

  -- no divisors of zero
  pub mul_cancel_zero : (a b : F) → a ≢ o → a ⊗ b ≡ o → b ≡ o
  mul_cancel_zero a b n h =
      sym (one-mul b) ∙ ap (λ x. x ⊗ b) (sym (K.mul_inv a n) ∙ mul_comm a (inv a)) ∙ mul_assoc (inv a) a b
      ∙ ap (λ x. inv a ⊗ x) h ∙ mul-zero (inv a)

  pub mul_not_zero : (a b : F) → a ≢ o → b ≢ o → (a ⊗ b) ≢ o
  mul_not_zero a b na nb h = nb (mul_cancel_zero a b na h)

  pub ruleset ring = (
    add_assoc,
    add_comm,
    add_left_comm,
    add-zero,
    zero_add,
    mul_assoc,
    mul_comm,
    mul_left_comm,
    mul-one,
    one-mul,
    mul-add,
    add-mul,
    mul-zero,
    zero-mul,
  )

  pub sum_congr : (n : ℕ) (f g : ℕ → F) → ((j : ℕ) → j < n → f j ≡ g j) → sum o ◌⊕◌ n f ≡ sum o ◌⊕◌ n g
  sum_congr = sum_same o ◌⊕◌

  pub sum_zeros : (n : ℕ) (f : ℕ → F) → Zeros o n f → sum o ◌⊕◌ n f ≡ o
  unfolding sum
  sum_zeros zero f h = refl
  sum_zeros (suc n) f h = rw (sum_zeros n f (λ j l. h j (omega arith)), h n (omega arith), add-zero o)

  pub sum_add : (n : ℕ) (f g : ℕ → F) → sum o ◌⊕◌ n (λ j. f j ⊕ g j) ≡ sum o ◌⊕◌ n f ⊕ sum o ◌⊕◌ n g
  unfolding sum
  sum_add zero f g = sym (add-zero o)
  sum_add (suc n) f g = rw (sum_add n f g) (simp (add_assoc, add_left_comm, add_comm))

  pub sum_scale : (n : ℕ) (k : F) (f : ℕ → F) → sum o ◌⊕◌ n (λ j. k ⊗ f j) ≡ k ⊗ sum o ◌⊕◌ n f
  unfolding sum
  sum_scale zero k f = sym (mul-zero k)
  sum_scale (suc n) k f = rw (sum_scale n k f, mul-add)

  -- a sum with one term that may not be zero
  pub sum_one : (n p : ℕ) (f : ℕ → F) → p < n → ((j : ℕ) → j < n → j ≢ p → f j ≡ o) → sum o ◌⊕◌ n f ≡ f p
  unfolding sum
  sum_one zero p f l h = absurd (omega arith)
  sum_one (suc n) p f l h = elim (ℕ_discrete n p) [
    | yes s ↦ rw (sum_zeros n f (λ j k. h j (omega arith) (omega arith)), zero_add) (ap f s)
    | no s ↦ rw (h n (omega arith) s, add-zero) (sum_one n p f (omega arith) (λ j k. h j (omega arith)))
  ]
