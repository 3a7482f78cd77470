-- Polynomials over a field, by their coefficients: the number of roots; the Vandermonde kernel. Assumes nothing.
use mathlib.Core.Path.{◌≡◌, refl, sym, ◌∙◌, ap}
use mathlib.Core.Logic.{◌≢◌}
use Prim.Native.Nat.{ℕ, zero, suc, ◌<◌}
use native.Mathlib.Omega.{arith}
use Rattle.field.specs.Sums.{sum}
use Rattle.algebra.specs.Field.{Field, power, eval, Distinct, Zeros, Kernel, AnyRows}
use Rattle.algebra.proofs.Ring.{ring, add_assoc, add_left_comm, add_neg, add-zero, zero_add, mul-zero, one-mul, sub_not_zero, mul_cancel_zero, mul_assoc, mul_comm, sum_congr, sum_scale}

-- the m coefficients of (p - p r) / (X - r), for a p of m + 1 coefficients
quot : {F : Type 0} → F → (F → F → F) → (F → F → F) → ℕ → (ℕ → F) → F → ℕ → F
quot o add mul zero p r j = o
quot o add mul (suc m) p r zero = eval o add mul (suc m) (λ j. p (suc j)) r
quot o add mul (suc m) p r (suc j) = quot o add mul m (λ j. p (suc j)) r j

module _ {F : Type 0} {o e : F} {◌⊕◌ ◌⊗◌ : F → F → F} {neg inv : F → F} (K : Field o e ◌⊕◌ ◌⊗◌ neg inv) where
  infixl 20 ◌⊕◌
  infixl 25 ◌⊗◌
  -- r + (x - r) = x
  pub add_sub : (r x : F) → r ⊕ (x ⊕ neg r) ≡ x
  add_sub r x = rw (add_left_comm K r x (neg r), add_neg K r, add-zero K x)

  step : (c v g x r d : F) → r ⊕ d ≡ x → c ⊕ x ⊗ (v ⊕ d ⊗ g) ≡ (c ⊕ r ⊗ v) ⊕ d ⊗ (v ⊕ x ⊗ g)
  step c v g x r d h = rw (← h) (simp (ring, K))

  divide : (m : ℕ) (p : ℕ → F) (r x : F)
      → eval o ◌⊕◌ ◌⊗◌ (suc m) p x ≡ eval o ◌⊕◌ ◌⊗◌ (suc m) p r ⊕ (x ⊕ neg r) ⊗ eval o ◌⊕◌ ◌⊗◌ m (quot o ◌⊕◌ ◌⊗◌ m p r) x
  unfolding eval quot
  divide zero p r x = simp (mul-zero, add-zero, K)
  divide (suc m) p r x =
      ap (λ v. p 0 ⊕ x ⊗ v) (divide m (λ j. p (suc j)) r x) ∙ step _ _ _ x r (x ⊕ neg r) (add_sub r x)

  -- a root of p, at which the quotient is zero, leaves nothing of p
  back : (m : ℕ) (p : ℕ → F) (r : F) → eval o ◌⊕◌ ◌⊗◌ (suc m) p r ≡ o → Zeros o m (quot o ◌⊕◌ ◌⊗◌ m p r) → Zeros o (suc m) p
  unfolding eval quot
  back zero p r h z zero l = simp (mul-zero, add-zero, K) at h
  back zero p r h z (suc j) l = absurd (omega arith)
  back (suc m) p r h z zero l = simp (z 0 (omega arith), mul-zero, add-zero, K) at h
  back (suc m) p r h z (suc j) l =
      back m (λ j. p (suc j)) r (z 0 (omega arith)) (λ i k. z (suc i) (omega arith)) j (omega arith)

  root_step : (u w d g : F) → u ≡ w ⊕ d ⊗ g → u ≡ o → w ≡ o → d ≢ o → g ≡ o
  root_step u w d g h hu hw hd = mul_cancel_zero K d g hd (sym (zero_add K (d ⊗ g)) ∙ ap (λ v. v ⊕ d ⊗ g) (sym hw) ∙ sym h ∙ hu)

  -- a polynomial with m coefficients and m roots is zero
  pub roots : (m : ℕ) (p a : ℕ → F) → Distinct m a → ((i : ℕ) → i < m → eval o ◌⊕◌ ◌⊗◌ m p (a i) ≡ o) → Zeros o m p
  roots zero p a d h = λ j l. absurd (omega arith)
  roots (suc m) p a d h =
      back m p (a m) (h m (omega arith))
      (roots m (quot o ◌⊕◌ ◌⊗◌ m p (a m)) a (λ i j k l. d i j (omega arith) (omega arith))
      (λ i l.
      root_step _ _ _ _ (divide m p (a m) (a i)) (h i (omega arith)) (h m (omega arith))
      (sub_not_zero K (a i) (a m) (d i m (omega arith) (omega arith) (omega arith)))))

  pub sum_first : (n : ℕ) (f : ℕ → F) → sum o ◌⊕◌ (suc n) f ≡ f 0 ⊕ sum o ◌⊕◌ n (λ j. f (suc j))
  unfolding sum
  sum_first zero f = zero_add K (f 0) ∙ sym (add-zero K (f 0))
  sum_first (suc n) f = ap (λ v. v ⊕ f (suc n)) (sum_first n f) ∙ add_assoc K _ _ _

  -- a polynomial is the sum of its terms
  pub eval_sum : (m : ℕ) (p : ℕ → F) (x : F) → sum o ◌⊕◌ m (λ j. power e ◌⊗◌ x j ⊗ p j) ≡ eval o ◌⊕◌ ◌⊗◌ m p x
  unfolding eval power
  eval_sum zero p x = unfold sum in refl
  eval_sum (suc m) p x =
      sum_first m (λ j. power e ◌⊗◌ x j ⊗ p j) ∙ rw (one-mul K (p 0)) (ap (λ v. p 0 ⊕ v)
      (sum_congr K m _ (λ j. x ⊗ (power e ◌⊗◌ x j ⊗ p (suc j))) (λ j l. simp (mul_assoc, mul_comm, K))
      ∙ sum_scale K m x (λ j. power e ◌⊗◌ x j ⊗ p (suc j)) ∙ ap (λ v. x ⊗ v) (eval_sum m (λ j. p (suc j)) x)))

  -- the rows of powers of m distinct elements
  pub vandermonde : (m : ℕ) (a : ℕ → F) → Distinct m a → Kernel o ◌⊕◌ ◌⊗◌ m (λ r j. power e ◌⊗◌ (a r) j)
  vandermonde m a d x h = roots m x a d (λ i l. sym (eval_sum m x (a i)) ∙ h i l)

  -- any m of n rows of powers
  pub vandermonde_rows : (n m : ℕ) (a : ℕ → F) → Distinct n a → AnyRows o ◌⊕◌ ◌⊗◌ n m (λ r j. power e ◌⊗◌ (a r) j)
  vandermonde_rows n m a d s w t = vandermonde m (λ k. a (s k)) (λ i j k l v. d (s i) (s j) (w i k) (w j l) (t i j k l v))
