-- The Cauchy kernel. Assumes nothing.
use mathlib.Core.Path.{◌≡◌, refl, sym, ◌∙◌, ap}
use mathlib.Core.Logic.{◌≢◌}
use Prim.Native.Nat.{ℕ, zero, suc, ◌<◌}
use native.Mathlib.Omega.{arith}
use native.Mathlib.Decide.{ℕ_discrete}
use Rattle.field.specs.Sums.{sum}
use Rattle.algebra.specs.Field.{Field, eval, Distinct, Zeros, Kernel, AnyRows}
use Rattle.algebra.proofs.Ring.{ring, add_assoc, add-zero, zero_add, mul-zero, zero-mul, one-mul, mul_assoc, mul_comm, mul-add, add_neg, sub_not_zero, mul_cancel_zero, mul_not_zero}
use Rattle.algebra.proofs.Poly.{roots}

-- one more coefficient in front
front : {F : Type 0} → F → (ℕ → F) → ℕ → F
front c p zero = c
front c p (suc j) = p j

-- c more at the first coefficient
more : {F : Type 0} → (F → F → F) → F → (ℕ → F) → ℕ → F
more add c p zero = add c (p 0)
more add c p (suc j) = p (suc j)

-- the m + 1 coefficients of (X + b) p, for a p of m
times : {F : Type 0} → F → (F → F → F) → (F → F → F) → F → ℕ → (ℕ → F) → ℕ → F
times o add mul b zero p = λ j. o
times o add mul b (suc m) p = front (mul b (p 0)) (more add (p 0) (times o add mul b m (λ j. p (suc j))))

-- the product of x - b l over l < m
prod : {F : Type 0} → F → (F → F → F) → (F → F → F) → (F → F) → (ℕ → F) → ℕ → F → F
prod e add mul neg b zero x = e
prod e add mul neg b (suc m) x = mul (prod e add mul neg b m x) (add x (neg (b m)))

-- the sum over j < m of y j times the product of x - b l over l < m, l ≠ j
mixed : {F : Type 0} → F → F → (F → F → F) → (F → F → F) → (F → F) → (ℕ → F) → (ℕ → F) → ℕ → F → F
mixed o e add mul neg b y zero x = o
mixed o e add mul neg b y (suc m) x =
    add (mul (mixed o e add mul neg b y m x) (add x (neg (b m)))) (mul (y m) (prod e add mul neg b m x))

module _ {F : Type 0} {o e : F} {◌⊕◌ ◌⊗◌ : F → F → F} {neg inv : F → F} (K : Field o e ◌⊕◌ ◌⊗◌ neg inv) where
  infixl 20 ◌⊕◌
  infixl 25 ◌⊗◌
  times_step : (c v t w x b : F) → v ⊗ (x ⊕ b) ≡ t ⊕ x ⊗ w → (c ⊕ x ⊗ v) ⊗ (x ⊕ b) ≡ b ⊗ c ⊕ x ⊗ (c ⊕ t ⊕ x ⊗ w)
  times_step c v t w x b h = rw (add_assoc K c t (x ⊗ w), ← h) (simp (ring, K))

  eval_times : (m : ℕ) (b : F) (p : ℕ → F) (x : F)
      → eval o ◌⊕◌ ◌⊗◌ m p x ⊗ (x ⊕ b) ≡ eval o ◌⊕◌ ◌⊗◌ (suc m) (times o ◌⊕◌ ◌⊗◌ b m p) x
  unfolding eval times front more
  eval_times zero b p x = simp (ring, K)
  eval_times (suc m) b p x =
      times_step (p 0) _ _ _ x b (eval_times m b (λ j. p (suc j)) x)

  eval_plus : (m : ℕ) (p r : ℕ → F) (x : F) → eval o ◌⊕◌ ◌⊗◌ m p x ⊕ eval o ◌⊕◌ ◌⊗◌ m r x ≡ eval o ◌⊕◌ ◌⊗◌ m (λ j. p j ⊕ r j) x
  unfolding eval
  eval_plus zero p r x = add-zero K o
  eval_plus (suc m) p r x = rw (← eval_plus m (λ j. p (suc j)) (λ j. r (suc j)) x) (simp (ring, K))

  eval_scale : (m : ℕ) (c : F) (p : ℕ → F) (x : F) → c ⊗ eval o ◌⊕◌ ◌⊗◌ m p x ≡ eval o ◌⊕◌ ◌⊗◌ m (λ j. c ⊗ p j) x
  unfolding eval
  eval_scale zero c p x = mul-zero K c
  eval_scale (suc m) c p x = rw (← eval_scale m c (λ j. p (suc j)) x) (simp (ring, K))

  eval_zeros : (m : ℕ) (p : ℕ → F) (x : F) → Zeros o m p → eval o ◌⊕◌ ◌⊗◌ m p x ≡ o
  unfolding eval
  eval_zeros zero p x z = refl
  eval_zeros (suc m) p x z =
      rw (z 0 (omega arith), eval_zeros m (λ j. p (suc j)) x (λ j l. z (suc j) (omega arith))) (simp (ring, K))

  row_step : (v u d i w y : F) → v ≡ u ⊗ w → d ⊗ i ≡ e → v ⊗ d ⊕ y ⊗ u ≡ u ⊗ d ⊗ (w ⊕ i ⊗ y)
  row_step v u d i w y h hi =
      let t : u ⊗ d ⊗ (i ⊗ y) ≡ y ⊗ u = rw (mul_assoc K u d (i ⊗ y), ← mul_assoc K d i y, hi, one-mul K y) (mul_comm K u y) in
      rw (h, mul-add K (u ⊗ d) w (i ⊗ y), t) (simp (mul_assoc, mul_comm, K))

  last_step : (v d y u : F) → v ⊗ d ⊕ y ⊗ u ≡ o → d ≡ o → u ≢ o → y ≡ o
  last_step v d y u h hd hu = mul_cancel_zero K u y hu (mul_comm K u y ∙ (simp (hd, mul-zero, zero_add, K) at h))

  other_step : (v d y u : F) → v ⊗ d ⊕ y ⊗ u ≡ o → u ≡ o → d ≢ o → v ≡ o
  other_step v d y u h hu hd = mul_cancel_zero K d v hd (mul_comm K d v ∙ (simp (hu, mul-zero, add-zero, K) at h))

  -- a function that m coefficients give
  Poly : ℕ → (F → F) → Type 0
  Poly m f = (p : ℕ → F) × ((x : F) → f x ≡ eval o ◌⊕◌ ◌⊗◌ m p x)

  poly_zero : (m : ℕ) (f : F → F) (a : ℕ → F) → Poly m f → Distinct m a → ((i : ℕ) → i < m → f (a i) ≡ o) → (x : F) → f x ≡ o
  unfolding Poly
  poly_zero m f a c d h x =
      c.1 x ∙ eval_zeros m c.0 x (roots K m c.0 a d (λ i l. sym (c.1 (a i)) ∙ h i l))

  module _ (b y : ℕ → F) where
    Q : ℕ → F → F
    Q = prod e ◌⊕◌ ◌⊗◌ neg b

    P : ℕ → F → F
    P = mixed o e ◌⊕◌ ◌⊗◌ neg b y

    QPoly : (m : ℕ) → Poly (suc m) (Q m)
    unfolding Poly Q prod
    QPoly zero = (λ j. e, unfold eval in λ x. simp (mul-zero, add-zero, K))
    QPoly (suc m) =
        let c = QPoly m in (
          times o ◌⊕◌ ◌⊗◌ (neg (b m)) (suc m) c.0,
          λ x. ap (λ v. v ⊗ (x ⊕ neg (b m))) (c.1 x) ∙ eval_times (suc m) (neg (b m)) c.0 x,
        )

    PPoly : (m : ℕ) → Poly m (P m)
    unfolding Poly P Q mixed prod
    PPoly zero = (λ j. o, unfold eval in λ x. refl)
    PPoly (suc m) =
        let c = PPoly m in
        let d = QPoly m in
        let t = times o ◌⊕◌ ◌⊗◌ (neg (b m)) m c.0 in (
          λ j. t j ⊕ y m ⊗ d.0 j,
          λ x. rw (c.1 x, d.1 x, eval_times m (neg (b m)) c.0 x, eval_scale (suc m) (y m) d.0 x)
              (eval_plus (suc m) t (λ j. y m ⊗ d.0 j) x),
        )

    QNotZero : (m : ℕ) (x : F) → ((l : ℕ) → l < m → x ≢ b l) → Q m x ≢ o
    unfolding Q prod
    QNotZero zero x h = K.one_not_zero
    QNotZero (suc m) x h =
        mul_not_zero K _ _ (QNotZero m x (λ l k. h l (omega arith))) (sub_not_zero K x (b m) (h m (omega arith)))

    QZero : (m : ℕ) (l : ℕ) → l < m → Q m (b l) ≡ o
    unfolding Q prod
    QZero zero l h = absurd (omega arith)
    QZero (suc m) l h = elim (ℕ_discrete l m) [
      | yes s ↦ rw (s, add_neg K (b m)) (mul-zero K _)
      | no s ↦ rw (QZero m l (omega arith)) (zero-mul K _)
    ]

    -- off the b, P is Q times the row of inverses
    PRow : (m : ℕ) (x : F) → ((l : ℕ) → l < m → x ≢ b l) → P m x ≡ Q m x ⊗ sum o ◌⊕◌ m (λ j. inv (x ⊕ neg (b j)) ⊗ y j)
    unfolding P Q mixed prod sum
    PRow zero x h = sym (mul-zero K e)
    PRow (suc m) x h =
        row_step _ _ _ _ _ (y m) (PRow m x (λ l k. h l (omega arith)))
        (K.mul_inv (x ⊕ neg (b m)) (sub_not_zero K x (b m) (h m (omega arith))))

    -- if P is zero at each b, y is zero
    PBack : (m : ℕ) → Distinct m b → ((j : ℕ) → j < m → P m (b j) ≡ o) → Zeros o m y
    unfolding P Q mixed prod
    PBack zero d h = λ j l. absurd (omega arith)
    PBack (suc m) d h =
        λ j l. elim (ℕ_discrete j m) [
          | yes t ↦ ap y t ∙ last_step _ _ _ _ (h m (omega arith)) (add_neg K (b m))
              (QNotZero m (b m) (λ l k. d m l (omega arith) (omega arith) (omega arith)))
          | no t ↦ PBack m (λ i k a c. d i k (omega arith) (omega arith))
              (λ i k. other_step _ _ _ _ (h i (omega arith)) (QZero m i k)
              (sub_not_zero K (b i) (b m) (d i m (omega arith) (omega arith) (omega arith)))) j (omega arith)
        ]

    -- where y is zero, P is zero at that b
    PUnit : (m p : ℕ) → p < m → y p ≡ o → P m (b p) ≡ o
    unfolding P Q mixed prod
    PUnit zero p l z = absurd (omega arith)
    PUnit (suc m) p l z = elim (ℕ_discrete p m) [
      | yes t ↦ rw (t, add_neg K (b m), ap y (sym t) ∙ z, mul-zero K (mixed o e ◌⊕◌ ◌⊗◌ neg b y m (b m)), zero-mul K (prod e ◌⊕◌ ◌⊗◌ neg b m (b m))) (add-zero K o)
      | no t ↦ rw (PUnit m p (omega arith) z, QZero m p (omega arith), zero-mul K (b p ⊕ neg (b m)), mul-zero K (y m)) (add-zero K o)
    ]

  -- the rows of inverses of differences: any number m of distinct a and as many b
  pub cauchy : (m : ℕ) (a b : ℕ → F) → Distinct m a → Distinct m b → ((i j : ℕ) → i < m → j < m → a i ≢ b j)
      → Kernel o ◌⊕◌ ◌⊗◌ m (λ r j. inv (a r ⊕ neg (b j)))
  cauchy m a b da db dab x h =
      PBack b x m db (λ j l. poly_zero m (P b x m) a (PPoly b x m) da
      (λ i k. PRow b x m (a i) (λ c n. dab i c k n) ∙ ap (λ v. Q b x m (a i) ⊗ v) (h i k) ∙ mul-zero K _) (b j))

  -- any m of n rows
  pub cauchy_rows : (n m : ℕ) (a b : ℕ → F) → Distinct n a → Distinct m b → ((i j : ℕ) → i < n → j < m → a i ≢ b j)
      → AnyRows o ◌⊕◌ ◌⊗◌ n m (λ r j. inv (a r ⊕ neg (b j)))
  cauchy_rows n m a b da db dab s w t =
      cauchy m (λ k. a (s k)) b (λ i j k l v. da (s i) (s j) (w i k) (w j l) (t i j k l v)) db (λ i j k l. dab (s i) j (w i k) l)
