-- Cauchy rows with one place fixed. Assumes nothing.
use mathlib.Core.Path.{◌≡◌, refl, sym, ◌∙◌, ap}
use mathlib.Core.Logic.{◌≢◌}
use Prim.Native.Nat.{ℕ, zero, suc, ◌<◌, ◌≤◌}
use native.Mathlib.Omega.{arith}
use Rattle.field.specs.Sums.{sum}
use Rattle.algebra.specs.Field.{Field, dot, Distinct, Kernel, identity}
use Rattle.algebra.proofs.Ring.{add_left_comm, zero_add, mul-zero}
use Rattle.algebra.proofs.Poly.{sum_first}
use Rattle.algebra.proofs.Cauchy.{cauchy}
use Rattle.algebra.proofs.Rows.{dot_unit}
use Rattle.algebra.proofs.Solve.{solve, unique, identity_at, identity_off}

-- the places but p, in order
skip : ℕ → ℕ → ℕ
skip zero j = suc j
skip (suc p) zero = zero
skip (suc p) (suc j) = suc (skip p j)

skip_below : (p j m : ℕ) → j < m → skip p j < suc m
unfolding skip
skip_below zero j m l = omega arith
skip_below (suc p) zero m l = omega arith
skip_below (suc p) (suc j) zero l = absurd (omega arith)
skip_below (suc p) (suc j) (suc m) l = let h = skip_below p j m (omega arith) in omega arith

skip_distinct : (p i j : ℕ) → i ≢ j → skip p i ≢ skip p j
unfolding skip
skip_distinct zero i j n = omega arith
skip_distinct (suc p) zero zero n = n
skip_distinct (suc p) zero (suc j) n = omega arith
skip_distinct (suc p) (suc i) zero n = omega arith
skip_distinct (suc p) (suc i) (suc j) n = let h = skip_distinct p i j (omega arith) in omega arith

-- each place is p, or one of the others
skip_all : (P : ℕ → Type 0) (p m : ℕ) → p ≤ m → P p → ((j : ℕ) → j < m → P (skip p j)) → (k : ℕ) → k < suc m → P k
unfolding skip
skip_all P zero m a h g zero l = h
skip_all P zero m a h g (suc k) l = g k (omega arith)
skip_all P (suc p) zero a h g k l = absurd (omega arith)
skip_all P (suc p) (suc m) a h g zero l = g 0 (omega arith)
skip_all P (suc p) (suc m) a h g (suc k) l =
    skip_all (λ n. P (suc n)) p m (omega arith) h (λ j d. g (suc j) (omega arith)) k (omega arith)

-- the row u on top of the rows of A
on_top : {F : Type 0} → (ℕ → F) → (ℕ → ℕ → F) → ℕ → ℕ → F
on_top u A zero = u
on_top u A (suc r) = A r

-- the number v on top of s
over : {F : Type 0} → F → (ℕ → F) → ℕ → F
over v s zero = v
over v s (suc r) = s r

module _ {F : Type 0} {o e : F} {◌⊕◌ ◌⊗◌ : F → F → F} {neg inv : F → F} (K : Field o e ◌⊕◌ ◌⊗◌ neg inv) where
  infixl 20 ◌⊕◌
  infixl 25 ◌⊗◌
  sum_skip : (p m : ℕ) (f : ℕ → F) → p ≤ m → sum o ◌⊕◌ (suc m) f ≡ f p ⊕ sum o ◌⊕◌ m (λ j. f (skip p j))
  unfolding skip
  sum_skip zero m f l = sum_first K m f
  sum_skip (suc p) zero f l = absurd (omega arith)
  sum_skip (suc p) (suc m) f l =
      sum_first K (suc m) f ∙ ap (λ z. f 0 ⊕ z) (sum_skip p m (λ j. f (suc j)) (omega arith)) ∙ add_left_comm K _ _ _
      ∙ ap (λ z. f (suc p) ⊕ z) (sym (sum_first K m (λ j. f (skip (suc p) j))))

  module _ (m : ℕ) (a b : ℕ → F) (da : Distinct m a) (db : Distinct (suc m) b) (dab : (i j : ℕ) → i < m → j < suc m → a i ≢ b j)
      (p : ℕ) (lp : p < suc m) where
    -- the row that reads the place p, then m Cauchy rows of m + 1 unknowns
    rows : ℕ → ℕ → F
    rows = on_top (identity o e p) (λ r j. inv (a r ⊕ neg (b j)))

    rows_kernel : Kernel o ◌⊕◌ ◌⊗◌ (suc m) rows
    unfolding rows on_top
    rows_kernel x h =
        let zp : x p ≡ o = sym (dot_unit K (suc m) p (identity o e p) x lp (identity_at o e p) (λ c l n. identity_off o e p c (λ v. n (sym v)))) ∙ h 0 (omega arith) in
        skip_all (λ k. x k ≡ o) p m (omega arith) zp
        (cauchy K m a (λ j. b (skip p j)) da
        (λ i j li lj n. db (skip p i) (skip p j) (skip_below p i m li) (skip_below p j m lj) (skip_distinct p i j n))
        (λ i j li lj. dab i (skip p j) li (skip_below p j m lj)) (λ j. x (skip p j))
        (λ r l. sym (zero_add K _) ∙ ap (λ z. z ⊕ sum o ◌⊕◌ m (λ j. inv (a r ⊕ neg (b (skip p j))) ⊗ x (skip p j)))
        (sym (ap (λ z. inv (a r ⊕ neg (b p)) ⊗ z) zp ∙ mul-zero K _))
        ∙ sym (sum_skip p m (λ j. inv (a r ⊕ neg (b j)) ⊗ x j) (omega arith)) ∙ h (suc r) (omega arith)))

    -- whatever the m rows give, any value v of the place p fits
    pub hiding : (s : ℕ → F) (v : F)
        → (x : ℕ → F) × (x p ≡ v) × ((r : ℕ) → r < m → dot o ◌⊕◌ ◌⊗◌ (suc m) (λ j. inv (a r ⊕ neg (b j))) x ≡ s r)
    unfolding rows on_top over
    hiding s v =
        let (x, h) = solve K (suc m) rows rows_kernel (over v s) in (
          x,
          sym (dot_unit K (suc m) p (identity o e p) x lp (identity_at o e p) (λ c l n. identity_off o e p c (λ v. n (sym v)))) ∙ h 0 (omega arith),
          λ r l. h (suc r) (omega arith),
        )

    -- and only one x fits with it
    pub hiding_one : (x y : ℕ → F) → x p ≡ y p
        → ((r : ℕ) → r < m → dot o ◌⊕◌ ◌⊗◌ (suc m) (λ j. inv (a r ⊕ neg (b j))) x ≡ dot o ◌⊕◌ ◌⊗◌ (suc m) (λ j. inv (a r ⊕ neg (b j))) y)
        → (j : ℕ) → j < suc m → x j ≡ y j
    unfolding rows on_top
    hiding_one x y hp h =
        let at : (z : ℕ → F) → dot o ◌⊕◌ ◌⊗◌ (suc m) (identity o e p) z ≡ z p = λ z.
        dot_unit K (suc m) p (identity o e p) z lp (identity_at o e p) (λ c l n. identity_off o e p c (λ v. n (sym v))) in
        unique K (suc m) rows rows_kernel x y (λ r. dot o ◌⊕◌ ◌⊗◌ (suc m) (rows r) y)
        (elim [ zero ↦ λ l. at x ∙ hp ∙ sym (at y) | suc r ↦ λ l. h r (omega arith) ]) (λ r l. refl)
