-- What stands of a field, on codes. Assumes nothing.
use mathlib.Core.Path.{◌≡◌, sym, ◌∙◌, ap}
use mathlib.Core.Logic.{◌≢◌, inl, inr}
use Prim.Native.Nat.{ℕ, suc, ◌<◌, ◌≤◌, Fin}
use native.Mathlib.Decide.{ℕ_discrete}
use Rattle.field.specs.Laws.{Ops, FieldLaws}
use Rattle.algebra.specs.Field as abstract
use Rattle.algebra.specs.Field.{Distinct, Zeros, AnyRows, Units, Swapped, Scaled, Added, Columns}
use Rattle.algebra.specs.Codes.{Below, Rows, Points, dot, eval, Solves, Regular, SameSolutions, vandermonde, cauchy, FewVanish}
use Rattle.algebra.proofs.Poly as poly
use Rattle.algebra.proofs.Cauchy as fractions
use Rattle.algebra.proofs.Ring.{sum_same}
use Rattle.algebra.proofs.Distance.{distance}
use Rattle.algebra.proofs.Rows.{swap_alike, scale_alike, add_alike, pivot}
use Rattle.algebra.proofs.Solve.{find, exactly}
use Rattle.algebra.proofs.Hiding.{hiding, hiding_one}
use Rattle.algebra.proofs.Codes.{up, Zero, Add, Mul, Neg, Inv, field, up_code, up_of, up_zero, up_same, up_not_zero, up_add, up_neg, up_inv, up_power, up_eval, up_dot, up_distinct, power_below, dot_down, kernel_codes, regular_kernel, solves_codes, same_codes, units_up, swapped_up, scaled_up, added_up, swapped_below, scaled_below, added_below}

module _ {K : Ops} (L : FieldLaws K) where
  pub root_count : (m : ℕ) (p a : ℕ → ℕ) → Below K.order m p → Below K.order m a → Distinct m a
      → ((i : ℕ) → i < m → eval K m p (a i) ≡ 0) → Zeros 0 m p
  root_count m p a wp wa d h j l =
      up_same L (p j) 0 (wp j l) (Zero L).1
      (poly.roots (field L) m (λ j. up L (p j)) (λ i. up L (a i)) (up_distinct L m a wa d)
      (λ i k. sym (up_eval L m p (a i) wp (wa i k)) ∙ ap (up L) (h i k) ∙ up_zero L) j l ∙ sym (up_zero L))

  pub vandermonde_regular : (m : ℕ) (a : ℕ → ℕ) → Below K.order m a → Distinct m a → Regular K m (vandermonde K a)
  vandermonde_regular m a wa d =
      kernel_codes L m (vandermonde K a) _ (λ r l j k. power_below L (a r) j (wa r l)) (λ r j l k. up_power L (a r) j (wa r l))
      (poly.vandermonde (field L) m (λ i. up L (a i)) (up_distinct L m a wa d))

  -- the entries of Cauchy rows
  entry_below : (n m : ℕ) (a b : ℕ → ℕ) → Points K.order n m a b → (r : ℕ) → r < n → Below K.order m (cauchy K a b r)
  entry_below n m a b p r l j k = L.inv_below _ (L.add_below (a r) (K.neg (b j)) (p.rows r l) (L.neg_below (b j) (p.places j k)))

  up_entry : (n m : ℕ) (a b : ℕ → ℕ) → Points K.order n m a b → (r j : ℕ) → r < n → j < m
      → up L (cauchy K a b r j) ≡ Inv L (Add L (up L (a r)) (Neg L (up L (b j))))
  up_entry n m a b p r j l k =
      let wa = p.rows r l in
      let wb = p.places j k in
      let wn = L.neg_below (b j) wb in
      up_inv L _ (L.add_below (a r) (K.neg (b j)) wa wn) ∙ ap (Inv L) (up_add L (a r) (K.neg (b j)) wa wn ∙ ap (Add L (up L (a r))) (up_neg L (b j) wb))

  up_apart : (n m : ℕ) (a b : ℕ → ℕ) → Points K.order n m a b → (i j : ℕ) → i < n → j < m → up L (a i) ≢ up L (b j)
  up_apart n m a b p i j li lj h = p.apart i j li lj (up_same L (a i) (b j) (p.rows i li) (p.places j lj) h)

  pub cauchy_regular : (m : ℕ) (a b : ℕ → ℕ) → Points K.order m m a b → Regular K m (cauchy K a b)
  cauchy_regular m a b p =
      kernel_codes L m (cauchy K a b) _ (entry_below m m a b p) (up_entry m m a b p)
      (fractions.cauchy (field L) m (λ i. up L (a i)) (λ j. up L (b j)) (up_distinct L m a p.rows p.rows_differ) (up_distinct L m b p.places p.places_differ)
      (up_apart m m a b p))

  -- n rows of codes, any m of which have a trivial kernel as elements
  few_vanish : (n m : ℕ) (A : ℕ → ℕ → ℕ) (B : ℕ → ℕ → Fin K.order) → ((r : ℕ) → r < n → Below K.order m (A r))
      → ((r j : ℕ) → r < n → j < m → up L (A r j) ≡ B r j) → AnyRows (Zero L) (Add L) (Mul L) n m B → FewVanish K n m A
  few_vanish n m A B wA h any x wx j l nz t z =
      distance (Zero L) (Add L) (Mul L) n m B any (λ j. up L (x j)) j l (up_not_zero L (x j) (wx j l) nz) t
      (λ i li ti. sum_same (Zero L) (Add L) m _ _ (λ k lk. ap (λ w. Mul L w (up L (x k))) (sym (h i k li lk)))
      ∙ sym (up_dot L m (A i) x (wA i li) wx) ∙ ap (up L) (z i li ti) ∙ up_zero L)

  pub vandermonde_few : (n m : ℕ) (a : ℕ → ℕ) → Below K.order n a → Distinct n a → FewVanish K n m (vandermonde K a)
  vandermonde_few n m a wa d =
      few_vanish n m (vandermonde K a) _ (λ r l j k. power_below L (a r) j (wa r l)) (λ r j l k. up_power L (a r) j (wa r l))
      (poly.vandermonde_rows (field L) n m (λ i. up L (a i)) (up_distinct L n a wa d))

  pub cauchy_few : (n m : ℕ) (a b : ℕ → ℕ) → Points K.order n m a b → FewVanish K n m (cauchy K a b)
  cauchy_few n m a b p =
      few_vanish n m (cauchy K a b) _ (entry_below n m a b p) (up_entry n m a b p)
      (fractions.cauchy_rows (field L) n m (λ i. up L (a i)) (λ j. up L (b j)) (up_distinct L n a p.rows p.rows_differ) (up_distinct L m b p.places p.places_differ)
      (up_apart n m a b p))

  pub swap_keeps : (m i j : ℕ) → i < m → j < m → (A B : ℕ → ℕ → ℕ) (s t : ℕ → ℕ) → Rows K.order m m A → Below K.order m s
      → Columns m (Swapped m i j) A B → Swapped m i j s t → SameSolutions K m A s B t
  swap_keeps m i j li lj A B s t wA ws a b =
      same_codes L m A B s t wA (λ r l c k. swapped_below L m (λ r. A r c) (λ r. B r c) (λ r l. wA r l c k) i j li lj (a c k) r l) ws (swapped_below L m s t ws i j li lj b)
      (swap_alike (field L) m i j li lj _ _ _ _ (λ c k. swapped_up L m (λ r. A r c) (λ r. B r c) (λ r l. wA r l c k) i j (a c k)) (swapped_up L m s t ws i j b))

  pub scale_keeps : (m i k : ℕ) → i < m → k < K.order → k ≢ 0 → (A B : ℕ → ℕ → ℕ) (s t : ℕ → ℕ) → Rows K.order m m A → Below K.order m s
      → Columns m (Scaled K.mul m i k) A B → Scaled K.mul m i k s t → SameSolutions K m A s B t
  scale_keeps m i k li lk nk A B s t wA ws a b =
      same_codes L m A B s t wA (λ r l c d. scaled_below L m (λ r. A r c) (λ r. B r c) (λ r l. wA r l c d) i k li lk (a c d) r l) ws (scaled_below L m s t ws i k li lk b)
      (scale_alike (field L) m i (up L k) li (up_not_zero L k lk nk) _ _ _ _ (λ c d. scaled_up L m (λ r. A r c) (λ r. B r c) (λ r l. wA r l c d) i k li lk (a c d)) (scaled_up L m s t ws i k li lk b))

  pub add_keeps : (m i j k : ℕ) → i < m → j < m → i ≢ j → k < K.order → (A B : ℕ → ℕ → ℕ) (s t : ℕ → ℕ) → Rows K.order m m A → Below K.order m s
      → Columns m (Added K.add K.mul m i j k) A B → Added K.add K.mul m i j k s t → SameSolutions K m A s B t
  add_keeps m i j k li lj n lk A B s t wA ws a b =
      same_codes L m A B s t wA (λ r l c d. added_below L m (λ r. A r c) (λ r. B r c) (λ r l. wA r l c d) i j k li lj lk (a c d) r l) ws (added_below L m s t ws i j k li lj lk b)
      (add_alike (field L) m i j (up L k) lj n _ _ _ _ (λ c d. added_up L m (λ r. A r c) (λ r. B r c) (λ r l. wA r l c d) i j k li lj lk (a c d)) (added_up L m s t ws i j k li lj lk b))

  -- a column with no pivot
  pub no_pivot : (m c : ℕ) (A : ℕ → ℕ → ℕ) → c < m → Rows K.order m m A → Units 0 1 m c A → Regular K m A → ((r : ℕ) → c ≤ r → r < m → A r c ≡ 0) → ⊥
  no_pivot m c A l wA u h z =
      pivot (field L) m (λ r j. up L (A r j)) (regular_kernel L m A wA h) c l (units_up L m c A u) (λ r a d. ap (up L) (z r a d) ∙ up_zero L)

  pub pivot_found : (m c : ℕ) (A : ℕ → ℕ → ℕ) → c < m → Rows K.order m m A → Units 0 1 m c A → Regular K m A
      → (r : ℕ) × (c ≤ r) × (r < m) × (A r c ≢ 0)
  pivot_found m c A l wA u h = elim (find 0 ℕ_discrete (λ r. A r c) c m) [ inl p ↦ p | inr z ↦ absurd (no_pivot m c A l wA u h z) ]

  pub one_solution : (m : ℕ) (A : ℕ → ℕ → ℕ) → Rows K.order m m A → Regular K m A → (s : ℕ → ℕ) → Below K.order m s
      → (x : ℕ → ℕ) × Below K.order m x × Solves K m A x s
      × ((y : ℕ → ℕ) → Below K.order m y → Solves K m A y s → (j : ℕ) → j < m → y j ≡ x j)
  one_solution m A wA h s ws =
      let (t, f) = exactly (field L) m (λ r j. up L (A r j)) (λ r. up L (s r)) (regular_kernel L m A wA h) in
      let x : ℕ → ℕ = λ j. (t j).0 in
      let wx : Below K.order m x = λ j l. (t j).1 in (
        x,
        wx,
        (solves_codes L m A x s wA wx ws).1 ((f (λ j. up L (x j))).1 (λ j l. up_of L (t j))),
        λ y wy p j l. sym (up_code L (y j) (wy j l)) ∙ ap (λ c. c.0) ((f (λ j. up L (y j))).0 ((solves_codes L m A y s wA wy ws).0 p) j l),
      )

  pub any_value_fits : (m : ℕ) (a b : ℕ → ℕ) → Points K.order m (suc m) a b → (p : ℕ) → p < suc m → (s : ℕ → ℕ) → Below K.order m s
      → (v : ℕ) → v < K.order
      → (x : ℕ → ℕ) × Below K.order (suc m) x × (x p ≡ v) × ((r : ℕ) → r < m → dot K (suc m) (cauchy K a b r) x ≡ s r)
  any_value_fits m a b q p lp s ws v lv =
      let (y, hp, h) = hiding (field L) m (λ i. up L (a i)) (λ j. up L (b j)) (up_distinct L m a q.rows q.rows_differ) (up_distinct L (suc m) b q.places q.places_differ)
      (up_apart m (suc m) a b q) p lp (λ r. up L (s r)) (up L v) in (
        λ j. (y j).0,
        λ j l. (y j).1,
        ap (λ c. c.0) hp ∙ up_code L v lv,
        λ r l. dot_down L (suc m) (cauchy K a b r) y (entry_below m (suc m) a b q r l)
            ∙ ap (λ c. c.0) (sum_same (Zero L) (Add L) (suc m) _ _ (λ j k. ap (λ w. Mul L w (y j)) (up_entry m (suc m) a b q r j l k)) ∙ h r l) ∙ up_code L (s r) (ws r l),
      )

  pub in_one_way : (m : ℕ) (a b : ℕ → ℕ) → Points K.order m (suc m) a b → (p : ℕ) → p < suc m
      → (x y : ℕ → ℕ) → Below K.order (suc m) x → Below K.order (suc m) y → x p ≡ y p
      → ((r : ℕ) → r < m → dot K (suc m) (cauchy K a b r) x ≡ dot K (suc m) (cauchy K a b r) y)
      → (j : ℕ) → j < suc m → x j ≡ y j
  in_one_way m a b q p lp x y wx wy hp h j l =
      let row : (z : ℕ → ℕ) → Below K.order (suc m) z → (r : ℕ) → r < m → up L (dot K (suc m) (cauchy K a b r) z)
      ≡ abstract.dot (Zero L) (Add L) (Mul L) (suc m) (λ j. Inv L (Add L (up L (a r)) (Neg L (up L (b j))))) (λ j. up L (z j))
      = λ z wz r d. up_dot L (suc m) (cauchy K a b r) z (entry_below m (suc m) a b q r d) wz
      ∙ sum_same (Zero L) (Add L) (suc m) _ _ (λ j k. ap (λ w. Mul L w (up L (z j))) (up_entry m (suc m) a b q r j d k)) in
      up_same L (x j) (y j) (wx j l) (wy j l)
      (hiding_one (field L) m (λ i. up L (a i)) (λ j. up L (b j)) (up_distinct L m a q.rows q.rows_differ) (up_distinct L (suc m) b q.places q.places_differ)
      (up_apart m (suc m) a b q) p lp (λ j. up L (x j)) (λ j. up L (y j)) (ap (up L) hp)
      (λ r d. sym (row x wx r d) ∙ ap (up L) (h r d) ∙ row y wy r d) j l)
