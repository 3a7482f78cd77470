-- Elimination on codes in one list: what each step keeps, and the end. Assumes nothing.
use mathlib.Core.Path.{◌≡◌, refl, sym, ◌∙◌, ap, ap₂}
use mathlib.Core.Logic.{◌≢◌, ◌↔◌}
use mathlib.Core.List.{List}
use Prim.Native.Nat.{ℕ, suc, ◌+◌, ◌<◌, ◌≤◌, Fin}
use native.Mathlib.Numerals.{add-one}
use native.Mathlib.Omega.{arith}
use Rattle.field.specs.Laws.{Ops, FieldLaws}
use Rattle.algebra.specs.Field as abstract
use Rattle.algebra.specs.Field.{Units, Scaled, Added, Cleared, Columns}
use Rattle.algebra.specs.Codes.{Below, Rows, dot, Regular}
use Rattle.algebra.specs.Flat.{cell, column, Grid, Reduced, Eliminated}
use Rattle.algebra.proofs.Ring.{mul-zero}
use Rattle.algebra.proofs.Rows.{units_none, units_scale, units_add, units_clear, units_row, scale_alike, add_alike, clear_alike, scaled_zeros, added_zeros, cleared_zeros, kernel_kept}
use Rattle.algebra.proofs.Codes.{up, Zero, One, Add, Mul, field, up_zero, up_same, up_not_zero, up_mul, up_neg, up_one, up_dot, dot_below, kernel_codes, regular_kernel, same_codes, units_up, units_down, scaled_up, added_up, cleared_up}
use Rattle.algebra.proofs.OnCodes.{no_pivot}

-- the first m columns of a grid that is at least as wide
part : (q m w : ℕ) (ys : List ℕ) → m ≤ w → Grid q m w ys → Rows q m m (cell w ys)
part q m w ys h g r l j k = g.below r l j (omega arith)

module _ {K : Ops} (L : FieldLaws K) where
  -- the entries of a grid as elements
  lifted : ℕ → List ℕ → ℕ → ℕ → Fin K.order
  lifted w ys r j = up L (cell w ys r j)

  -- the system with the coefficients of ys and the right side t, as elements
  Says : ℕ → ℕ → List ℕ → (ℕ → Fin K.order) → (ℕ → Fin K.order) → Type 0
  Says m w ys t x = abstract.Solves (Zero L) (Add L) (Mul L) m (lifted w ys) x t

  pub reduced_start : (m w : ℕ) (xs : List ℕ) → m ≤ w → Grid K.order m w xs → Regular K m (cell w xs) → Reduced K m w 0 xs xs
  reduced_start m w xs h g reg = record { grid = g; units = units_none 0 1 m (cell w xs); regular = reg; keeps = λ n a b x wx. (λ p. p, λ p. p) }

  -- a step that keeps the solutions of the right sides, and of zeros
  step : (m w c d : ℕ) (xs ys zs : List ℕ) → Reduced K m w c xs ys → m ≤ w → d ≤ m → Grid K.order m w zs
      → ((n : ℕ) → n < w → (x : ℕ → Fin K.order) → (Says m w ys (λ r. lifted w ys r n) x ↔ Says m w zs (λ r. lifted w zs r n) x))
      → ((x : ℕ → Fin K.order) → (Says m w ys (λ r. Zero L) x ↔ Says m w zs (λ r. Zero L) x))
      → Units (Zero L) (One L) m d (lifted w zs) → Reduced K m w d xs zs
  unfolding lifted Says
  step m w c d xs ys zs h hw hd g f z u =
      let wy = part K.order m w ys hw h.grid in
      let wz = part K.order m w zs hw g in
      record {
        grid = g;
        units = units_down L m d (cell w zs) wz hd u;
        regular = kernel_codes L m (cell w zs) (lifted w zs) wz (λ r j a b. refl)
            (kernel_kept (field L) m (lifted w ys) (lifted w zs) z (regular_kernel L m (cell w ys) wy h.regular));
        keeps = λ n a b x wx.
            let s = same_codes L m (cell w ys) (cell w zs) (column w ys n) (column w zs n) wy wz (λ r l. h.grid.below r l n b) (λ r l. g.below r l n b) (f n b) x wx in
            let k = h.keeps n a b x wx in
            (λ p. s.0 (k.0 p), λ p. k.1 (s.1 p));
      }

  -- k times the row j, which has come to its turn, added to the row i
  pub reduced_add : (m w c : ℕ) (xs ys zs : List ℕ) (i j k : ℕ) → Reduced K m w c xs ys → m ≤ w → i < m → j < m → i ≢ j → c ≤ j → k < K.order
      → Grid K.order m w zs → Columns w (Added K.add K.mul m i j k) (cell w ys) (cell w zs) → Reduced K m w c xs zs
  unfolding lifted Says
  reduced_add m w c xs ys zs i j k h hw li lj n hc lk g a =
      let A = lifted w ys in
      let B = lifted w zs in
      let cols : Columns w (Added (Add L) (Mul L) m i j (up L k)) A B = λ d l.
      added_up L m (column w ys d) (column w zs d) (λ r v. h.grid.below r v d l) i j k li lj lk (a d l) in
      let coef : Columns m (Added (Add L) (Mul L) m i j (up L k)) A B = λ d l. cols d (omega arith) in
      step m w c c xs ys zs h hw (omega arith) g
      (λ d l. add_alike (field L) m i j (up L k) lj n A B (λ r. A r d) (λ r. B r d) coef (cols d l))
      (add_alike (field L) m i j (up L k) lj n A B _ _ coef (added_zeros (field L) m i j (up L k)))
      (units_add (field L) m c A B (units_up L m c (cell w ys) h.units) i j (up L k) hc lj coef)

  -- the row c times k
  pub reduced_scale : (m w c : ℕ) (xs ys zs : List ℕ) (k : ℕ) → Reduced K m w c xs ys → m ≤ w → c < m → k < K.order → k ≢ 0
      → Grid K.order m w zs → Columns w (Scaled K.mul m c k) (cell w ys) (cell w zs) → Reduced K m w c xs zs
  unfolding lifted Says
  reduced_scale m w c xs ys zs k h hw lc lk n g a =
      let A = lifted w ys in
      let B = lifted w zs in
      let nk = up_not_zero L k lk n in
      let cols : Columns w (Scaled (Mul L) m c (up L k)) A B = λ d l.
      scaled_up L m (column w ys d) (column w zs d) (λ r v. h.grid.below r v d l) c k lc lk (a d l) in
      let coef : Columns m (Scaled (Mul L) m c (up L k)) A B = λ d l. cols d (omega arith) in
      step m w c c xs ys zs h hw (omega arith) g
      (λ d l. scale_alike (field L) m c (up L k) lc nk A B (λ r. A r d) (λ r. B r d) coef (cols d l))
      (scale_alike (field L) m c (up L k) lc nk A B _ _ coef (scaled_zeros (field L) m c (up L k)))
      (units_scale (field L) m c A B (units_up L m c (cell w ys) h.units) (up L k) lc coef)

  -- the column c cleared by its row c, which has a one there
  pub reduced_clear : (m w c : ℕ) (xs ys zs : List ℕ) → Reduced K m w c xs ys → m ≤ w → c < m → cell w ys c c ≡ 1
      → (f : ℕ → ℕ) → ((r : ℕ) → r < m → r ≢ c → f r ≡ K.neg (cell w ys r c))
      → Grid K.order m w zs → Columns w (Cleared K.add K.mul m c f) (cell w ys) (cell w zs) → Reduced K m w (c + 1) xs zs
  unfolding lifted Says
  reduced_clear m w c xs ys zs h hw lc one f fs g a =
      let A = lifted w ys in
      let B = lifted w zs in
      let F : ℕ → Fin K.order = λ r. up L (f r) in
      let here : (r : ℕ) → r < m → cell w ys r c < K.order = λ r l. h.grid.below r l c (omega arith) in
      let wf : (r : ℕ) → r < m → r ≢ c → f r < K.order = λ r l v. rw (fs r l v) (L.neg_below _ (here r l)) in
      let cols : Columns w (Cleared (Add L) (Mul L) m c F) A B = λ d l.
      cleared_up L m (column w ys d) (column w zs d) (λ r v. h.grid.below r v d l) c f lc wf (a d l) in
      let coef : Columns m (Cleared (Add L) (Mul L) m c F) A B = λ d l. cols d (omega arith) in
      rw (add-one c)
      (step m w c (suc c) xs ys zs h hw (omega arith) g
      (λ d l. clear_alike (field L) m c F lc A B (λ r. A r d) (λ r. B r d) coef (cols d l))
      (clear_alike (field L) m c F lc A B _ _ coef (cleared_zeros (field L) m c F))
      (units_clear (field L) m c A B (units_up L m c (cell w ys) h.units) F lc coef (ap (up L) one ∙ up_one L)
      (λ r l v. ap (up L) (fs r l v) ∙ up_neg L _ (here r l))))

  -- a column with no pivot
  pub reduced_pivot : (m w c : ℕ) (xs ys : List ℕ) → Reduced K m w c xs ys → m ≤ w → c < m → ((r : ℕ) → c ≤ r → r < m → cell w ys r c ≡ 0) → ⊥
  reduced_pivot m w c xs ys h hw lc z = no_pivot L m c (cell w ys) lc (part K.order m w ys hw h.grid) h.units h.regular z

  -- a row p that is not zero in the column c, added to the row c, which is
  pub raised_pivot : (m w c p : ℕ) (ys zs : List ℕ) → Grid K.order m w ys → m ≤ w → c < m → p < m → cell w ys c c ≡ 0 → cell w ys p c ≢ 0
      → Columns w (Added K.add K.mul m c p 1) (cell w ys) (cell w zs) → cell w zs c c ≢ 0
  raised_pivot m w c p ys zs g hw lc lp z n a v =
      let wp = g.below p lp c (omega arith) in
      n (sym (L.add-zero _ wp) ∙ L.add_comm _ 0 wp (Zero L).1 ∙ ap₂ K.add (sym z) (sym (L.mul-one _ wp) ∙ L.mul_comm _ 1 wp L.one_below)
      ∙ sym (a c (omega arith)).here ∙ v)

  -- the row c times the inverse of its entry in the column c
  pub scaled_pivot : (m w c k : ℕ) (ys zs : List ℕ) → Grid K.order m w ys → m ≤ w → c < m → cell w ys c c ≢ 0 → k ≡ K.inv (cell w ys c c)
      → Columns w (Scaled K.mul m c k) (cell w ys) (cell w zs) → cell w zs c c ≡ 1
  scaled_pivot m w c k ys zs g hw lc n e a =
      let wc = g.below c lc c (omega arith) in
      (a c (omega arith)).here ∙ ap (λ z. K.mul z (cell w ys c c)) e ∙ L.mul_comm _ _ (L.inv_below _ wc) wc ∙ L.mul_inv _ wc n

  pub inv_not_zero : (a : ℕ) → a < K.order → a ≢ 0 → K.inv a ≢ 0
  inv_not_zero a w n v =
      let o = (Zero L).1 in
      let z : K.mul a 0 ≡ 0 = up_same L _ 0 (L.mul_below a 0 w o) o
      (up_mul L a 0 w o ∙ ap (Mul L (up L a)) (up_zero L) ∙ mul-zero (field L) (up L a) ∙ sym (up_zero L)) in
      let e : ◌≡◌ {A = ℕ} 1 0 = sym (L.mul_inv a w n) ∙ ap (K.mul a) v ∙ z in
      omega arith

  -- a row of the identity picks its place
  identity_row : (m : ℕ) (A : ℕ → ℕ → ℕ) (x : ℕ → ℕ) → Rows K.order m m A → Units 0 1 m m A → Below K.order m x
      → (r : ℕ) → r < m → dot K m (A r) x ≡ x r
  identity_row m A x wA u wx r l =
      up_same L _ (x r) (dot_below L m (A r) x (wA r l) wx) (wx r l)
      (up_dot L m (A r) x (wA r l) wx ∙ units_row (field L) m r (λ r c. up L (A r c)) (λ j. up L (x j)) (units_up L m m A u) l)

  -- all columns done
  pub reduced_end : (m w : ℕ) (xs ys : List ℕ) → Reduced K m w m xs ys → m ≤ w → Eliminated K m w xs ys
  reduced_end m w xs ys h hw = record {
    grid = h.grid;
    units = h.units;
    keeps = h.keeps;
    solved = λ n a b x wx.
        let row = identity_row m (cell w ys) x (part K.order m w ys hw h.grid) h.units wx in
        let k = h.keeps n a b x wx in
        (λ p j l. sym (row j l) ∙ k.0 p j l, λ p. k.1 (λ r l. row r l ∙ p r l));
  }
