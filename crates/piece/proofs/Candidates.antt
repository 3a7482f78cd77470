-- The system that the column of a candidate solves. Assumes nothing.
use Rattle.std.proofs.Common.{◌≡◌, ℕ, ◌+◌, ◌-◌, ◌*◌, ◌<◌, ◌≢◌, List, ◌++◌, length, get_or, sym, ap, ◌∙◌, subst, arith}
use native.Mathlib.Decide.{dec_lt, ℕ_discrete}
use borrow.Rule.Slice.PartMut.{put_mid}
use Rattle.std.proofs.lemmas.List.{get_or_append_left}
use Rattle.field.specs.Laws.{Ops, FieldLaws, Bounds, Codes}
use Rattle.algebra.specs.Codes.{Below, Regular, Solves, dot}
use Rattle.algebra.specs.Flat.{Eliminated, cell, column}
use Rattle.algebra.proofs.Ring.{sum_same, sum_zeros, mul-zero}
use Rattle.algebra.proofs.Rows.{dot_unit}
use Rattle.algebra.proofs.Codes.{up, field, up_dot, up_zero, up_one, up_same, Zero, Mul, dot_below}
use Rattle.algebra.proofs.OnCodes.{in_one_way}
use Rattle.algebra.proofs.Cells.{put_here, put_rest}
use Rattle.piece.specs.declared.Settings.{Settings}
use Rattle.piece.specs.Pieces.{entry}
use Rattle.piece.specs.Columns.{Fits, InRange, Candidate, System}
use Rattle.piece.proofs.Open.{point, points, row_gives}

-- the row that reads the place p and the rows of the first r pieces are laid
pub record SystemTo (K : Ops) (S : Settings) (numbers symbols : List ℕ) (p v r : ℕ) (rows : List ℕ) : Type 0 where
  pub below : (i : ℕ) → i < r + 1 → Below K.order (S.m + 1) (cell (S.m + 1) rows i)
  pub one : cell (S.m + 1) rows 0 p ≡ 1
  pub zeros : (j : ℕ) → j < S.m → j ≢ p → cell (S.m + 1) rows 0 j ≡ 0
  pub value : cell (S.m + 1) rows 0 S.m ≡ v
  pub entries : (i j : ℕ) → i < r → j < S.m → cell (S.m + 1) rows (i + 1) j ≡ entry K S (get_or numbers i 0) j
  pub told : (i : ℕ) → i < r → cell (S.m + 1) rows (i + 1) S.m ≡ get_or symbols i 0

module _ {K : Ops} (L : FieldLaws K) (S : Settings) (numbers symbols : List ℕ) (p v : ℕ) (lp : p < S.m) (lv : v < K.order) where
  -- the first row, at the front
  pub system_first : (row rest : List ℕ) → length row ≡ S.m + 1 → get_or row p 0 ≡ 1 → ((j : ℕ) → j < S.m → j ≢ p → get_or row j 0 ≡ 0)
      → get_or row S.m 0 ≡ v → SystemTo K S numbers symbols p v 0 (row ++ rest)
  unfolding cell
  system_first row rest l one zeros value =
      let at : (j : ℕ) → j < S.m + 1 → get_or (row ++ rest) (0 * (S.m + 1) + j) 0 ≡ get_or row j 0 = λ j h.
      let e : 0 * (S.m + 1) + j ≡ j = omega arith in
      let k : j < length row = omega arith in
      ap (λ (n : ℕ). get_or (row ++ rest) n 0) e ∙ get_or_append_left row rest 0 j k in
      let first : Below K.order (S.m + 1) (λ j. get_or row j 0) = λ j h. elim (ℕ_discrete j p) [
        | yes e ↦ subst (λ (n : ℕ). n < K.order) (sym (ap (λ (i : ℕ). get_or row i 0) e ∙ one)) L.one_below
        | no n ↦ elim (dec_lt j S.m) [
          | yes d ↦ subst (λ (n : ℕ). n < K.order) (sym (zeros j d n)) (Zero L).1
          | no d ↦ let e : j ≡ S.m = omega arith in subst (λ (n : ℕ). n < K.order) (sym (ap (λ (i : ℕ). get_or row i 0) e ∙ value)) lv
        ]
      ] in
      record {
        below = λ i h j k. let e : i ≡ 0 = omega arith in
            subst (λ (n : ℕ). get_or (row ++ rest) (n * (S.m + 1) + j) 0 < K.order) (sym e) (subst (λ (n : ℕ). n < K.order) (sym (at j k)) (first j k));
        one = at p (omega arith) ∙ one;
        zeros = λ j h n. at j (omega arith) ∙ zeros j h n;
        value = at S.m (omega arith) ∙ value;
        entries = λ i j h. absurd (omega arith);
        told = λ i h. absurd (omega arith);
      }

  -- and one more behind
  pub system_next : (r : ℕ) (rows row : List ℕ) → SystemTo K S numbers symbols p v r rows → length rows ≡ S.m * (S.m + 1) → r + 1 < S.m
      → length row ≡ S.m + 1 → Codes K.order row → ((j : ℕ) → j < S.m → get_or row j 0 ≡ entry K S (get_or numbers r 0) j)
      → get_or row S.m 0 ≡ get_or symbols r 0
      → SystemTo K S numbers symbols p v (r + 1) (put_mid ((r + 1) * (S.m + 1)) ((r + 1) * (S.m + 1) + (S.m + 1) - (r + 1) * (S.m + 1)) rows row)
  system_next r rows row g size lr l codes entries told =
      let w : ℕ = S.m + 1 in
      let after : List ℕ = put_mid ((r + 1) * w) ((r + 1) * w + w - (r + 1) * w) rows row in
      let here : (c : ℕ) → c < w → cell w after (r + 1) c ≡ get_or row c 0 = put_here S.m w rows row (r + 1) size lr l in
      let rest : (i c : ℕ) → c < w → i ≢ r + 1 → cell w after i c ≡ cell w rows i c = put_rest S.m w rows row (r + 1) size lr l in
      record {
        below = λ i h j k. elim (ℕ_discrete i (r + 1)) [
          | yes e ↦ subst (λ (n : ℕ). cell w after n j < K.order) (sym e) (subst (λ (n : ℕ). n < K.order) (sym (here j k)) (codes j (omega arith)))
          | no n ↦ subst (λ (n : ℕ). n < K.order) (sym (rest i j k n)) (g.below i (omega arith) j k)
        ];
        one = rest 0 p (omega arith) (omega arith) ∙ g.one;
        zeros = λ j h n. rest 0 j (omega arith) (omega arith) ∙ g.zeros j h n;
        value = rest 0 S.m (omega arith) (omega arith) ∙ g.value;
        entries = λ i j h k. elim (ℕ_discrete i r) [
          | yes e ↦ subst (λ (n : ℕ). cell w after (n + 1) j ≡ entry K S (get_or numbers n 0) j) (sym e) (here j (omega arith) ∙ entries j k)
          | no n ↦ rest (i + 1) j (omega arith) (omega arith) ∙ g.entries i j (omega arith) k
        ];
        told = λ i h. elim (ℕ_discrete i r) [
          | yes e ↦ subst (λ (n : ℕ). cell w after (n + 1) S.m ≡ get_or symbols n 0) (sym e) (here S.m (omega arith) ∙ told)
          | no n ↦ rest (i + 1) S.m (omega arith) (omega arith) ∙ g.told i (omega arith)
        ];
      }

module _ {K : Ops} (L : FieldLaws K) where
  -- a row that is 1 at the place p and 0 elsewhere reads it
  read : (m p : ℕ) (u x : ℕ → ℕ) → p < m → Below K.order m u → Below K.order m x → u p ≡ 1 → ((j : ℕ) → j < m → j ≢ p → u j ≡ 0)
      → dot K m u x ≡ x p
  read m p u x lp wu wx one zeros =
      up_same L (dot K m u x) (x p) (dot_below L m u x wu wx) (wx p lp)
      (up_dot L m u x wu wx
      ∙ dot_unit (field L) m p (λ j. up L (u j)) (λ j. up L (x j)) lp (ap (up L) one ∙ up_one L) (λ j l n. ap (up L) (zeros j l n) ∙ up_zero L))

  of_zeros : (m : ℕ) (u : ℕ → ℕ) → Below K.order m u → dot K m u (λ j. 0) ≡ 0
  of_zeros m u wu =
      up_same L (dot K m u (λ j. 0)) 0 (dot_below L m u (λ j. 0) wu (λ j l. (Zero L).1)) (Zero L).1
      (up_dot L m u (λ j. 0) wu (λ j l. (Zero L).1)
      ∙ sum_zeros (field L) m _ (λ j l. ap (Mul L (up L (u j))) (up_zero L) ∙ mul-zero (field L) (up L (u j))) ∙ sym (up_zero L))

module _ {K : Ops} (L : FieldLaws K) (B : Bounds K) (S : Settings) (numbers symbols : List ℕ) (p v len : ℕ)
    (i : InRange K S numbers symbols p v len) (rows : List ℕ) (s : System K S numbers symbols p v rows) where
  row_below : (r : ℕ) → r < S.m → Below K.order S.m (cell (S.m + 1) rows r)
  row_below r l j k = s.grid.below r l j (omega arith)

  top : (x : ℕ → ℕ) → Below K.order S.m x → dot K S.m (cell (S.m + 1) rows 0) x ≡ x p
  top x wx = read L S.m p (cell (S.m + 1) rows 0) x i.place (row_below 0 (let h = i.place in omega arith)) wx s.one s.zeros

  gives : (r : ℕ) (x : ℕ → ℕ) → r < S.m - 1 → dot K S.m (cell (S.m + 1) rows (r + 1)) x ≡ dot K S.m (entry K S (get_or numbers r 0)) x
  gives r x l = sum_same 0 K.add S.m _ _ (λ j k. ap (λ (n : ℕ). K.mul n (x j)) (s.entries r j l k))

  -- every column is 0 that the rows vanish on
  pub regular : Regular K S.m (cell (S.m + 1) rows)
  regular x wx z j lj =
      let h = i.place in
      let e = row_gives L B S (λ r. get_or numbers r 0) (λ r. get_or symbols r 0) i.seen in
      in_one_way L (S.m - 1) (point L B S (λ r. get_or numbers r 0) (λ r. get_or symbols r 0) i.seen) (λ j. j)
      (points L B S (λ r. get_or numbers r 0) (λ r. get_or symbols r 0) i.seen) p (omega arith) x (λ j. 0)
      (λ k l. wx k (omega arith)) (λ k l. (Zero L).1) (sym (top x wx) ∙ z 0 (omega arith))
      (λ r l. sym (e r x) ∙ sym (gives r x l) ∙ z (r + 1) (omega arith)
      ∙ sym (of_zeros L S.m (cell (S.m + 1) rows (r + 1)) (row_below (r + 1) (omega arith))) ∙ gives r (λ j. 0) l ∙ e r (λ j. 0))
      j (omega arith)

  -- a column fits that solves the system
  solved : (x : ℕ → ℕ) → Below K.order S.m x → Solves K S.m (cell (S.m + 1) rows) x (column (S.m + 1) rows S.m)
      → Fits K S (λ r. get_or numbers r 0) (λ r. get_or symbols r 0) p v x
  solved x wx h = record {
    codes = wx;
    at = sym (top x wx) ∙ h 0 (let l = i.place in omega arith) ∙ s.value;
    gives = λ r l. sym (gives r x l) ∙ h (r + 1) (omega arith) ∙ s.told r l;
  }

  -- and the other way
  solves : (x : ℕ → ℕ) → Fits K S (λ r. get_or numbers r 0) (λ r. get_or symbols r 0) p v x
      → Solves K S.m (cell (S.m + 1) rows) x (column (S.m + 1) rows S.m)
  solves x f r l =
      let P : ℕ → Type 0 = λ n. dot K S.m (cell (S.m + 1) rows n) x ≡ cell (S.m + 1) rows n S.m in
      elim (dec_lt 0 r) [
        | yes d ↦
            let e : r - 1 + 1 ≡ r = omega arith in
            let k : r - 1 < S.m - 1 = omega arith in
            subst P e (gives (r - 1) x k ∙ f.gives (r - 1) k ∙ sym (s.told (r - 1) k))
        | no d ↦
            let e : 0 ≡ r = omega arith in
            subst P e (top x f.codes ∙ f.at ∙ sym s.value)
      ]

  -- elimination leaves the one column that fits
  pub found : (after column : List ℕ) → Eliminated K S.m (S.m + 1) rows after
      → ((j : ℕ) → j < S.m → get_or column j 0 ≡ cell (S.m + 1) after j S.m) → Candidate K S numbers symbols p v column
  found after column g e =
      let codes : Below K.order S.m (λ j. get_or column j 0) = λ j l.
      subst (λ (n : ℕ). n < K.order) (sym (e j l)) (g.grid.below j l S.m (omega arith)) in
      record {
        fits = solved (λ j. get_or column j 0) codes ((g.solved S.m (omega arith) (omega arith) (λ j. get_or column j 0) codes).1 e);
        only = λ y f j l. (g.solved S.m (omega arith) (omega arith) y f.codes).0 (solves y f) j l ∙ sym (e j l);
      }
