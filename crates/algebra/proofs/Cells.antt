-- Rows of codes in one list: entries by row and column. Assumes nothing.
use mathlib.Core.Path.{◌≡◌, sym, ◌∙◌, ap, subst}
use mathlib.Core.Logic.{◌≢◌}
use mathlib.Core.List.{List}
use Prim.Native.Nat.{ℕ, ◌+◌, ◌-◌, ◌*◌, ◌/◌, ◌%◌, ◌<◌, ◌≤◌}
use native.Mathlib.Nat.{div-add-mod'}
use native.Mathlib.Omega.{arith}
use native.Mathlib.Decide.{dec_lt}
use borrow.Rule.Slice.PartMut.{put_mid}
use lib.Arith.{digits_lt}
use lib.ListN.{length, get_or, take, drop}
use Rattle.field.specs.Laws.{Codes}
use Rattle.field.proofs.Parts.{part_at, part_length, put_before, put_inside, put_behind, put_codes, put_length}
use Rattle.field.proofs.Rows.{row_within, place_within, row_fits}
use Rattle.algebra.specs.Flat.{cell, Grid}

pub cell_within : (m w r c : ℕ) → r < m → c < w → r * w + c < m * w
cell_within m w r c lr lc = digits_lt lr lc

-- the codes of a grid, by their place in the list
pub grid_codes : (q m w : ℕ) (xs : List ℕ) → Grid q m w xs → Codes q xs
unfolding cell
grid_codes q m w xs g i h =
    let l : i < m * w = subst (λ (n : ℕ). i < n) g.size h in
    subst (λ (k : ℕ). get_or xs k 0 < q) (div-add-mod' i w) (g.below (i / w) (row_within i m w l) (i % w) (place_within i m w l))

pub codes_grid : (q m w : ℕ) (xs : List ℕ) → length xs ≡ m * w → Codes q xs → Grid q m w xs
unfolding cell
codes_grid q m w xs s c = record {
  size = s;
  below = λ r lr k lk. c (r * w + k) (subst (λ (n : ℕ). r * w + k < n) (sym s) (digits_lt lr lk));
}

-- the row r, read as a part of the list
pub row_at : (w : ℕ) (xs : List ℕ) (r c : ℕ) → c < w → get_or (take (r * w + w - r * w) (drop (r * w) xs)) c 0 ≡ cell w xs r c
unfolding cell
row_at w xs r c h = part_at xs (r * w) w c h

-- and written as one
module _ (m w : ℕ) (xs out : List ℕ) (r : ℕ) (s : length xs ≡ m * w) (lr : r < m) (lo : length out ≡ w) where
  fits : r * w + w ≤ length xs
  fits = subst (λ (n : ℕ). r * w + w ≤ n) (sym s) (row_fits r m w lr)

  abbrev after : List ℕ
  after = put_mid (r * w) (r * w + w - r * w) xs out

  pub put_here : (c : ℕ) → c < w → cell w after r c ≡ get_or out c 0
  unfolding cell
  put_here c h =
      let e : r * w + c - r * w ≡ c = omega arith in
      put_inside xs out (r * w) w fits lo (r * w + c) (omega arith) (omega arith) ∙ ap (λ (k : ℕ). get_or out k 0) e

  pub put_rest : (i c : ℕ) → c < w → i ≢ r → cell w after i c ≡ cell w xs i c
  unfolding cell
  put_rest i c h n = elim (dec_lt i r) [
    | yes b ↦ let t = row_fits i r w b in put_before xs out (r * w) w fits lo (i * w + c) (omega arith)
    | no b ↦ let t = row_fits r i w (omega arith) in put_behind xs out (r * w) w fits lo (i * w + c) (omega arith)
  ]

  pub put_grid : (q : ℕ) → Grid q m w xs → Codes q out → Grid q m w after
  put_grid q g co =
      codes_grid q m w after (put_length xs out (r * w) w fits lo ∙ s) (put_codes xs out (r * w) w fits lo q (grid_codes q m w xs g) co)

-- the row r, read as a part of the list: as long as a row, and of codes
module _ {q m w : ℕ} {xs : List ℕ} (g : Grid q m w xs) (r : ℕ) (lr : r < m) where
  pub row_size : length (take (r * w + w - r * w) (drop (r * w) xs)) ≡ w
  row_size = part_length xs (r * w) w (subst (λ (n : ℕ). r * w + w ≤ n) (sym g.size) (row_fits r m w lr))

  pub row_codes : Codes q (take (r * w + w - r * w) (drop (r * w) xs))
  row_codes k l =
      let b : k < w = subst (λ (n : ℕ). k < n) row_size l in
      subst (λ (x : ℕ). x < q) (sym (row_at w xs r k b)) (g.below r lr k b)
