-- What the steps of elimination do to each column. Assumes nothing.
use mathlib.Core.Path.{◌≡◌, sym, ◌∙◌, ap, ap₂, subst}
use mathlib.Core.Logic.{◌≢◌}
use mathlib.Core.List.{List}
use Prim.Native.Nat.{ℕ, ◌+◌, ◌-◌, ◌*◌, ◌/◌, ◌%◌, ◌<◌}
use borrow.Rule.Slice.PartMut.{put_mid}
use lib.Arith.{digits_lt, digits_div, digits_mod}
use lib.ListN.{length, get_or, take, drop}
use Rattle.field.specs.Laws.{Ops, FieldLaws}
use Rattle.field.specs.Rows.{GainMultiples, Gains, Multiple}
use Rattle.field.proofs.Digits.{one-mul, zero-mul}
use Rattle.algebra.specs.Field.{Added, Scaled, Cleared, Columns}
use Rattle.algebra.specs.Flat.{cell, Grid}
use Rattle.algebra.proofs.Cells.{row_at, put_here, put_rest}

module _ {K : Ops} (L : FieldLaws K) (m w : ℕ) (xs : List ℕ) (g : Grid K.order m w xs) where
  -- the part of the list that is the row c
  abbrev part : ℕ → List ℕ
  part c = take (c * w + w - c * w) (drop (c * w) xs)

  -- the row p, copied, added to the row c
  pub added_columns : (c p : ℕ) (row out : List ℕ) → c < m → p < m → length out ≡ w → length (part c) ≡ w
      → ((k : ℕ) → k < w → get_or row k 0 ≡ cell w xs p k) → Gains K (part c) row out
      → Columns w (Added K.add K.mul m c p 1) (cell w xs) (cell w (put_mid (c * w) (c * w + w - c * w) xs out))
  added_columns c p row out lc lp lo ls copied v k h = record {
    here = put_here m w xs out c g.size lc lo k h ∙ v k (subst (λ (n : ℕ). k < n) (sym ls) h)
        ∙ ap₂ K.add (row_at w xs c k h) (copied k h ∙ sym (one-mul L _ (g.below p lp k h)));
    rest = λ r lr n. put_rest m w xs out c g.size lc lo r k h n;
  }

  -- the row c times f
  pub scaled_columns : (c f : ℕ) (out : List ℕ) → c < m → length out ≡ w → length (part c) ≡ w → Multiple K f (part c) out
      → Columns w (Scaled K.mul m c f) (cell w xs) (cell w (put_mid (c * w) (c * w + w - c * w) xs out))
  scaled_columns c f out lc lo ls v k h = record {
    here = put_here m w xs out c g.size lc lo k h ∙ v k (subst (λ (n : ℕ). k < n) (sym ls) h) ∙ ap (K.mul f) (row_at w xs c k h);
    rest = λ r lr n. put_rest m w xs out c g.size lc lo r k h n;
  }

  -- multiples of the row c, copied, added to the others
  pub cleared_columns : (c : ℕ) (factors row ys : List ℕ) → c < m → length row ≡ w
      → ((k : ℕ) → k < w → get_or row k 0 ≡ cell w xs c k) → get_or factors c 0 ≡ 0
      → (f : ℕ → ℕ) → ((r : ℕ) → r < m → r ≢ c → get_or factors r 0 ≡ f r) → GainMultiples K xs factors row ys
      → Columns w (Cleared K.add K.mul m c f) (cell w xs) (cell w ys)
  unfolding cell
  cleared_columns c factors row ys lc lw copied none f fs v k h =
      let at : (r : ℕ) → r < m → get_or ys (r * w + k) 0 ≡ K.add (get_or xs (r * w + k) 0) (K.mul (get_or factors r 0) (get_or xs (c * w + k) 0))
      = λ r lr. v (r * w + k) (subst (λ (n : ℕ). r * w + k < n) (sym g.size) (digits_lt lr h))
      ∙ ap (λ (n : ℕ). K.add (get_or xs (r * w + k) 0) (K.mul (get_or factors ((r * w + k) / n) 0) (get_or row ((r * w + k) % n) 0))) lw
      ∙ ap₂ (λ (a b : ℕ). K.add (get_or xs (r * w + k) 0) (K.mul (get_or factors a 0) (get_or row b 0))) (digits_div r h) (digits_mod r h)
      ∙ ap (λ (a : ℕ). K.add (get_or xs (r * w + k) 0) (K.mul (get_or factors r 0) a)) (copied k h) in
      record {
        here = at c lc ∙ ap (λ (a : ℕ). K.add (get_or xs (c * w + k) 0) (K.mul a (get_or xs (c * w + k) 0))) none
            ∙ ap (K.add (get_or xs (c * w + k) 0)) (zero-mul L _ (g.below c lc k h)) ∙ L.add-zero _ (g.below c lc k h);
        rest = λ r lr n. at r lr ∙ ap (λ (a : ℕ). K.add (get_or xs (r * w + k) 0) (K.mul a (get_or xs (c * w + k) 0))) (fs r lr n);
      }
