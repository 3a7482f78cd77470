-- Adding a row to those of many rows that a digit picks: one row more. Assumes nothing.
use Rattle.std.proofs.Common.{◌≡◌, ℕ, ◌+◌, ◌-◌, ◌*◌, ◌/◌, ◌%◌, ◌<◌, ◌≤◌, List, length, get_or, sym, ap, ◌∙◌, subst, ap₂, add-mul, one-mul, arith}
use native.Mathlib.Decide.{dec_lt}
use borrow.Rule.Slice.PartMut.{put_mid}
use lib.Arith.{digits_div, digits_mod}
use Rattle.field.specs.Laws.{Ops}
use Rattle.field.specs.Digits.{gained}
use Rattle.field.proofs.Parts.{put_before, put_inside, put_behind}

-- the rows before the r-th have gained the row where the digit d of their number is 1, and the others are as they were
pub record GainedTo (K : Ops) (d : ℕ → ℕ) (row : List ℕ) (r : ℕ) (start rows : List ℕ) : Type 0 where
  pub done : (i : ℕ) → i < r * length row → get_or rows i 0 ≡ gained K (d (i / length row)) (get_or start i 0) (get_or row (i % length row) 0)
  pub rest : (i : ℕ) → r * length row ≤ i → get_or rows i 0 ≡ get_or start i 0

next_row : (r w : ℕ) → (r + 1) * w ≡ r * w + w
next_row r w = add-mul r 1 w ∙ ap (λ (x : ℕ). r * w + x) (one-mul w)

module _ (K : Ops) (d : ℕ → ℕ) (row start rows : List ℕ) (r : ℕ) (g : GainedTo K d row r start rows) where
  w : ℕ
  w = length row

  -- the place i of the row r
  inside : (f : ℕ → ℕ → ℕ) (i : ℕ) → r * length row ≤ i → i < r * length row + length row → f (i / length row) (i % length row) ≡ f r (i - r * length row)
  inside f i a e =
      let k : i - r * length row < length row = omega arith in
      let s : r * length row + (i - r * length row) ≡ i = omega arith in
      ap₂ f (ap (λ (x : ℕ). x / length row) (sym s) ∙ digits_div r k) (ap (λ (x : ℕ). x % length row) (sym s) ∙ digits_mod r k)

  pub gained_set : (out : List ℕ) → r * length row + length row ≤ length rows → length out ≡ length row → d r ≡ 1
      → ((k : ℕ) → k < length row → get_or out k 0 ≡ K.add (get_or rows (r * length row + k) 0) (get_or row k 0))
      → GainedTo K d row (r + 1) start (put_mid (r * length row) (r * length row + length row - r * length row) rows out)
  gained_set out size l one v = record {
    done = λ i h.
        let end : i < r * length row + length row = subst (λ (x : ℕ). i < x) (next_row r (length row)) h in
        elim (dec_lt i (r * length row)) [
          | yes b ↦ put_before rows out (r * length row) (length row) size l i b ∙ g.done i b
          | no b ↦
              let a : r * length row ≤ i = omega arith in
              let k : i - r * length row < length row = omega arith in
              let s : r * length row + (i - r * length row) ≡ i = omega arith in
              put_inside rows out (r * length row) (length row) size l i a end ∙ v (i - r * length row) k
              ∙ ap (λ (x : ℕ). K.add x (get_or row (i - r * length row) 0)) (ap (λ (x : ℕ). get_or rows x 0) s ∙ g.rest i a)
              ∙ sym (inside (λ y z. gained K (d y) (get_or start i 0) (get_or row z 0)) i a end
              ∙ ap (λ (x : ℕ). gained K x (get_or start i 0) (get_or row (i - r * length row) 0)) one)
        ];
    rest = λ i h.
        let b : r * length row + length row ≤ i = subst (λ (x : ℕ). x ≤ i) (next_row r (length row)) h in
        put_behind rows out (r * length row) (length row) size l i b ∙ g.rest i (omega arith);
  }

  pub gained_clear : d r ≡ 0 → GainedTo K d row (r + 1) start rows
  gained_clear none = record {
    done = λ i h.
        let end : i < r * length row + length row = subst (λ (x : ℕ). i < x) (next_row r (length row)) h in
        elim (dec_lt i (r * length row)) [
          | yes b ↦ g.done i b
          | no b ↦
              let a : r * length row ≤ i = omega arith in
              g.rest i a
              ∙ sym (inside (λ y z. gained K (d y) (get_or start i 0) (get_or row z 0)) i a end
              ∙ ap (λ (x : ℕ). gained K x (get_or start i 0) (get_or row (i - r * length row) 0)) none)
        ];
    rest = λ i h.
        let b : r * length row + length row ≤ i = subst (λ (x : ℕ). x ≤ i) (next_row r (length row)) h in
        g.rest i (omega arith);
  }
