-- Codes in base two. Assumes nothing.
use Rattle.std.specs.Prelude.{◌≡◌, ℕ, zero, suc, ◌+◌, ◌*◌, ◌/◌, ◌%◌, ◌^◌, ◌<◌, ◌≤◌, cond, List, length, ◌==◌, slice_index}
use Rattle.field.specs.Laws.{Ops}

-- a code is its lowest digit plus the element coded 2 times the code of the rest
pub record Digits (K : Ops) : Type 0 where
  pub two_below : 2 < K.order
  pub width_most : K.width ≤ 16
  pub order_fits : K.order ≤ 2 ^ K.width
  pub binary : (a : ℕ) → a < K.order → K.add (a % 2) (K.mul 2 (a / 2)) ≡ a

-- a with x added where the digit is 1
abbrev pub gained : Ops → ℕ → ℕ → ℕ → ℕ
gained K digit a x = cond (digit == 1) (K.add a x) a

-- rows, one behind the other and each as long as the row, have gained the row where the factor's digit at the place is 1
abbrev pub GainWhere : Ops → ℕ → List ℕ → List ℕ → List ℕ → List ℕ → Type 0
GainWhere K place rows factors row after =
    (i : ℕ) → i < length rows
    → slice_index after i ≡ gained K (slice_index factors (i / length row) / 2 ^ place % 2) (slice_index rows i) (slice_index row (i % length row))

-- a after gaining x j for each of the first n numbers j whose digit d j is 1
unfoldable pub gained_all : Ops → ℕ → (ℕ → ℕ) → (ℕ → ℕ) → ℕ → ℕ
gained_all K zero d x a = a
gained_all K (suc n) d x a = gained K (d n) (gained_all K n d x a) (x n)

-- each place of out has gained that of the rows whose factor has the digit 1 at the place
abbrev pub Gathered : Ops → ℕ → List ℕ → List ℕ → List ℕ → List ℕ → Type 0
Gathered K place out rows factors after =
    (k : ℕ) → k < length out
    → slice_index after k ≡ gained_all K (length factors) (λ j. slice_index factors j / 2 ^ place % 2) (λ j. slice_index rows (j * length out + k)) (slice_index out k)
