-- Rows in one list, one behind the other. Assumes nothing.
use Rattle.std.proofs.Common.{◌≡◌, ℕ, zero, suc, ◌+◌, ◌*◌, ◌/◌, ◌%◌, ◌<◌, ◌≤◌, List, [], ◌∷◌, length, get_or, sym, ap, ◌∙◌, subst, ap₂, mul-le-mul_right, mod-lt, mod-eq_of_lt, suc-mul, div-lt_iff_lt-mul, mul-zero, arith}
use native.Mathlib.Nat.{div-eq_of_lt}
use Rattle.field.specs.Laws.{Ops, FieldLaws, Codes}
use Rattle.field.specs.Rows.{GainMultiples, GainsMultiple, Multiple}
use Rattle.field.proofs.Digits.{zero_add}

-- one factor: one row
pub one_row : (K : Ops) (c : ℕ) (out row scratch after : List ℕ) → scratch ≡ row → length row ≡ length out
    → GainMultiples K out (c ∷ []) scratch after → GainsMultiple K c out row after
one_row K c out row scratch after e l g k h =
    let s : k < length scratch = subst (λ (n : ℕ). k < n) (sym (ap length e ∙ l)) h in
    g k h
    ∙ ap₂ (λ (y z : ℕ). K.add (get_or out k 0) (K.mul (get_or (c ∷ []) y 0) (get_or scratch z 0))) (div-eq_of_lt s) (mod-eq_of_lt s)
    ∙ ap (λ (xs : List ℕ). K.add (get_or out k 0) (K.mul c (get_or xs k 0))) e

-- a multiple added to zeros
pub from_zeros : {K : Ops} → FieldLaws K → (c : ℕ) (zeros row after : List ℕ) → c < K.order → Codes K.order row → length zeros ≡ length row
    → ((k : ℕ) → k < length row → get_or zeros k 0 ≡ 0) → GainsMultiple K c zeros row after → Multiple K c row after
from_zeros {K} L c zeros row after lc codes l z g k h =
    g k (subst (λ (n : ℕ). k < n) (sym l) h)
    ∙ ap (λ (x : ℕ). K.add x (K.mul c (get_or row k 0))) (z k h)
    ∙ zero_add L _ (L.mul_below c _ lc (codes k h))

-- the row of a place, and the place in it
pub row_within : (i m w : ℕ) → i < m * w → i / w < m
row_within i m zero h = absurd (let z : m * 0 ≡ 0 = mul-zero m in omega arith)
row_within i m (suc w) h = (div-lt_iff_lt-mul {k = suc w} (omega arith)).1 h

pub place_within : (i m w : ℕ) → i < m * w → i % w < w
place_within i m zero h = absurd (let z : m * 0 ≡ 0 = mul-zero m in omega arith)
place_within i m (suc w) h = mod-lt i (omega arith)

-- the row r of m
pub row_fits : (r m w : ℕ) → r < m → r * w + w ≤ m * w
row_fits r m w h = rw (← suc-mul r w) (mul-le-mul_right w h)
