-- Rows of codes, place by place. Assumes nothing.
use Rattle.std.specs.Prelude.{◌≡◌, ℕ, ◌+◌, ◌*◌, ◌/◌, ◌%◌, ◌<◌, List, length, slice_index}
use Rattle.field.specs.Laws.{Ops}
use Rattle.field.specs.Sums.{sum}

-- each place of out has gained that of the row
abbrev pub Gains : Ops → List ℕ → List ℕ → List ℕ → Type 0
Gains K out row after = (k : ℕ) → k < length out → slice_index after k ≡ K.add (slice_index out k) (slice_index row k)

-- each place of out has gained c times that of the row
abbrev pub GainsMultiple : Ops → ℕ → List ℕ → List ℕ → List ℕ → Type 0
GainsMultiple K c out row after =
    (k : ℕ) → k < length out → slice_index after k ≡ K.add (slice_index out k) (K.mul c (slice_index row k))

-- each place is c times what it was
abbrev pub Multiple : Ops → ℕ → List ℕ → List ℕ → Type 0
Multiple K c row after = (k : ℕ) → k < length row → slice_index after k ≡ K.mul c (slice_index row k)

-- rows, one behind the other and each as long as the row, have each gained its own factor times the row
abbrev pub GainMultiples : Ops → List ℕ → List ℕ → List ℕ → List ℕ → Type 0
GainMultiples K rows factors row after =
    (i : ℕ) → i < length rows
    → slice_index after i ≡ K.add (slice_index rows i) (K.mul (slice_index factors (i / length row)) (slice_index row (i % length row)))

-- the sum over the factors of each times the row of its number, at the place k; the rows stand one behind the other, each w long
abbrev pub combination : Ops → ℕ → List ℕ → List ℕ → ℕ → ℕ
combination K w rows factors k = sum 0 K.add (length factors) (λ j. K.mul (slice_index factors j) (slice_index rows (j * w + k)))

-- each place of the list is the combination of the rows there
abbrev pub Combined : Ops → List ℕ → List ℕ → List ℕ → Type 0
Combined K rows factors after = (k : ℕ) → k < length after → slice_index after k ≡ combination K (length after) rows factors k

-- zeros at each place
abbrev pub Wiped : List ℕ → Type 0
Wiped xs = (k : ℕ) → k < length xs → slice_index xs k ≡ 0
