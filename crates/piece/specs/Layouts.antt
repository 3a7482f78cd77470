-- A job's symbols laid out by place. Assumes nothing.
use Rattle.std.specs.Prelude.{◌≡◌, ℕ, ◌+◌, ◌*◌, ◌/◌, ◌%◌, ◌<◌, ◌≤◌, List, length, slice_index}

-- each cell holds a byte
abbrev pub Bytes : List ℕ → Type 0
Bytes cells = (i : ℕ) → i < length cells → slice_index cells i < 256

-- the symbol at the place j of the column k, where there are so many columns
abbrev pub cell_at : ℕ → List ℕ → ℕ → ℕ → ℕ
cell_at columns cells k j = slice_index cells (j * columns + k)

-- zeros fill up the last column of a job of this length: symbol i stands at the place i % m of the column i / m
abbrev pub Filled : ℕ → ℕ → ℕ → List ℕ → Type 0
Filled m len columns cells = (i : ℕ) → len ≤ i → i < columns * m → cell_at columns cells (i / m) (i % m) ≡ 0
