-- The rows of a closed collection's work. Assumes nothing.
use Rattle.std.specs.Prelude.{◌≡◌, ℕ, ◌+◌, ◌-◌, ◌*◌, ◌/◌, ◌%◌, ◌<◌, ◌≤◌, cond, List, length, nat_lt, slice_index}
use Rattle.field.specs.Laws.{Ops}
use Rattle.algebra.specs.Codes.{dot}
use Rattle.algebra.specs.Flat.{cell}
use Rattle.piece.specs.Pieces.{entry, listed}
use Rattle.piece.specs.Reading.{count}
use Rattle.collection.specs.declared.book.Book.{Book}
use Rattle.collection.specs.Books.{first_in, places, stride, solution}

-- the coefficients of the pieces stand in front of their symbols, which are as they were
pub record Entered (K : Ops) (b : Book) (before after : List ℕ) : Type 0 where
  pub size : length after ≡ length before
  pub entries : (t j : ℕ) → t < places b → j < places b → cell (stride b) after t j ≡ entry K (first_in b).settings (slice_index b.numbers t) j
  pub symbols : (t k : ℕ) → t < places b → k < count (first_in b) → cell (stride b) after t (places b + k) ≡ cell (stride b) before t (places b + k)

-- the rows have become the symbols of columns that give the symbols of the pieces
pub record Brought (K : Ops) (b : Book) (before after : List ℕ) : Type 0 where
  pub below : (j k : ℕ) → j < places b → k < count (first_in b) → cell (stride b) after j (places b + k) < K.order
  pub gives : (t k : ℕ) → t < places b → k < count (first_in b)
      → dot K (places b) (entry K (first_in b).settings (slice_index b.numbers t)) (solution b after k) ≡ cell (stride b) before t (places b + k)

-- the symbol at the place j of the column k belongs to a job of this length, or fills up the last column
pub record Symbol (len m k j v : ℕ) : Type 0 where
  pub byte : k * m + j < len → v < 256
  pub zero : len ≤ k * m + j → v ≡ 0

-- how many symbols at the place j belong to a job of this length
abbrev pub full_length_at : ℕ → ℕ → ℕ → ℕ
full_length_at len m j = (len + (m - 1 - j)) / m

-- a row has bytes at its first places and zeros at the others
abbrev pub InRow : ℕ → List ℕ → Type 0
InRow full row = (k : ℕ) → k < length row → slice_index row k ≤ cond (nat_lt k full) 255 0

-- all symbols are bytes of the job or zeros that fill up
abbrev pub Whole : Book → List ℕ → Type 0
Whole b rows = (j k : ℕ) → j < places b → k < count (first_in b) → Symbol (first_in b).length (places b) k j (solution b rows k j)

-- the bytes of the job
abbrev pub job_in : Book → List ℕ → List ℕ
job_in b rows = listed (first_in b).length (λ i. solution b rows (i / places b) (i % places b))
