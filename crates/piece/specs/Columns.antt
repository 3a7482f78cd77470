-- Two theorems on the columns of a job: how far two jobs are apart, and what m - 1 symbols of a column leave open; and
-- what the call answers that finds the column that fits. Assumes nothing.
use Rattle.std.specs.Prelude.{◌≡◌, ℕ, ◌+◌, ◌-◌, ◌<◌, ◌≤◌, Bool, T, ◌≢◌, List, length, slice_index}
use Rattle.field.specs.Laws.{Ops}
use Rattle.algebra.specs.Codes.{Below, dot}
use Rattle.algebra.specs.Field.{Distinct, count}
use Rattle.algebra.specs.Flat.{Grid, cell}
use Rattle.piece.specs.declared.Settings.{Settings}
use Rattle.piece.specs.Layouts.{Bytes}
use Rattle.piece.specs.Pieces.{Lawful, columns, entry, place, value}

-- In any column in which two jobs of equal length differ, at most m - 1 of their n piece symbols are equal. t picks
-- pieces, the piece numbered i + 1 by i, whose symbols of that column are equal.
abbrev pub Distance : Ops → Type 0
Distance K =
    (S : Settings) → Lawful S → (a b : List ℕ) → Bytes a → Bytes b → length a ≡ length b
    → (k : ℕ) → k < columns S.m a → (j : ℕ) → j < S.m → place S.m a k j ≢ place S.m b k j
    → (t : ℕ → Bool) → ((i : ℕ) → i < S.n → T (t i) → value K S a (i + 1) k ≡ value K S b (i + 1) k)
    → count S.n t < S.m

-- m - 1 different pieces of settings with Cauchy rows, and one symbol of each, all of one column
pub record Seen (K : Ops) (S : Settings) (number symbol : ℕ → ℕ) : Type 0 where
  pub lawful : Lawful S
  pub kind : S.rows ≡ 1
  pub least : (r : ℕ) → r < S.m - 1 → 1 ≤ number r
  pub most : (r : ℕ) → r < S.m - 1 → number r ≤ S.n
  pub differ : Distinct (S.m - 1) number
  pub codes : Below K.order (S.m - 1) symbol

-- the column x, any m elements, has the element v at the place p and gives those symbols
pub record Fits (K : Ops) (S : Settings) (number symbol : ℕ → ℕ) (p v : ℕ) (x : ℕ → ℕ) : Type 0 where
  pub codes : Below K.order S.m x
  pub at : x p ≡ v
  pub gives : (r : ℕ) → r < S.m - 1 → dot K S.m (entry K S (number r)) x ≡ symbol r

-- Whatever the m - 1 symbols are, every element at every place is possible, in exactly one way.
abbrev pub Hiding : Ops → Type 0
Hiding K =
    (S : Settings) (number symbol : ℕ → ℕ) → Seen K S number symbol → (p : ℕ) → p < S.m → (v : ℕ) → v < K.order
    → (x : ℕ → ℕ) × Fits K S number symbol p v x
    × ((y : ℕ → ℕ) → Fits K S number symbol p v y → (j : ℕ) → j < S.m → y j ≡ x j)

-- different numbers from 1 to n
pub record Numbers (n : ℕ) (numbers : List ℕ) : Type 0 where
  pub least : (r : ℕ) → r < length numbers → 1 ≤ slice_index numbers r
  pub most : (r : ℕ) → r < length numbers → slice_index numbers r ≤ n
  pub differ : Distinct (length numbers) (λ r. slice_index numbers r)

-- a column is asked for by m - 1 different pieces and one symbol of each, a place, an element for it, and room for m elements
pub record InRange (K : Ops) (S : Settings) (numbers symbols : List ℕ) (p v len : ℕ) : Type 0 where
  pub seen : Seen K S (λ r. slice_index numbers r) (λ r. slice_index symbols r)
  pub numbered : length numbers ≡ S.m - 1
  pub told : length symbols ≡ S.m - 1
  pub place : p < S.m
  pub value : v < K.order
  pub room : len ≡ S.m

-- the column fits, and no other does
pub record Candidate (K : Ops) (S : Settings) (numbers symbols : List ℕ) (p v : ℕ) (column : List ℕ) : Type 0 where
  pub fits : Fits K S (λ r. slice_index numbers r) (λ r. slice_index symbols r) p v (λ j. slice_index column j)
  pub only : (y : ℕ → ℕ) → Fits K S (λ r. slice_index numbers r) (λ r. slice_index symbols r) p v y
      → (j : ℕ) → j < S.m → y j ≡ slice_index column j

-- the system that a column fits: a row that reads the place p, then the row of each piece; the right side stands last
pub record System (K : Ops) (S : Settings) (numbers symbols : List ℕ) (p v : ℕ) (rows : List ℕ) : Type 0 where
  pub grid : Grid K.order S.m (S.m + 1) rows
  pub one : cell (S.m + 1) rows 0 p ≡ 1
  pub zeros : (j : ℕ) → j < S.m → j ≢ p → cell (S.m + 1) rows 0 j ≡ 0
  pub value : cell (S.m + 1) rows 0 S.m ≡ v
  pub entries : (r j : ℕ) → r < S.m - 1 → j < S.m → cell (S.m + 1) rows (r + 1) j ≡ entry K S (slice_index numbers r) j
  pub told : (r : ℕ) → r < S.m - 1 → cell (S.m + 1) rows (r + 1) S.m ≡ slice_index symbols r
