-- Rows of codes in one list, row after row, and what elimination makes of them. Assumes nothing.
use Rattle.std.specs.Prelude.{◌≡◌, ◌↔◌, List, ℕ, ◌+◌, ◌*◌, ◌<◌, ◌≤◌, length, get_or}
use Rattle.std.specs.Borrow.{MutBor}
use Rattle.field.specs.Laws.{Ops}
use Rattle.algebra.specs.Field.{Units}
use Rattle.algebra.specs.Codes.{Below, Rows, Solves, Regular, SameSolutions}

-- the entry in the row r and the column c of rows that are w long
unfoldable pub cell : ℕ → List ℕ → ℕ → ℕ → ℕ
cell w xs r c = get_or xs (r * w + c) 0

-- the column c, by its entries from the top
abbrev pub column : ℕ → List ℕ → ℕ → ℕ → ℕ
column w xs c r = cell w xs r c

-- m rows of w codes below q
pub record Grid (q m w : ℕ) (xs : List ℕ) : Type 0 where
  pub size : length xs ≡ m * w
  pub below : Rows q m w (cell w xs)

-- Each of the m rows has the m coefficients of an equation and then symbols: each column of symbols is a right side of its own.
-- The rows xs have become ys by steps that keep the solutions of every right side, and c columns of coefficients are done.
pub record Reduced (K : Ops) (m w c : ℕ) (xs ys : List ℕ) : Type 0 where
  pub grid : Grid K.order m w ys
  pub units : Units 0 1 m c (cell w ys)
  pub regular : Regular K m (cell w ys)
  pub keeps : (n : ℕ) → m ≤ n → n < w → SameSolutions K m (cell w xs) (column w xs n) (cell w ys) (column w ys n)

-- The end: the coefficients are the identity, and each column of symbols is the one solution of the system it belongs to.
pub record Eliminated (K : Ops) (m w : ℕ) (xs ys : List ℕ) : Type 0 where
  pub grid : Grid K.order m w ys
  pub units : Units 0 1 m m (cell w ys)
  pub keeps : (n : ℕ) → m ≤ n → n < w → SameSolutions K m (cell w xs) (column w xs n) (cell w ys) (column w ys n)
  pub solved : (n : ℕ) → m ≤ n → n < w → (x : ℕ → ℕ) → Below K.order m x
      → (Solves K m (cell w xs) x (column w xs n) ↔ ((j : ℕ) → j < m → x j ≡ cell w ys j n))

-- the same reference, to a list as long as before
pub record Keeps (old new : MutBor (List ℕ)) : Type 0 where
  pub name : new.ghost_name ≡ old.ghost_name
  pub size : length new.now ≡ length old.now
