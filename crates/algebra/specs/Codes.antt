-- Sums, rows and systems of equations over the codes of a field. Assumes nothing.
use Rattle.std.specs.Prelude.{◌≡◌, ◌≢◌, ◌↔◌, Bool, ℕ, ◌<◌, T}
use Rattle.field.specs.Laws.{Ops}
use Rattle.algebra.specs.Field as abstract
use Rattle.algebra.specs.Field.{Distinct, Zeros, count}

-- the first m entries are codes below q
abbrev pub Below : ℕ → ℕ → (ℕ → ℕ) → Type 0
Below q m x = (j : ℕ) → j < m → x j < q

-- m rows of w codes
abbrev pub Rows : ℕ → ℕ → ℕ → (ℕ → ℕ → ℕ) → Type 0
Rows q m w A = (r : ℕ) → r < m → Below q w (A r)

-- u 0 times x 0 + ... + u (m - 1) times x (m - 1)
abbrev pub dot : Ops → ℕ → (ℕ → ℕ) → (ℕ → ℕ) → ℕ
dot K m u x = abstract.dot 0 K.add K.mul m u x

-- the element coded x to the power n
abbrev pub power : Ops → ℕ → ℕ → ℕ
power K x n = abstract.power 1 K.mul x n

-- the polynomial with the m coefficients p, at the element coded x
abbrev pub eval : Ops → ℕ → (ℕ → ℕ) → ℕ → ℕ
eval K m p x = abstract.eval 0 K.add K.mul m p x

-- A x = s, m equations
abbrev pub Solves : Ops → ℕ → (ℕ → ℕ → ℕ) → (ℕ → ℕ) → (ℕ → ℕ) → Type 0
Solves K m A x s = abstract.Solves 0 K.add K.mul m A x s

-- only zeros solve A x = 0, among codes
abbrev pub Regular : Ops → ℕ → (ℕ → ℕ → ℕ) → Type 0
Regular K m A = (x : ℕ → ℕ) → Below K.order m x → ((r : ℕ) → r < m → dot K m (A r) x ≡ 0) → Zeros 0 m x

-- the columns of codes that solve A x = s are exactly those that solve B x = t
abbrev pub SameSolutions : Ops → ℕ → (ℕ → ℕ → ℕ) → (ℕ → ℕ) → (ℕ → ℕ → ℕ) → (ℕ → ℕ) → Type 0
SameSolutions K m A s B t = (x : ℕ → ℕ) → Below K.order m x → (Solves K m A x s ↔ Solves K m B x t)

-- the entry of the row of the point a r at the place j: a power
abbrev pub vandermonde : Ops → (ℕ → ℕ) → ℕ → ℕ → ℕ
vandermonde K a r j = power K (a r) j

-- the entry of the row of the point a r at the place of the point b j: the inverse of their difference
abbrev pub cauchy : Ops → (ℕ → ℕ) → (ℕ → ℕ) → ℕ → ℕ → ℕ
cauchy K a b r j = K.inv (K.add (a r) (K.neg (b j)))

-- n points of rows and m points of places, all different
pub record Points (q n m : ℕ) (a b : ℕ → ℕ) : Type 0 where
  pub rows : Below q n a
  pub places : Below q m b
  pub rows_differ : Distinct n a
  pub places_differ : Distinct m b
  pub apart : (i j : ℕ) → i < n → j < m → a i ≢ b j

-- of the n rows A fewer than m vanish on a column of m codes that is not all zeros; t picks rows
abbrev pub FewVanish : Ops → ℕ → ℕ → (ℕ → ℕ → ℕ) → Type 0
FewVanish K n m A =
    (x : ℕ → ℕ) → Below K.order m x → (j : ℕ) → j < m → x j ≢ 0 → (t : ℕ → Bool) → ((i : ℕ) → i < n → T (t i) → dot K m (A i) x ≡ 0) → count n t < m
