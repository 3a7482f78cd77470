-- What stands of every field, by its codes. Assumes nothing.
use Rattle.std.specs.Prelude.{◌≡◌, ◌≢◌, ℕ, suc, ◌<◌, ◌≤◌}
use Rattle.field.specs.Laws.{Ops, FieldLaws}
use Rattle.algebra.specs.Field.{Distinct, Zeros, Units, Swapped, Scaled, Added, Columns}
use Rattle.algebra.specs.Codes.{Below, Rows, Points, dot, eval, Solves, Regular, SameSolutions, vandermonde, cauchy, FewVanish}

pub record Algebra (K : Ops) : Type 0 where
  -- a polynomial with m coefficients and m different roots is zero
  pub root_count : (m : ℕ) (p a : ℕ → ℕ) → Below K.order m p → Below K.order m a → Distinct m a
      → ((i : ℕ) → i < m → eval K m p (a i) ≡ 0) → Zeros 0 m p
  -- any m different rows of the Vandermonde kind have only zeros for a kernel
  pub vandermonde_regular : (m : ℕ) (a : ℕ → ℕ) → Below K.order m a → Distinct m a → Regular K m (vandermonde K a)
  -- and so has any square part of rows of the Cauchy kind
  pub cauchy_regular : (m : ℕ) (a b : ℕ → ℕ) → Points K.order m m a b → Regular K m (cauchy K a b)
  -- at most m - 1 of n rows vanish on a column that is not all zeros
  pub vandermonde_few : (n m : ℕ) (a : ℕ → ℕ) → Below K.order n a → Distinct n a → FewVanish K n m (vandermonde K a)
  pub cauchy_few : (n m : ℕ) (a b : ℕ → ℕ) → Points K.order n m a b → FewVanish K n m (cauchy K a b)
  -- row operations keep the solutions
  pub swap_keeps : (m i j : ℕ) → i < m → j < m → (A B : ℕ → ℕ → ℕ) (s t : ℕ → ℕ) → Rows K.order m m A → Below K.order m s
      → Columns m (Swapped m i j) A B → Swapped m i j s t → SameSolutions K m A s B t
  pub scale_keeps : (m i k : ℕ) → i < m → k < K.order → k ≢ 0 → (A B : ℕ → ℕ → ℕ) (s t : ℕ → ℕ) → Rows K.order m m A → Below K.order m s
      → Columns m (Scaled K.mul m i k) A B → Scaled K.mul m i k s t → SameSolutions K m A s B t
  pub add_keeps : (m i j k : ℕ) → i < m → j < m → i ≢ j → k < K.order → (A B : ℕ → ℕ → ℕ) (s t : ℕ → ℕ) → Rows K.order m m A → Below K.order m s
      → Columns m (Added K.add K.mul m i j k) A B → Added K.add K.mul m i j k s t → SameSolutions K m A s B t
  -- where c columns are done, a pivot is found for the next
  pub pivot_found : (m c : ℕ) (A : ℕ → ℕ → ℕ) → c < m → Rows K.order m m A → Units 0 1 m c A → Regular K m A
      → (r : ℕ) × (c ≤ r) × (r < m) × (A r c ≢ 0)
  -- a square system with only zeros for a kernel has exactly one solution
  pub one_solution : (m : ℕ) (A : ℕ → ℕ → ℕ) → Rows K.order m m A → Regular K m A → (s : ℕ → ℕ) → Below K.order m s
      → (x : ℕ → ℕ) × Below K.order m x × Solves K m A x s
      × ((y : ℕ → ℕ) → Below K.order m y → Solves K m A y s → (j : ℕ) → j < m → y j ≡ x j)
  -- m Cauchy rows over m + 1 places, whatever they answer, leave every value v at every place p possible
  pub any_value_fits : (m : ℕ) (a b : ℕ → ℕ) → Points K.order m (suc m) a b → (p : ℕ) → p < suc m → (s : ℕ → ℕ) → Below K.order m s
      → (v : ℕ) → v < K.order
      → (x : ℕ → ℕ) × Below K.order (suc m) x × (x p ≡ v) × ((r : ℕ) → r < m → dot K (suc m) (cauchy K a b r) x ≡ s r)
  -- in one way only
  pub in_one_way : (m : ℕ) (a b : ℕ → ℕ) → Points K.order m (suc m) a b → (p : ℕ) → p < suc m
      → (x y : ℕ → ℕ) → Below K.order (suc m) x → Below K.order (suc m) y → x p ≡ y p
      → ((r : ℕ) → r < m → dot K (suc m) (cauchy K a b r) x ≡ dot K (suc m) (cauchy K a b r) y)
      → (j : ℕ) → j < suc m → x j ≡ y j

-- all of it, of every field
unfoldable pub AlgebraStands : Type 0
AlgebraStands = (K : Ops) → FieldLaws K → Algebra K
