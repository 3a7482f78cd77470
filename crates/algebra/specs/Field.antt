-- A field on a type of its own, with sums, rows, systems of equations and what row operations do to them. Assumes nothing.
use Rattle.std.specs.Prelude.{◌≡◌, ◌≢◌, Bool, cond, ℕ, zero, suc, ◌<◌}
use Rattle.field.specs.Sums.{sum}

-- a field on a type F with zero o and one e, its laws with no premises
pub record Field {F : Type 0} (o e : F) (add mul : F → F → F) (neg inv : F → F) : Type 0 where
  pub discrete : (a b : F) → Dec (a ≡ b)
  pub one_not_zero : e ≢ o
  pub add_assoc : (a b c : F) → add (add a b) c ≡ add a (add b c)
  pub add_comm : (a b : F) → add a b ≡ add b a
  pub add-zero : (a : F) → add a o ≡ a
  pub add_neg : (a : F) → add a (neg a) ≡ o
  pub mul_assoc : (a b c : F) → mul (mul a b) c ≡ mul a (mul b c)
  pub mul_comm : (a b : F) → mul a b ≡ mul b a
  pub mul-one : (a : F) → mul a e ≡ a
  pub mul_inv : (a : F) → a ≢ o → mul a (inv a) ≡ e
  pub mul-add : (a b c : F) → mul a (add b c) ≡ add (mul a b) (mul a c)

-- x to the power n
unfoldable pub power : {F : Type 0} → F → (F → F → F) → F → ℕ → F
power e mul x zero = e
power e mul x (suc n) = mul (power e mul x n) x

-- the first m entries are pairwise distinct
abbrev pub Distinct : {F : Type 0} → ℕ → (ℕ → F) → Type 0
Distinct m a = (i j : ℕ) → i < m → j < m → i ≢ j → a i ≢ a j

-- the first m entries of x are o
abbrev pub Zeros : {F : Type 0} → F → ℕ → (ℕ → F) → Type 0
Zeros o m x = (j : ℕ) → j < m → x j ≡ o

-- the product of a row and a column, m long
abbrev pub dot : {F : Type 0} → F → (F → F → F) → (F → F → F) → ℕ → (ℕ → F) → (ℕ → F) → F
dot o add mul m u x = sum o add m (λ j. mul (u j) (x j))

-- A x = s, m equations
abbrev pub Solves : {F : Type 0} → F → (F → F → F) → (F → F → F) → ℕ → (ℕ → ℕ → F) → (ℕ → F) → (ℕ → F) → Type 0
Solves o add mul m A x s = (r : ℕ) → r < m → dot o add mul m (A r) x ≡ s r

-- only zeros solve the m equations A x = 0
abbrev pub Kernel : {F : Type 0} → F → (F → F → F) → (F → F → F) → ℕ → (ℕ → ℕ → F) → Type 0
Kernel {F} o add mul m A = (x : ℕ → F) → ((r : ℕ) → r < m → dot o add mul m (A r) x ≡ o) → Zeros o m x

-- any m distinct ones of the n rows of A have only zeros for a solution
abbrev pub AnyRows : {F : Type 0} → F → (F → F → F) → (F → F → F) → ℕ → ℕ → (ℕ → ℕ → F) → Type 0
AnyRows o add mul n m A = (s : ℕ → ℕ) → ((k : ℕ) → k < m → s k < n) → Distinct m s → Kernel o add mul m (λ k. A (s k))

-- the polynomial with the m coefficients p, at x
unfoldable pub eval : {F : Type 0} → F → (F → F → F) → (F → F → F) → ℕ → (ℕ → F) → F → F
eval o add mul zero p x = o
eval o add mul (suc m) p x = add (p 0) (mul x (eval o add mul m (λ j. p (suc j)) x))

-- how many of the numbers below n pass the test
unfoldable pub count : ℕ → (ℕ → Bool) → ℕ
count zero t = 0
count (suc n) t = cond (t n) (suc (count n t)) (count n t)

-- the first c of the columns of L, m high, are those of the identity
pub record Units {F : Type 0} (o e : F) (m c : ℕ) (L : ℕ → ℕ → F) : Type 0 where
  pub diag : (k : ℕ) → k < c → L k k ≡ e
  pub off : (r k : ℕ) → r < m → k < c → r ≢ k → L r k ≡ o

-- A row operation does the same to each column of a system, so it is stated on one column, by its m entries from the top.
-- the rows i and j swapped
pub record Swapped {F : Type 0} (m i j : ℕ) (s t : ℕ → F) : Type 0 where
  pub here : t i ≡ s j
  pub there : t j ≡ s i
  pub rest : (r : ℕ) → r < m → r ≢ i → r ≢ j → t r ≡ s r

-- the row i times k
pub record Scaled {F : Type 0} (mul : F → F → F) (m i : ℕ) (k : F) (s t : ℕ → F) : Type 0 where
  pub here : t i ≡ mul k (s i)
  pub rest : (r : ℕ) → r < m → r ≢ i → t r ≡ s r

-- k times the row j added to the row i
pub record Added {F : Type 0} (add mul : F → F → F) (m i j : ℕ) (k : F) (s t : ℕ → F) : Type 0 where
  pub here : t i ≡ add (s i) (mul k (s j))
  pub rest : (r : ℕ) → r < m → r ≢ i → t r ≡ s r

-- f r times the row c added to each other row r
pub record Cleared {F : Type 0} (add mul : F → F → F) (m c : ℕ) (f : ℕ → F) (s t : ℕ → F) : Type 0 where
  pub here : t c ≡ s c
  pub rest : (r : ℕ) → r < m → r ≢ c → t r ≡ add (s r) (mul (f r) (s c))

-- P of each of the first n columns of M and N
abbrev pub Columns : {F : Type 0} → ℕ → ((ℕ → F) → (ℕ → F) → Type 0) → (ℕ → ℕ → F) → (ℕ → ℕ → F) → Type 0
Columns n P M N = (c : ℕ) → c < n → P (λ r. M r c) (λ r. N r c)

-- the identity matrix: one where the row is the column, else zero
unfoldable pub identity : {F : Type 0} → F → F → ℕ → ℕ → F
identity o e zero zero = e
identity o e zero (suc c) = o
identity o e (suc r) zero = o
identity o e (suc r) (suc c) = identity o e r c
