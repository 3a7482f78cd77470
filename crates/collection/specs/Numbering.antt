-- The numbers of the pieces that a collection has taken. Assumes nothing.
use Rattle.std.specs.Prelude.{ℕ, ◌<◌, ◌≤◌, ◌≢◌, List, slice_index}

-- the first numbers are 1 to n
abbrev pub Numbered : ℕ → ℕ → List ℕ → Type 0
Numbered n have numbers = (t : ℕ) → t < have → (1 ≤ slice_index numbers t) × (slice_index numbers t ≤ n)

-- and no two of them are equal
abbrev pub Differing : ℕ → List ℕ → Type 0
Differing have numbers = (i j : ℕ) → (i < j) × (j < have) → slice_index numbers i ≢ slice_index numbers j
