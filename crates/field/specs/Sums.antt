-- Finite sums. Assumes nothing.
use Rattle.std.specs.Prelude.{ℕ, zero, suc}

-- f 0 + ... + f (n - 1), from the left
unfoldable pub sum : {F : Type 0} → F → (F → F → F) → ℕ → (ℕ → F) → F
sum o add zero f = o
sum o add (suc n) f = add (sum o add n f) (f n)
