-- The number that passes a test. Assumes nothing.
use Rattle.std.specs.Prelude.{ℕ, zero, suc, Bool, cond}

-- a number below n that passes the test, the greatest, or 0 where none does
unfoldable pub found : (ℕ → Bool) → ℕ → ℕ
found test zero = 0
found test (suc n) = cond (test n) n (found test n)
