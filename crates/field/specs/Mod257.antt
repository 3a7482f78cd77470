-- The integers modulo 257. Assumes nothing.
use Rattle.std.specs.Prelude.{ℕ, ◌+◌, ◌-◌, ◌*◌, ◌%◌, nat_eq}
use Rattle.field.specs.Laws.{Ops}
use Rattle.field.specs.Search.{found}

abbrev pub plus : ℕ → ℕ → ℕ
plus a b = (a + b) % 257

abbrev pub times : ℕ → ℕ → ℕ
times a b = (a * b) % 257

abbrev pub negated : ℕ → ℕ
negated a = (257 - a) % 257

-- the code whose product with a is 1, and 0 where there is none
unfoldable pub inverse : ℕ → ℕ
inverse a = found (λ b. nat_eq (times a b) 1) 257

abbrev pub mod257 : Ops
mod257 = record { code = 1; order = 257; width = 9; add = plus; mul = times; neg = negated; inv = inverse }
