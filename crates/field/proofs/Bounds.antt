-- The two uses of a field having at least 256 codes. Assumes nothing.
use Rattle.std.proofs.Common.{ℕ, ◌+◌, ◌<◌, ◌≤◌, arith}
use Rattle.field.specs.Laws.{Ops, Bounds}

-- a byte is a code
pub byte_is_a_code : {K : Ops} → Bounds K → (b : ℕ) → b < 256 → b < K.order
byte_is_a_code B b h = omega (arith, B.order_least)

-- the rows need no more elements than there are: m places and n rows, all different
pub rows_fit : {K : Ops} → Bounds K → (m n : ℕ) → m ≤ 16 → n ≤ 32 → m + n < K.order
rows_fit B m n hm hn = omega (arith, B.order_least)
