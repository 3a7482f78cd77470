use Rattle.std.proofs.Common.{◌≡◌, ℕ, ◌*◌, ◌%◌, sym, ap, ◌∙◌, one-mul, zero-mul, arith}
use lib.Bits.{bit_xor, xor_zero_r}
use Rattle.field.specs.Laws256.{turn, end, xtime_lt}
use Rattle.field.proofs.gf256.Gf256Field.mul.Goals as goal
use Rattle.field.proofs.gf256.Gf256Field.mul.Goals.{then-y-eq1, else-y-eq1}

added : (c : goal.After-times_x-x) → c.if-y-eq1.r ≡ bit_xor c.loop.r (c.loop.y % 2 * c.loop.x)
added c =
    elim c.if-y-eq1.branch [
      | then-y-eq1 w ↦ let z : c.loop.y % 2 * c.loop.x ≡ c.loop.x = ap (λ (n : ℕ). n * c.loop.x) w.if-y-eq1.true ∙ one-mul c.loop.x in
          w.r-is ∙ ap (bit_xor c.loop.r) (sym z)
      | else-y-eq1 w ↦ let e : c.loop.y % 2 ≡ 0 = omega (arith, w.if-y-eq1.false) in
          let z : c.loop.y % 2 * c.loop.x ≡ 0 = ap (λ (n : ℕ). n * c.loop.x) e ∙ zero-mul c.loop.x in
          w.r-is ∙ sym (xor_zero_r c.loop.r) ∙ ap (bit_xor c.loop.r) (sym z)
    ]

pub loop-preserved : goal.loop-preserved
loop-preserved c =
    rw c.times_x-x.ensures
    (xtime_lt c.loop.x c.loop.invariant.0, turn c.loop.counter c.loop.r c.loop.x c.loop.y _ _ c.loop-test.true c.loop.invariant.1 (added c))

pub returns : goal.returns
returns c = end c.loop.counter c.loop.r c.loop.x c.loop.y _ c.loop-test.false c.loop.invariant.1
