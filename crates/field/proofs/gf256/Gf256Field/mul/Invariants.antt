use Rattle.std.proofs.Common.{◌≡◌, ◌-◌, ◌<◌}
use lib.Bits.{bit_xor}
use Rattle.field.specs.Gf256.{over_bits, xtime, times}
use Rattle.field.proofs.gf256.Gf256Field.mul.Given as goal

abbrev pub invariant-loop : goal.invariant-loop
invariant-loop l = (l.x < 256) × (bit_xor l.r (over_bits xtime (8 - l.counter) l.x l.y) ≡ times l.a l.b)
