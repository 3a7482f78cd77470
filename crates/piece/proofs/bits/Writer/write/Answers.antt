use Rattle.std.proofs.Common.{◌-◌, ◌/◌, ◌^◌, ◌<◌, length, refl, arith, rules}
use Rattle.piece.proofs.Packing.{length_written, flush_none, flush_step, top_bits}
use Rattle.piece.proofs.bits.Writer.write.Goals as goal

pub loop-bits-init : goal.loop-bits-init
loop-bits-init c = (refl, flush_none c.args.self.now c.args.width c.args.v c.requires.wide c.requires.fits)

pub overflow_cast-self : goal.overflow_cast-self
overflow_cast-self c =
    let l = c.loop-bits in
    let h : l.acc / 2 ^ (l.bits - 8) < 2 ^ 8 = top_bits 8 l.acc l.bits c.loop-bits-test.true l.invariant.1.small in
    search rules

pub bounds-self-next : goal.bounds-self-next
bounds-self-next c =
    let f = c.loop-bits.invariant.1 in
    let l : c.loop-bits.next < length c.loop-bits.self.out.now = omega (arith, f.place, f.size, c.requires.room, length_written c.args.self.now) in
    l

pub loop-bits-preserved : goal.loop-bits-preserved
loop-bits-preserved c =
    let w = c.args.self.now in
    let f = c.loop-bits.invariant.1 in
    let l : c.loop-bits.next < length c.loop-bits.self.out.now = omega (arith, f.place, f.size, c.requires.room, length_written w) in
    (c.loop-bits.invariant.0, flush_step w.out.now _ _ c.loop-bits.self.out.now c.loop-bits.next c.loop-bits.acc c.loop-bits.bits c.loop-bits-test.true l f)

pub invariant_of-self-2 : goal.invariant_of-self-2
invariant_of-self-2 c =
    let f = c.loop-bits.invariant.1 in
    record { few = c.loop-bits-test.false; small = f.small; room = omega (arith, f.place, f.size, c.requires.room, length_written c.args.self.now) }
