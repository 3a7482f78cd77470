use Rattle.std.proofs.Common.{◌-◌, ◌/◌, ◌^◌, ◌<◌, length, get_or, sym, ap, ◌∙◌, arith, rules}
use Rattle.piece.proofs.Packing.{top_bits, below_pow}
use Rattle.piece.proofs.Unpacking.{length_unread, fill_step, read_same}
use Rattle.piece.proofs.bits.Reader.read.Goals as goal

pub bounds-self-next : goal.bounds-self-next
bounds-self-next c =
    let l = c.loop-bits in
    let f = l.invariant.0 in
    omega (arith, c.requires.room, ap length f.same, length_unread c.args.self.now.bytes.now l.next l.acc l.bits f.within)

pub loop-bits-preserved : goal.loop-bits-preserved
loop-bits-preserved c =
    let bytes = c.args.self.now.bytes.now in
    let l = c.loop-bits in
    let f = l.invariant.0 in
    let h : l.next < length bytes = omega (arith, c.requires.room, ap length f.same, length_unread bytes l.next l.acc l.bits f.within) in
    let b : get_or bytes l.next 0 < 2 ^ 8 = search rules in
    (fill_step bytes _ l.next l.acc l.bits (omega (arith, c.requires.wide)) h b f, omega (arith, c.loop-bits-test.true))

pub overflow_cast-result : goal.overflow_cast-result
overflow_cast-result c =
    let l = c.loop-bits in
    let h : l.acc / 2 ^ (l.bits - c.args.width) < 2 ^ 16
    = below_pow (l.acc / 2 ^ (l.bits - c.args.width)) c.args.width 16 (top_bits c.args.width l.acc l.bits c.loop-bits-test.false l.invariant.0.small) c.requires.wide in
    search rules

pub returns-clause-fits : goal.returns-clause-fits
returns-clause-fits c = top_bits c.args.width c.loop-bits.acc c.loop-bits.bits c.loop-bits-test.false c.loop-bits.invariant.0.small

pub returns-clause-value : goal.returns-clause-value
returns-clause-value c =
    let l = c.loop-bits in
    sym l.invariant.0.same ∙ read_same c.args.self.now.bytes.now c.args.width l.acc l.bits l.next c.loop-bits-test.false (omega (arith, l.invariant.1, c.requires.wide))
