use Rattle.std.proofs.Common.{ℕ, ◌*◌, ◌<◌, length, get_or, sym, ap, arith, rules}
use Rattle.piece.proofs.Octets.{value_eight}
use Rattle.piece.proofs.Unpacking.{read_room, read_value, read_more, unpack_more}
use Rattle.piece.proofs.bits.unpack.Goals as goal

pub read-requires-clause-room : goal.read-requires-clause-room
read-requires-clause-room c =
    read_room c.args.width c.args.bytes.now c.loop-value.value-index c.loop-value.reader c.loop-value.invariant.0 (length c.args.values.now) (omega arith) c.requires.room

pub loop-value-preserved : goal.loop-value-preserved
loop-value-preserved c =
    let w = c.args.width in
    let bytes = c.args.bytes.now in
    let k = c.loop-value.value-index in
    let r = c.loop-value.invariant.0 in
    let e = c.read.ensures in
    let m : c.loop-value.value-index < length c.loop-value.values = omega arith in (
      read_more w bytes k c.loop-value.reader r c.read.result c.read.new.self e.value e.bytes,
      unpack_more w bytes k c.loop-value.values c.read.result m (read_value w bytes k c.loop-value.reader r c.read.result c.read.new.self e.value e.fits) c.loop-value.invariant.1,
    )

pub loop-k-preserved : goal.loop-k-preserved
loop-k-preserved c =
    let bytes = c.args.bytes.now in
    let f = c.type_inv.bytes c.loop-k.k in
    let b : get_or bytes c.loop-k.k 0 < 256 = search rules in
    let l : c.loop-k.k < length bytes = omega (arith, c.requires.room, ap (λ (w : ℕ). length c.args.values.now * w) c.if-width-eq8.true) in
    let m : c.loop-k.k < length c.loop-k.values = omega arith in
    unpack_more 8 bytes c.loop-k.k c.loop-k.values _ m (sym (value_eight bytes c.loop-k.k l b)) c.loop-k.invariant
