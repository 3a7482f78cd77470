use Rattle.std.proofs.Common.{◌≡◌, ℕ, ◌*◌, ◌<◌, ◌≤◌, length, get_or, sym, ap, ◌∙◌, subst, arith, rules}
use Rattle.std.proofs.ByRecursion.{All-from_get_or}
use Rattle.piece.specs.Bits.{value_in, bytes_for, Holds}
use Rattle.piece.specs.Pieces.{listed}
use Rattle.piece.proofs.Unpacking.{read_room, read_value, read_more}
use Rattle.piece.proofs.Faults.{passed_more, bad_value, spare_one, no_fault, no_fault_eight}
use Rattle.piece.proofs.bits.fault.Goals as goal

pub returns-then-order-eq256 : goal.returns-then-order-eq256
returns-then-order-eq256 c =
    let bytes = c.args.bytes.now in
    let n = c.args.count in
    let e : c.args.width ≡ 8 = c.if-width-eq8.true in
    let u : (i : ℕ) → i < length bytes → get_or bytes i 0 < 256 = λ i h. let f = c.type_inv.bytes i in search rules in
    let h = no_fault_eight n bytes u (c.requires.size ∙ ap (λ (w : ℕ). bytes_for w n) e) in
    let P : ℕ → ℕ → Type 0 = λ q w. Holds q w bytes (listed n (value_in w bytes)) in
    record { found = subst (λ (q : ℕ). P q c.args.width) (sym c.if-order-eq256.true) (subst (P 256) (sym e) h) }

pub read-requires-clause-room : goal.read-requires-clause-room
read-requires-clause-room c =
    let s : c.args.count * c.args.width ≤ 8 * length c.args.bytes.now = omega (arith, c.requires.size) in
    read_room c.args.width c.args.bytes.now c.loop-k._k c.loop-k.reader c.loop-k.invariant.0 c.args.count (omega arith) s

pub loop-k-preserved : goal.loop-k-preserved
loop-k-preserved c =
    let w = c.args.width in
    let bytes = c.args.bytes.now in
    let k = c.loop-k._k in
    let r = c.loop-k.invariant.0 in
    let v = c.read.result in
    let e = c.read.ensures in
    let x = read_value w bytes k c.loop-k.reader r v c.read.new.self e.value e.fits in (
      read_more w bytes k c.loop-k.reader r v c.read.new.self e.value e.bytes,
      passed_more c.args.order w bytes k v x (omega arith) c.loop-k.invariant.1,
    )

pub returns-then-read-order : goal.returns-then-read-order
returns-then-read-order c =
    let w = c.args.width in
    let bytes = c.args.bytes.now in
    let k = c.loop-k._k in
    let r = c.loop-k.invariant.0 in
    let v = c.read.result in
    let e = c.read.ensures in
    let x = read_value w bytes k c.loop-k.reader r v c.read.new.self e.value e.fits in
    record { found = bad_value c.args.order w bytes k c.loop-k.reader r c.loop-k.invariant.1 c.args.count v c.byte.result (omega arith) c.requires.size x c.if-read-order.true c.byte.ensures.byte }

pub returns-then-reader-gt0 : goal.returns-then-reader-gt0
returns-then-reader-gt0 c =
    record { found = spare_one c.args.order c.args.width c.args.bytes.now c.loop-k._k c.loop-k.reader c.loop-k.invariant.0 c.loop-k.invariant.1 c.args.count (omega arith) c.requires.size _ c.if-reader-gt0.true c.byte-then-reader-gt0.ensures.byte }

pub returns : goal.returns
returns c =
    let bytes = c.args.bytes.now in
    let u : (i : ℕ) → i < length bytes → get_or bytes i 0 < 256 = λ i h. let f = c.type_inv.bytes i in search rules in
    record {
      found = no_fault c.args.order c.args.width bytes c.loop-k._k c.loop-k.reader c.loop-k.invariant.0 c.loop-k.invariant.1 c.args.count (omega arith) c.requires.size
          (All-from_get_or (λ x. x < 256) bytes 0 u) (omega arith);
    }
