use Rattle.std.proofs.Common.{◌≡◌, ℕ, ◌<◌, length, get_or, take, drop, ap, ◌∙◌, arith, rules}
use Rattle.std.proofs.ByRecursion.{All-from_get_or, All-take}
use Rattle.piece.specs.Bits.{packed}
use Rattle.piece.proofs.Packing.{pack_room, pack_more, pack_many, pack_front, pack_further, copied_all, drop_further}
use Rattle.piece.proofs.bits.pack.Goals as goal

pub returns-then-width-eq8-clause-front : goal.returns-then-width-eq8-clause-front
returns-then-width-eq8-clause-front c =
    copied_all c.args.width c.args.values.now c.args.out.now c.loop-k.k c.loop-k.out c.if-width-eq8.true c.requires.fit (omega arith) c.loop-k.invariant

pub write-requires-clause-room : goal.write-requires-clause-room
write-requires-clause-room c =
    let p = c.loop-v.invariant.1 in
    pack_room c.args.width c.args.values.now c.start-writer.result.out.now c.loop-v.v-index c.loop-v.writer p (omega arith) (omega (arith, ap length c.start-writer.ensures.out, c.requires.room))

pub loop-v-preserved : goal.loop-v-preserved
loop-v-preserved c =
    let e = c.write.ensures in (
      e.named ∙ c.loop-v.invariant.0,
      pack_more c.args.width c.args.values.now c.start-writer.result.out.now c.loop-v.v-index c.loop-v.writer c.loop-v.invariant.1 (omega arith) c.write.new.self e.size e.same e.rest,
    )

pub returns-clause-many : goal.returns-clause-many
returns-clause-many c =
    c.finish.ensures.many ∙ pack_many c.args.width c.args.values.now c.start-writer.result.out.now c.loop-v.v-index c.loop-v.writer c.loop-v.invariant.1 (omega arith)

pub returns-clause-front : goal.returns-clause-front
returns-clause-front c =
    let out = c.finish.new.self.out.now in
    let u : (i : ℕ) → i < length out → get_or out i 0 < 256 = λ i h. let t = c.type_inv.out i in search rules in
    let f : take c.finish.result out ≡ packed c.args.width c.args.values.now
    = pack_front c.args.width c.args.values.now c.start-writer.result.out.now c.loop-v.v-index c.loop-v.writer c.loop-v.invariant.1 (omega arith) _
    (All-take (λ d. d < 256) c.finish.result out (All-from_get_or (λ d. d < 256) out 0 u)) c.finish.ensures.front in
    search rules

pub returns-clause-rest : goal.returns-clause-rest
returns-clause-rest c =
    let w = c.loop-v.writer in
    let e = c.finish.ensures in
    let r : drop c.finish.result c.finish.new.self.out.now ≡ drop c.finish.result c.args.out.now
    = e.rest ∙ drop_further w.out.now c.args.out.now w.next c.finish.result (omega (arith, e.many, pack_further w)) (c.loop-v.invariant.1.rest ∙ ap (drop w.next) c.start-writer.ensures.out) in
    search rules
