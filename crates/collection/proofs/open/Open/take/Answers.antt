use Rattle.std.proofs.Common.{◌≡◌, ℕ, ◌+◌, ◌*◌, length, refl, ap, ◌∙◌, arith, rules}
use Rattle.std.proofs.lemmas.List.{places}
use Rattle.piece.specs.Reading.{count}
use Rattle.collection.proofs.Growing.{next_behind, next_fits, took}
use Rattle.collection.proofs.open.Open.take.Goals as goal

pub lay-requires : goal.lay-requires
lay-requires g c =
    let b = c.args.self.now.book in
    let h = c.args.header.now in
    let len : ℕ = length c.args.symbols.now in
    let full : length c.unpack.new.values ≡ count h = c.unpack.auto.values ∙ c.requires.symbols in
    let from : c.have.result * (h.settings.m + len) + h.settings.m ≡ b.have * (h.settings.m + count h) + h.settings.m
    = ap (λ (x : ℕ). x * (h.settings.m + len) + h.settings.m) c.have.ensures ∙ ap (λ (x : ℕ). b.have * (h.settings.m + x) + h.settings.m) c.requires.symbols in
    record {
      behind = omega (arith, from, next_behind b h c.requires.follows c.requires.lawful);
      room = omega (arith, from, full, c.requires.room, next_fits b h c.requires.follows c.requires.lawful c.requires.short);
    }

pub invariant_of-self : goal.invariant_of-self
invariant_of-self g c =
    let b = c.args.self.now.book in
    let h = c.args.header.now in
    let size : length b.numbers ≡ 16 = search rules in
    let t = took g.F.Field.ops b c.with-self.result c.lay.new.self.book h c.args.body.now c.unpack.new.values c.args.self.now.work.now c.lay.new.self.work.now
    _ c.have.result c.width.result (length c.args.symbols.now) c.requires.follows size c.requires.field c.requires.body c.args.self.now.codes
    c.width.ensures c.have.ensures c.requires.symbols refl c.unpack.auto.values c.unpack.ensures.each
    (record { size = c.lay.ensures.size; before = c.lay.ensures.before; laid = c.lay.ensures.laid }) c.lay.ensures.book c.with-self.ensures in
    record { room = λ _. omega (arith, t.room, c.requires.room); codes = t.codes }

pub returns : goal.returns
returns g c =
    let b = c.args.self.now.book in
    let h = c.args.header.now in
    let size : length b.numbers ≡ 16 = search rules in
    let t = took g.F.Field.ops b c.with-self.result c.lay.new.self.book h c.args.body.now c.unpack.new.values c.args.self.now.work.now c.lay.new.self.work.now
    _ c.have.result c.width.result (length c.args.symbols.now) c.requires.follows size c.requires.field c.requires.body c.args.self.now.codes
    c.width.ensures c.have.ensures c.requires.symbols refl c.unpack.auto.values c.unpack.ensures.each
    (record { size = c.lay.ensures.size; before = c.lay.ensures.before; laid = c.lay.ensures.laid }) c.lay.ensures.book c.with-self.ensures in
    record { named = c.lay.ensures.named; taken = t.collected; wiped = search (rules, places) }
