use Rattle.std.proofs.Common.{arith}
use Rattle.collection.proofs.Growing.{laid_keeps}
use Rattle.collection.proofs.Laying.{laid_all}
use Rattle.collection.proofs.open.Open.lay.Goals as goal

pub invariant_of-self : goal.invariant_of-self
invariant_of-self c =
    let o = c.args.self.now in
    let laid = laid_all c.args.from c.args.symbols.now o.work.now c.copy_from_slice.new.self c.requires.room c.copy_from_slice.ensures.after in
    record { room = λ l. let r = o.room l in omega (arith, laid.size); codes = laid_keeps o.book _ _ _ _ _ c.requires.behind laid o.codes }
