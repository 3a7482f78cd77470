use Rattle.std.proofs.Common.{length, sym, subst, arith}
use Rattle.collection.specs.Books.{SymbolsBelow}
use Rattle.collection.proofs.Growing.{zeros_below}
use Rattle.collection.proofs.open.Open.give_up.Goals as goal

pub invariant_of-self : goal.invariant_of-self
invariant_of-self c =
    let o = c.args.self in
    record { room = λ l. omega (arith, c.fill.ensures.len, o.room l); codes = subst (SymbolsBelow o.book) (sym (c.fill.ensures.after (λ y e. e))) (zeros_below o.book (length o.work.now)) }
