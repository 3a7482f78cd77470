use Rattle.std.proofs.Common.{length, sym, subst, arith}
use Rattle.collection.specs.Books.{SymbolsBelow}
use Rattle.collection.proofs.Growing.{zeros_below}
use Rattle.collection.proofs.closed.Closed.give_up.Goals as goal

pub invariant_of-self : goal.invariant_of-self
invariant_of-self c =
    let o = c.args.self in
    record { full = o.full; room = omega (arith, c.fill.ensures.len, o.room); codes = subst (SymbolsBelow o.book) (sym (c.fill.ensures.after (λ y e. e))) (zeros_below o.book (length o.work.now)) }
