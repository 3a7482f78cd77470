use Rattle.std.proofs.Common.{◌≡◌, length, refl, ◌∙◌, arith, rules}
use Rattle.collection.proofs.Growing.{alike_next, grown_facts, next_none, next_some}
use Rattle.collection.proofs.book.Book.with.Goals as goal

pub invariant_of-result : goal.invariant_of-result
invariant_of-result c =
    let b = c.args.self in
    let h = c.args.header.now in
    let size : length b.numbers ≡ 16 = search rules in
    let f = grown_facts b h c.unwrap_or.result (λ e. c.unwrap_or.ensures ∙ next_none b h e) (λ l. c.unwrap_or.ensures ∙ next_some b h l) c.requires.follows size
    c.requires.lawful c.requires.least c.requires.most c.requires.short in
    record { kind = f.kind; some = f.some; needed = f.needed; enough = f.enough; made = f.made; short = f.short; few = f.few; order = b.order; none = λ e. absurd (omega arith); begun = λ _. refl; lead = f.lead; within = f.within; differ = f.differ }

pub returns : goal.returns
returns c =
    let b = c.args.self in
    let h = c.args.header.now in
    record {
      field = refl;
      kept = λ l. c.unwrap_or.ensures ∙ next_some b h l;
      alike = alike_next b h c.unwrap_or.result (λ e. c.unwrap_or.ensures ∙ next_none b h e) (λ l. c.unwrap_or.ensures ∙ next_some b h l) c.requires.follows;
      numbers = refl;
      have = refl;
    }
