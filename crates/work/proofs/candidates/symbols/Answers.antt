use Rattle.std.proofs.Common.{ℕ, get_or, subst, arith}
use Rattle.std.proofs.lemmas.Grind.{common_steps}
use Rattle.std.proofs.lemmas.List.{get_or_read, map_more}
use borrow.Author.Count.{below_more}
use Rattle.work.specs.declared.held.Held.{Held}
use Rattle.work.specs.Told.{Has, symbol_of}
use Rattle.work.proofs.candidates.symbols.Goals as goal

pub loop-piece-preserved : goal.loop-piece-preserved
loop-piece-preserved c =
    let ps = c.args.pieces.now in
    let i = c.loop-piece.piece-index in
    let p = c.piece-item.result in
    let lt = c.loop-piece-test.true in
    let here : (d : Held) → Has c.args.column (get_or ps i d) =
    λ d. subst (λ (q : Held). Has c.args.column q) (get_or_read ps i p lt c.piece-item.is d) c.in-Some.ensures.within in
    let more = map_more (symbol_of c.args.column) ps i p lt in
    (grind (arith, common_steps, more), λ j d h. below_more (λ (k : ℕ). (e : Held) → Has c.args.column (get_or ps k e)) i (λ k l e. c.loop-piece.invariant.1 k e l) here j h d)
