use Rattle.std.proofs.Common.{◌≡◌, ◌<◌, [], length, take, drop, sym, ap, ◌∙◌, arith}
use Rattle.std.proofs.lemmas.Bool.{eqb-false, eqb-true}
use Rattle.std.proofs.lemmas.List.{set-get_or}
use Rattle.collection.specs.Joining.{bytes_in}
use Rattle.capi.proofs.Parting.{back_part, front_part, full_list, no_rest, parted_more}
use Rattle.capi.proofs.join.part.Goals as goal

pub loop-n-preserved : goal.loop-n-preserved
loop-n-preserved c =
    let rest = c.loop-n.rest.now in
    let none = eqb-false (length rest) 0 (sym c.if-is_empty.ensures) in
    let some : 0 < length rest = omega arith in
    parted_more (length c.args.list.now) c.args.each c.args.bytes.now c.loop-n.n c.loop-n.list rest c.split_at.result.1.now c.split_at.result.0
    c.loop-n-test.true some
    (c.split_at.ensures.front ∙ (ap (λ n. take n rest) c.min.ensures ∙ front_part c.args.each rest))
    (c.split_at.ensures.back ∙ (ap (λ n. drop n rest) c.min.ensures ∙ back_part c.args.each rest))
    c.loop-n.invariant

pub returns-then-is_empty-clause-parts : goal.returns-then-is_empty-clause-parts
returns-then-is_empty-clause-parts c =
    let rest = c.loop-n.rest.now in
    let none = eqb-true (length rest) 0 (sym c.if-is_empty.ensures) in
    ap (λ list. bytes_in (take c.loop-n.n list)) (set-get_or c.loop-n.list c.loop-n.n (record { ref_ptr = (0, 0); now = [] }))
    ∙ no_rest (length c.args.list.now) c.args.each c.args.bytes.now c.loop-n.n c.loop-n.list rest (omega arith) c.loop-n.invariant

pub returns-clause-parts : goal.returns-clause-parts
returns-clause-parts c =
    let e : length c.loop-n.list ≡ c.loop-n.n = omega (arith, c.loop-n.auto.list, c.loop-n.auto.n-end, c.loop-n-test.false) in
    ap (λ n. bytes_in (take n c.loop-n.list)) e
    ∙ full_list (length c.args.list.now) c.args.each c.args.bytes.now c.loop-n.n c.loop-n.list c.loop-n.rest.now c.loop-n-test.false c.loop-n.invariant
