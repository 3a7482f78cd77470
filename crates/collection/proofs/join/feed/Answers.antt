use Rattle.std.proofs.Common.{◌≡◌, ℕ, ◌<◌, List, [], length, get_or, sym, refl, ap, ◌∙◌, subst, arith}
use Rattle.std.proofs.lemmas.Result.{MatchResult-at_ok}
use Rattle.piece.specs.Layouts.{Bytes}
use Rattle.collection.specs.Adding.{RefusesPiece, Takes}
use Rattle.collection.specs.Collected.{Collected, read_of, with_piece}
use Rattle.collection.specs.Joining.{bytes_in, fed}
use Rattle.collection.specs.Opened.{opened}
use Rattle.collection.proofs.Feeding.{bytes_at, bytes_many, fed_more, feeds_more, mapped}
use Rattle.collection.proofs.join.feed.Goals as goal

pub loop-at-preserved : goal.loop-at-preserved
loop-at-preserved g c =
    let K = g.F.Field.ops in
    let room : ℕ = (opened c.args.collection.now).room in
    let all : List (List ℕ) = bytes_in c.args.pieces.now in
    let at : ℕ = c.loop-at.at-counter in
    let inv = c.loop-at.invariant in
    let bytes : List ℕ = (get_or c.args.pieces.now at (record { ref_ptr = (0, 0); now = [] })).now in
    let there : get_or all at [] ≡ bytes = bytes_at c.args.pieces.now at (record { ref_ptr = (0, 0); now = [] }) refl c.loop-at-test.true in
    let done = c.in_ok-map_err.was in
    let took : Takes K (opened c.loop-at.collection) bytes = MatchResult-at_ok (λ _. Takes K (opened c.loop-at.collection) bytes) (λ _. Unit {0}) c.in_ok-map_err.field-0 done
    (mapped c.add.result c.map_err.result _ _ (λ f. RefusesPiece K (opened c.loop-at.collection) bytes f) (λ _. Unit {0}) _ c.map_err.ensures.cases c.add.ensures.answer (λ x h. h) (λ e f w h. tt)) in
    let after : opened c.add.new.self ≡ with_piece (opened c.loop-at.collection) (read_of K bytes)
    = MatchResult-at_ok (λ _. opened c.add.new.self ≡ with_piece (opened c.loop-at.collection) (read_of K bytes)) (λ _. Unit {0}) c.in_ok-map_err.field-0 done
    (mapped c.add.result c.map_err.result _ _ (λ _. opened c.add.new.self ≡ opened c.loop-at.collection) (λ _. Unit {0}) _ c.map_err.ensures.cases c.add.ensures.after (λ x h. h) (λ e f w h. tt)) in
    let takes : Takes K (fed K room all at) (get_or all at []) = subst (λ (C : Collected). Takes K C (get_or all at [])) inv.2 (subst (Takes K (opened c.loop-at.collection)) (sym there) took) in
    let many : at < length all = omega (arith, bytes_many c.args.pieces.now) in (
      c.add.ensures.named ∙ inv.0,
      feeds_more K room all at inv.1 takes (subst Bytes (sym there) c.add.ensures.bytes),
      after ∙ (ap (λ (C : Collected). with_piece C (read_of K bytes)) inv.2
          ∙ (ap (λ (bs : List ℕ). with_piece (fed K room all at) (read_of K bs)) (sym there) ∙ sym (fed_more K room all at many))),
    )
