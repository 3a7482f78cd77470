use Rattle.std.proofs.Common.{◌≡◌, ℕ, ◌<◌, ◌*◌, ◌+◌, ◌/◌, ◌%◌, ◌^◌, length, get_or, ap, ◌∙◌, subst, arith}
use mathlib.Core.Logic.{inl, inr}
use Rattle.std.proofs.lemmas.List.{length_push}
use Rattle.std.specs.Iterator.Adapters.{zip_first, zip_second}
use Rattle.std.specs.Slice.Iter.{chunks_exact_rest, chunks_exact_size, iter_rest}
use Rattle.field.specs.Digits.{gained_all}
use Rattle.field.proofs.Combining.{gathered_start, gathered_set, gathered_clear}
use Rattle.field.proofs.Pairs.{pairs_start, next_pair, pairs_end}
use Rattle.field.proofs.Rows.{row_fits}
use Rattle.field.proofs.doublings.gather.Goals as goal

pub loop-row-init : goal.loop-row-init
loop-row-init g c =
    let made : c.into_iter-row-iterator.result ≡ c.zip-row-items.result = c.into_iter-row-iterator.ensures.into_iter_gives in
    record {
      codes = c.requires.sums;
      left = pairs_start
          (ap (λ z. chunks_exact_size (zip_first z)) made ∙ ap chunks_exact_size c.zip-row-items.ensures.first ∙ c.chunks_exact.ensures.size)
          (ap (λ z. chunks_exact_rest (zip_first z)) made ∙ ap chunks_exact_rest c.zip-row-items.ensures.first ∙ c.chunks_exact.ensures.rest)
          (ap (λ z. iter_rest (zip_second z)) made ∙ c.zip-row-items.ensures.second.0);
      gathered = gathered_start g.D.Doubling.arith (λ r. get_or c.args.factors.now r 0 / 2 ^ c.args.place % 2) c.args.rows.now c.args.out.now;
    }

pub plus_row-requires-clause-codes : goal.plus_row-requires-clause-codes
plus_row-requires-clause-codes g c k h =
    let p = next_pair c.loop-row.invariant.left c.in-Some.ensures.steps in
    let b : k < length c.args.out.now = omega (arith, p.width) in
    let fits = row_fits (length c.loop-row.yielded) (length c.args.factors.now) (length c.args.out.now) p.here in
    rw (p.row_at k b) (c.requires.codes (length c.loop-row.yielded * length c.args.out.now + k) (omega arith))

pub loop-row-preserved-then-factor-place-eq1 : goal.loop-row-preserved-then-factor-place-eq1
loop-row-preserved-then-factor-place-eq1 g c =
    let K = g.D.Doubling.arith in
    let d : ℕ → ℕ = λ r. get_or c.args.factors.now r 0 / 2 ^ c.args.place % 2 in
    let n : ℕ = length c.loop-row.yielded in
    let p = next_pair c.loop-row.invariant.left c.in-Some.ensures.steps in
    rw (length_push c.loop-row.yielded (c.in-Some.row, c.in-Some.factor))
    (record {
      codes = c.plus_row.ensures.codes;
      left = p.left;
      gathered = gathered_set K d c.args.rows.now c.args.out.now c.loop-row.out n c.loop-row.invariant.gathered c.plus_row.new.out
          (let e : c.in-Some.factor.now ≡ get_or c.args.factors.now n 0 = p.factor in rw (← e) c.if-factor-place-eq1.true)
          (λ k l. rw (← p.row_at k l) (c.plus_row.ensures.value k (omega arith)));
    })

pub loop-row-preserved : goal.loop-row-preserved
loop-row-preserved g c =
    let K = g.D.Doubling.arith in
    let d : ℕ → ℕ = λ r. get_or c.args.factors.now r 0 / 2 ^ c.args.place % 2 in
    let n : ℕ = length c.loop-row.yielded in
    let p = next_pair c.loop-row.invariant.left c.in-Some.ensures.steps in
    rw (length_push c.loop-row.yielded (c.in-Some.row, c.in-Some.factor))
    (record {
      codes = c.loop-row.invariant.codes;
      left = p.left;
      gathered = gathered_clear K d c.args.rows.now c.args.out.now c.loop-row.out n c.loop-row.invariant.gathered
          (let e : c.in-Some.factor.now ≡ get_or c.args.factors.now n 0 = p.factor in rw (← e) (omega (arith, c.if-factor-place-eq1.false)));
    })

pub returns-clause-value : goal.returns-clause-value
returns-clause-value g c k l =
    let e : length c.loop-row.yielded ≡ length c.args.factors.now = pairs_end c.requires.size c.loop-row.invariant.left
    (elim c.in-None.ensures.steps [ inl (u, s) ↦ inl s.1.0 | inr (u, s) ↦ inr s.0 ]) in
    subst (λ (m : ℕ). get_or c.loop-row.out k 0 ≡ gained_all g.D.Doubling.arith m (λ r. get_or c.args.factors.now r 0 / 2 ^ c.args.place % 2) (λ j. get_or c.args.rows.now (j * length c.args.out.now + k) 0) (get_or c.args.out.now k 0)) e (c.loop-row.invariant.gathered.at k l)
