use Rattle.std.proofs.Common.{◌≡◌, ℕ, ◌-◌, ◌*◌, ◌/◌, ◌%◌, ◌^◌, ◌<◌, length, get_or, ap, ◌∙◌, div-one, arith}
use Rattle.field.proofs.Digits.{left, left_is, left_next, left_none}
use Rattle.field.proofs.Rows.{row_within, place_within}
use Rattle.field.proofs.doublings.spread.Goals as goal

pub loop-place-init : goal.loop-place-init
loop-place-init g c =
    let K = g.D.Doubling.arith in
    let D = g.met.D.Doubling.digits in (
      c.requires.sums,
      c.requires.codes,
      λ i h.
          let l : i < length c.args.factors.now * length c.args.row.now = omega arith in
          let wf = c.requires.factors (i / length c.args.row.now) (row_within i (length c.args.factors.now) (length c.args.row.now) l) in
          let wx = c.requires.codes (i % length c.args.row.now) (place_within i (length c.args.factors.now) (length c.args.row.now) l) in
          let n : c.places-place-end.result - 0 ≡ K.width = omega (arith, c.places-place-end.ensures) in
          let fits : get_or c.args.factors.now (i / length c.args.row.now) 0 < 2 ^ K.width = omega (arith, wf, D.order_fits) in
          ap (λ (f : ℕ). left K (c.places-place-end.result - 0) f (get_or c.args.rows.now i 0) (get_or c.args.row.now (i % length c.args.row.now) 0)) (div-one _)
          ∙ ap (λ (p : ℕ). left K p (get_or c.args.factors.now (i / length c.args.row.now) 0) (get_or c.args.rows.now i 0) (get_or c.args.row.now (i % length c.args.row.now) 0)) n
          ∙ left_is g.met.D.Doubling.laws D K.width _ _ _ fits wf (c.requires.sums i h) wx,
    )

pub loop-place-preserved : goal.loop-place-preserved
loop-place-preserved g c =
    let K = g.D.Doubling.arith in
    let e : length c.loop-place.row ≡ length c.args.row.now = c.loop-place.auto.row in (
      c.add_where.ensures.codes,
      c.double_row.ensures.codes,
      λ i h.
          let l : i < length c.args.factors.now * length c.args.row.now = omega arith in
          let p = place_within i (length c.args.factors.now) (length c.args.row.now) l in
          let w : ℕ = length c.args.row.now in
          left_next K c.places-place-end.result c.loop-place.place (get_or c.args.factors.now (i / w) 0) (get_or c.loop-place.rows i 0) (get_or c.loop-place.row (i % w) 0) (get_or c.add_where.new.rows i 0) (get_or c.double_row.new.row (i % w) 0)
          (K.add (get_or c.args.rows.now i 0) (K.mul (get_or c.args.factors.now (i / w) 0) (get_or c.args.row.now (i % w) 0)))
          c.loop-place-test.true (c.loop-place.invariant.2 i h)
          (rw e at c.add_where.ensures.value i (omega arith))
          (c.double_row.ensures.value (i % w) (omega arith)),
    )

pub returns-clause-value : goal.returns-clause-value
returns-clause-value g c i h =
    left_none g.D.Doubling.arith c.places-place-end.result c.loop-place.place _ _ _ _ c.loop-place-test.false (c.loop-place.invariant.2 i h)
