use Rattle.std.proofs.Common.{◌<◌, ◌≢◌, length, get_or, ap, ◌∙◌, arith, lit<, get_or-set_other, get_or-set_same, below_more}
use Rattle.field.specs.Gf256.{xtime}
use Rattle.field.specs.Laws256.{laws256, two_times}
use Rattle.field.proofs.gf256.Gf256Doubling.double_row.Goals as goal

pub loop-x-preserved : goal.loop-x-preserved
loop-x-preserved c = (
  below_more _ _
      (λ i h. let ne : i ≢ c.loop-x.x-index = omega arith in rw get_or-set_other (c.loop-x.invariant.0 i h))
      (let lt : c.loop-x.x-index < length c.loop-x.row = omega arith in
      let here = c.loop-x.invariant.1 c.loop-x.x-index (omega arith) in
      let code : get_or c.args.row.now c.loop-x.x-index 0 < 256 = c.requires c.loop-x.x-index (omega arith) in
      rw get_or-set_same (c.times_x.ensures ∙ ap xtime here ∙ two_times (get_or c.args.row.now c.loop-x.x-index 0) code)),
  λ i h. let ne : i ≢ c.loop-x.x-index = omega arith in rw get_or-set_other (c.loop-x.invariant.1 i (omega arith)),
)

pub returns-clause-codes : goal.returns-clause-codes
returns-clause-codes c k h =
    let l : k < length c.args.row.now = omega arith in
    rw (c.loop-x.invariant.0 k (omega arith)) (laws256.mul_below 2 _ (lit< tt) (c.requires k l))
