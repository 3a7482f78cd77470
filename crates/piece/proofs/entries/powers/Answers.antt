use Rattle.std.proofs.Common.{ℕ, ◌<◌, ◌≢◌, length, sym, refl, ap, ◌∙◌, subst, add-one, arith, get_or-set_other, get_or-set_same, below_more}
use Rattle.algebra.specs.Field.{power}
use Rattle.algebra.proofs.Codes.{power_below}
use Rattle.piece.proofs.entries.powers.Goals as goal

pub loop-factor-init : goal.loop-factor-init
unfolding power
loop-factor-init g c = (refl, λ k h. absurd (omega arith))

pub mul-p-requires-clause-left : goal.mul-p-requires-clause-left
mul-p-requires-clause-left g c = rw c.loop-factor.invariant.0 (power_below g.met.F.Field.laws c.args.point c.loop-factor.factor-index c.requires)

pub loop-factor-preserved : goal.loop-factor-preserved
unfolding power
loop-factor-preserved g c = (
  rw (add-one c.loop-factor.factor-index) (c.mul-p.ensures ∙ ap (λ (x : ℕ). g.F.Field.ops.mul x c.args.point) c.loop-factor.invariant.0),
  below_more _ _
      (λ k h. let ne : k ≢ c.loop-factor.factor-index = omega arith in rw get_or-set_other (c.loop-factor.invariant.1 k h))
      (let lt : c.loop-factor.factor-index < length c.loop-factor.factors = omega arith in rw get_or-set_same c.loop-factor.invariant.0),
)

pub returns-clause-codes : goal.returns-clause-codes
returns-clause-codes g c = λ k h. subst (λ (x : ℕ). x < g.F.Field.ops.order) (sym (c.loop-factor.invariant.1 k (omega arith))) (power_below g.met.F.Field.laws c.args.point k c.requires)
