use Rattle.std.proofs.Common.{◌<◌, List, sym, ap, ◌∙◌, subst, arith}
use Rattle.std.specs.List.{Contains}
use Rattle.words.proofs.named.Named.named.Goals as goal

pub returns : goal.returns
returns g c = record {
  cases = λ x e.
      let xs = c.all-x-items.result.now in
      let there : Contains xs x = subst (λ (l : List g.row.Self.Denot). Contains l x) (sym c.all-x-items.ensures.value) (g.met.Self.Named.whole x) in
      let seen : there.0 < c.loop-x.x-index = omega (arith, there.1) in
      c.loop-x.invariant there.0 seen x (e ∙ ap g.Self.Named.text (sym there.2));
}
