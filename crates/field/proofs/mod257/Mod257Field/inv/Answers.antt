use Rattle.std.proofs.Common.{ℕ, get_or, sym, ap, ◌∙◌}
use native.Mathlib.Decide.{ℕ_discrete}
use Rattle.field.specs.Mod257.{mod257}
use Rattle.field.specs.Every.{at}
use Rattle.field.specs.Found.{rule, table_inverse}
use Rattle.field.specs.Laws257.{laws257, table, all_rule, none}
use Rattle.field.proofs.mod257.Mod257Field.inv.Goals as goal

pub returns : goal.returns
unfolding table
returns c = ap (λ (n : ℕ). get_or table n 0) c.from.ensures ∙ elim (ℕ_discrete c.args.a 0) [
  | yes e ↦ ap (λ (n : ℕ). get_or table n 0) e ∙ none ∙ ap mod257.inv (sym e)
  | no n ↦ table_inverse laws257 table c.args.a c.requires n (at (rule mod257.mul 257 table) 257 all_rule c.args.a c.requires)
]
