use Rattle.std.proofs.Common.{ℕ, get_or, sym, ap, ◌∙◌}
use native.Mathlib.Decide.{ℕ_discrete}
use Rattle.field.specs.Gf256.{gf256}
use Rattle.field.specs.Every.{at}
use Rattle.field.specs.Found.{rule, table_inverse}
use Rattle.field.specs.Laws256.{laws256, table, all_rule, none}
use Rattle.field.proofs.gf256.Gf256Field.inv.Goals as goal

pub returns : goal.returns
unfolding table
returns c = ap (λ (n : ℕ). get_or table n 0) c.from.ensures ∙ elim (ℕ_discrete c.args.a 0) [
  | yes e ↦ ap (λ (n : ℕ). get_or table n 0) e ∙ none ∙ ap gf256.inv (sym e)
  | no n ↦ table_inverse laws256 table c.args.a c.requires n (at (rule gf256.mul 256 table) 256 all_rule c.args.a c.requires)
]
