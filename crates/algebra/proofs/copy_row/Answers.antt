use mathlib.Core.Path.{ap, ◌∙◌}
use mathlib.Core.List.{List}
use Prim.Native.Nat.{ℕ}
use lib.ListN.{length, get_or}
use Rattle.algebra.proofs.Cells.{row_at}
use Rattle.algebra.proofs.copy_row.Goals as goal

pub returns : goal.returns
returns c = λ k h. ap (λ (xs : List ℕ). get_or xs k 0) c.copy_from_slice.ensures.after ∙ row_at (length c.args.row.now) c.args.rows.now c.args.r k h
