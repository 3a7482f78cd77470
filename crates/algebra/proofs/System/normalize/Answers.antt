use Rattle.std.proofs.Common.{◌≡◌, ℕ, ◌+◌, ◌-◌, ◌*◌, length, subst, ◌∙◌, arith}
use borrow.Rule.Slice.PartMut.{put_mid}
use Rattle.algebra.specs.Field.{Columns, Scaled}
use Rattle.algebra.specs.Flat.{cell}
use Rattle.algebra.proofs.Steps.{scaled_columns}
use Rattle.algebra.proofs.Cells.{put_grid, row_size, row_codes}
use Rattle.algebra.proofs.System.normalize.Goals as goal

pub inv-k-requires : goal.inv-k-requires
unfolding cell
inv-k-requires g c = c.args.self.now.grid.below c.args.c c.requires.within c.args.c (omega (arith, c.args.self.now.wide))

pub scale_row-requires-clause-factor : goal.scale_row-requires-clause-factor
unfolding cell
scale_row-requires-clause-factor g c =
    rw c.inv-k.ensures (g.met.F.Field.laws.inv_below _ (c.args.self.now.grid.below c.args.c c.requires.within c.args.c (omega (arith, c.args.self.now.wide))))

pub scale_row-requires-clause-codes : goal.scale_row-requires-clause-codes
scale_row-requires-clause-codes g c = row_codes c.args.self.now.grid c.args.c c.requires.within

pub invariant_of-self : goal.invariant_of-self
invariant_of-self g c =
    let w : ℕ = length c.args.self.now.row.now in
    let e : length c.scale_row.new.scratch ≡ w = c.scale_row.auto.scratch in
    let len : length c.scale_row.new.row ≡ w = c.scale_row.auto.row ∙ row_size c.args.self.now.grid c.args.c c.requires.within in
    record {
      grid = rw e (put_grid (length c.args.self.now.factors.now) w c.args.self.now.rows.now c.scale_row.new.row c.args.c c.args.self.now.grid.size c.requires.within len g.F.Field.ops.order c.args.self.now.grid c.scale_row.ensures.codes);
      wide = omega (arith, c.args.self.now.wide);
    }

pub returns-clause-scaled : goal.returns-clause-scaled
returns-clause-scaled g c =
    let m : ℕ = length c.args.self.now.factors.now in
    let w : ℕ = length c.args.self.now.row.now in
    let size = row_size c.args.self.now.grid c.args.c c.requires.within in
    let len : length c.scale_row.new.row ≡ w = c.scale_row.auto.row ∙ size in
    let e : c.inv-k.result ≡ g.F.Field.ops.inv (cell w c.args.self.now.rows.now c.args.c c.args.c) = unfold cell in c.inv-k.ensures in
    subst (λ (k : ℕ). Columns w (Scaled g.F.Field.ops.mul m c.args.c k) (cell w c.args.self.now.rows.now) (cell w (put_mid (c.args.c * w) (c.args.c * w + w - c.args.c * w) c.args.self.now.rows.now c.scale_row.new.row))) e
    (scaled_columns g.met.F.Field.laws m w c.args.self.now.rows.now c.args.self.now.grid c.args.c c.inv-k.result c.scale_row.new.row c.requires.within len size c.scale_row.ensures.value)
