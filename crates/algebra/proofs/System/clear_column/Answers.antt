use Rattle.std.proofs.Common.{◌≡◌, ℕ, length, ◌∙◌, arith}
use Rattle.algebra.proofs.Steps.{cleared_columns}
use Rattle.algebra.proofs.Cells.{grid_codes, codes_grid}
use Rattle.algebra.proofs.System.clear_column.Goals as goal

pub spread-requires-clause-sums : goal.spread-requires-clause-sums
spread-requires-clause-sums g c =
    grid_codes g.F.Field.ops.order (length c.args.self.now.factors.now) (length c.args.self.now.row.now) c.args.self.now.rows.now c.args.self.now.grid

pub invariant_of-self : goal.invariant_of-self
invariant_of-self g c =
    let m : ℕ = length c.args.self.now.factors.now in
    let w : ℕ = length c.args.self.now.row.now in
    let em : length c.opposites.new.factors ≡ m = c.opposites.auto.factors in
    let ew : length c.spread.new.row ≡ w = c.spread.auto.row ∙ c.copy_row.auto.row in
    record {
      grid = rw (em, ew) (codes_grid g.F.Field.ops.order m w c.spread.new.rows (c.spread.auto.rows ∙ c.args.self.now.grid.size) c.spread.ensures.codes);
      wide = omega (arith, c.args.self.now.wide);
    }

pub returns-clause-cleared : goal.returns-clause-cleared
returns-clause-cleared g c =
    let m : ℕ = length c.args.self.now.factors.now in
    let w : ℕ = length c.args.self.now.row.now in
    cleared_columns g.met.F.Field.laws m w c.args.self.now.rows.now c.args.self.now.grid c.args.c c.opposites.new.factors c.copy_row.new.row c.spread.new.rows c.requires
    c.copy_row.auto.row c.copy_row.ensures c.opposites.ensures.none _ c.opposites.ensures.value c.spread.ensures.value
