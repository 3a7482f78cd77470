use Rattle.std.proofs.Common.{◌≡◌, ℕ, ◌<◌, length, ◌∙◌, arith}
use Rattle.algebra.proofs.Steps.{added_columns}
use Rattle.algebra.proofs.Elim.{raised_pivot}
use Rattle.algebra.proofs.Cells.{put_grid, row_size, row_codes}
use Rattle.algebra.proofs.System.raise.Goals as goal

pub add_row-requires-clause-sums : goal.add_row-requires-clause-sums
add_row-requires-clause-sums g c = row_codes c.args.self.now.grid c.args.c (omega (arith, c.requires.within))

pub invariant_of-self : goal.invariant_of-self
invariant_of-self g c =
    let m : ℕ = length c.args.self.now.factors.now in
    let w : ℕ = length c.args.self.now.row.now in
    let lc : c.args.c < m = omega (arith, c.requires.within) in
    let e : length c.copy_row.new.row ≡ w = c.copy_row.auto.row in
    let len : length c.add_row.new.out ≡ w = c.add_row.auto.out ∙ row_size c.args.self.now.grid c.args.c lc in
    record {
      grid = rw e (put_grid m w c.args.self.now.rows.now c.add_row.new.out c.args.c c.args.self.now.grid.size lc len g.F.Field.ops.order c.args.self.now.grid c.add_row.ensures.codes);
      wide = omega (arith, c.args.self.now.wide);
    }

pub returns-then-c-p-clause-added : goal.returns-then-c-p-clause-added
returns-then-c-p-clause-added g c _ =
    let m : ℕ = length c.args.self.now.factors.now in
    let w : ℕ = length c.args.self.now.row.now in
    let lc : c.args.c < m = omega (arith, c.requires.within) in
    let size = row_size c.args.self.now.grid c.args.c lc in
    let len : length c.add_row.new.out ≡ w = c.add_row.auto.out ∙ size in
    added_columns g.met.F.Field.laws m w c.args.self.now.rows.now c.args.self.now.grid c.args.c c.args.p c.copy_row.new.row c.add_row.new.out lc c.requires.within len size c.copy_row.ensures c.add_row.ensures.value

pub returns-then-c-p-clause-pivot : goal.returns-then-c-p-clause-pivot
returns-then-c-p-clause-pivot g c =
    let m : ℕ = length c.args.self.now.factors.now in
    let w : ℕ = length c.args.self.now.row.now in
    let lc : c.args.c < m = omega (arith, c.requires.within) in
    let size = row_size c.args.self.now.grid c.args.c lc in
    let len : length c.add_row.new.out ≡ w = c.add_row.auto.out ∙ size in
    raised_pivot g.met.F.Field.laws m w c.args.c c.args.p c.args.self.now.rows.now _ c.args.self.now.grid c.args.self.now.wide lc c.requires.within (c.requires.zero c.if-c-p.true) c.requires.other
    (added_columns g.met.F.Field.laws m w c.args.self.now.rows.now c.args.self.now.grid c.args.c c.args.p c.copy_row.new.row c.add_row.new.out lc c.requires.within len size c.copy_row.ensures c.add_row.ensures.value)
