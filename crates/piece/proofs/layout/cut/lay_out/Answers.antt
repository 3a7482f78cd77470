use Rattle.std.proofs.Common.{ℕ, ◌+◌, ◌*◌, ◌<◌, ◌≤◌, length, sym, ◌∙◌, subst, arith}
use Rattle.field.proofs.Parts.{part_length}
use Rattle.field.proofs.Rows.{row_fits}
use Rattle.piece.proofs.Laying.{laid_next}
use Rattle.piece.proofs.layout.cut.lay_out.Goals as goal

pub loop-j-preserved : goal.loop-j-preserved
loop-j-preserved c =
    let h = row_fits c.loop-j.j c.args.m c.args.columns c.loop-j-test.true in
    let room : c.loop-j.j * c.args.columns + c.args.columns ≤ length c.loop-j.cells = omega arith in
    let size = part_length c.loop-j.cells (c.loop-j.j * c.args.columns) c.args.columns room in
    laid_next c.args.m c.args.columns c.args.job.now c.args.cells.now c.loop-j.cells c.lay_row.new.row c.loop-j.j room (c.lay_row.auto.row ∙ size) c.loop-j.invariant
    (λ k l. c.lay_row.ensures k (subst (λ (n : ℕ). k < n) (sym size) l))
