use Rattle.field.proofs.Rows.{one_row}
use Rattle.field.proofs.Field.add_multiple.Goals as goal

pub returns-clause-value : goal.returns-clause-value
returns-clause-value g c =
    one_row g.Self.Field.ops c.args.c c.args.out.now c.args.row.now c.copy_from_slice.new.self c.spread.new.rows
    c.copy_from_slice.ensures.after c.requires.lengths c.spread.ensures.value
