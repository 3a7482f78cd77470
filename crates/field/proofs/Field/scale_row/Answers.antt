use Rattle.std.proofs.Common.{◌≡◌, ℕ, ◌<◌, length, get_or, sym, refl, arith}
use Rattle.field.proofs.Rows.{one_row, from_zeros}
use Rattle.field.proofs.Field.scale_row.Goals as goal

pub returns-clause-value : goal.returns-clause-value
returns-clause-value g c =
    let zeros : (k : ℕ) → k < length c.args.row.now → get_or c.fill.new.self k 0 ≡ 0 = λ k h. c.fill.ensures.clones k 0 h refl in
    let size : length c.fill.new.self ≡ length c.args.row.now = omega arith in
    from_zeros g.met.Self.Field.laws c.args.c c.fill.new.self c.args.row.now c.spread.new.rows c.requires.factor c.requires.codes size zeros
    (one_row g.Self.Field.ops c.args.c c.fill.new.self c.args.row.now c.copy_from_slice.new.self c.spread.new.rows
    c.copy_from_slice.ensures.after (sym size) c.spread.ensures.value)
