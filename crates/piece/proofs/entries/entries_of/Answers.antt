use Rattle.std.proofs.Common.{arith}
use Rattle.field.proofs.Bounds.{rows_fit}
use Rattle.piece.proofs.entries.entries_of.Goals as goal

pub powers-requires : goal.powers-requires
powers-requires g c =
    let S = c.args.scheme in
    let fit = rows_fit g.met.F.Field.bounds S.m S.n S.needed S.made in omega arith

pub inverses-requires : goal.inverses-requires
inverses-requires g c =
    let S = c.args.scheme in
    let fit = rows_fit g.met.F.Field.bounds S.m S.n S.needed S.made in
    record { point = omega (arith, S.some); few = omega (arith, S.needed); places = omega arith }
