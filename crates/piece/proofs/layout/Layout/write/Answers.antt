use Rattle.std.proofs.Common.{ℕ, drop, refl, ap, ap₂, ◌∙◌, arith}
use Rattle.std.proofs.lemmas.List.{take_rest}
use Rattle.piece.specs.declared.Settings.{Settings}
use Rattle.piece.specs.Pieces.{header}
use Rattle.piece.specs.Bits.{octets}
use Rattle.piece.proofs.Cuts.{written_piece}
use Rattle.piece.proofs.layout.Layout.write.Goals as goal

pub returns : goal.returns
returns g c =
    let L = c.args.self.now in
    let h = c.write_header.new.out in
    written_piece g.F.Field.ops L c.args.number c.args.job_number c.args.stamp c.pack.result c.width.result L.length c.values.new.values c.args.out.now h c.pack.new.out
    c.width.ensures refl (omega (arith, c.write_header.auto.out, c.requires.room)) (c.values.auto.values ∙ c.requires.columns) c.values.ensures.value
    (c.write_header.ensures.front ∙ ap₂ (λ (n : ℕ) (S : Settings). octets (header n S c.args.number L.length c.args.job_number c.args.stamp)) c.code.ensures c.into.ensures)
    c.write_header.ensures.rest c.pack.ensures.many c.pack.ensures.front
    (c.pack.ensures.rest ∙ ap (drop c.pack.result) (take_rest h 10))
