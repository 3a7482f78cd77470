use Rattle.std.proofs.Common.{subst, arith}
use Rattle.field.specs.Laws.{Ops}
use Rattle.work.specs.Whole.{Whole}
use Rattle.work.proofs.Wholes.{whole_as}
use Rattle.work.proofs.open.of_field.Goals as goal

pub invariant_of-result : goal.invariant_of-result
invariant_of-result g c =
    let header = c.in_ok-header.field-0.header in
    let body = c.in_ok-header.field-0.body.now in
    let read = c.in_ok-header.ensures in
    record { whole = subst (λ (K : Ops). Whole K header body) c.requires (whole_as g.F.Field.ops c.args.bytes.now (λ k. omega (arith, c.type_inv.bytes k)) header body read.1 read.2 read.0) }
