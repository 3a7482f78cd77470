use Rattle.std.proofs.Common.{◌≡◌, ◌/◌, ◌≢◌, get_or, arith}
use Rattle.std.proofs.lemmas.Bool.Decides.{nat_tests}
use Rattle.piece.specs.Reading.{code_in}
use Rattle.piece.proofs.Fields.{code_of}
use Rattle.work.proofs.open.field_of.Goals as goal

pub returns-then-bytes-eq1 : goal.returns-then-bytes-eq1
returns-then-bytes-eq1 c h =
    let bytes = c.args.bytes.now in
    let code : code_in bytes ≡ get_or bytes 0 0 / 64 = code_of bytes h (λ k. omega (arith, c.type_inv.bytes k)) in
    let one : code_in bytes ≡ 1 = omega (arith, code) in
    grind (arith, nat_tests)

pub returns-else-bytes-eq1 : goal.returns-else-bytes-eq1
returns-else-bytes-eq1 c h =
    let bytes = c.args.bytes.now in
    let code : code_in bytes ≡ get_or bytes 0 0 / 64 = code_of bytes h (λ k. omega (arith, c.type_inv.bytes k)) in
    let other : code_in bytes ≢ 1 = omega (arith, code) in
    grind (arith, nat_tests)
