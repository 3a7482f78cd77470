use Rattle.std.proofs.Common.{arith}
use Rattle.field.proofs.Bounds.{byte_is_a_code}
use Rattle.field.proofs.byte_code.Goals as goal

pub returns-clause-code : goal.returns-clause-code
returns-clause-code g c = byte_is_a_code g.met.F.Field.bounds c.from.result (omega arith)
