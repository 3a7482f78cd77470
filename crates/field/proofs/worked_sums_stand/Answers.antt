use Rattle.std.proofs.Common.{refl}
use Rattle.field.proofs.Remainders.{worked}
use Rattle.field.proofs.worked_sums_stand.Goals as goal

pub returns : goal.returns
returns c = record { sums = worked; count = refl }
