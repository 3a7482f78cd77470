use Rattle.std.proofs.Common.{vec_items}
use Rattle.piece.specs.Cutting.{job_of}
use Rattle.work.specs.Files.{Cuts}
use Rattle.piece.specs.Schemes.{as_settings}
use Rattle.work.proofs.cut.each.Given as goal

abbrev pub invariant-loop-i : goal.invariant-loop-i
invariant-loop-i g l = Cuts g.F.Field.ops (as_settings l.layout.scheme) l.options.job l.options.stamp (job_of l.layout) l.i (vec_items l.all)
