use Rattle.std.proofs.Common.{◌≡◌, ℕ, vec_items, subst, arith}
use Rattle.piece.specs.Cutting.{job_of}
use Rattle.work.specs.Files.{Cuts}
use Rattle.work.proofs.Piecing.{cuts_none, cuts_more}
use Rattle.piece.specs.Schemes.{as_settings}
use Rattle.work.proofs.cut.each.Goals as goal

pub loop-i-init : goal.loop-i-init
loop-i-init g c =
    cuts_none g.F.Field.ops (as_settings c.args.layout.now.scheme) c.args.options.now.job c.args.options.now.stamp (job_of c.args.layout.now) (vec_items c.new-all.result) c.new-all.ensures.items

pub loop-i-preserved : goal.loop-i-preserved
loop-i-preserved g c =
    cuts_more g.F.Field.ops (as_settings c.args.layout.now.scheme) c.args.options.now.job c.args.options.now.stamp (job_of c.args.layout.now) c.loop-i.i (vec_items c.loop-i.all) (vec_items c.push.new.self) c.in_ok-bytes.bytes c.in_ok-push.ensures.items c.in_ok-bytes.ensures.piece c.loop-i.invariant

pub returns : goal.returns
returns g c =
    let e : c.loop-i.i ≡ c.args.options.now.total = omega arith in
    record { cuts = subst (λ (n : ℕ). Cuts g.F.Field.ops (as_settings c.args.layout.now.scheme) c.args.options.now.job c.args.options.now.stamp (job_of c.args.layout.now) n (vec_items c.loop-i.all)) e c.loop-i.invariant }
