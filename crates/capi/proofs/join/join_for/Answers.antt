use Rattle.std.proofs.Common.{ℕ, ◌≤◌, List, length, take, Ok, Err, ◌∙◌, ap, subst, arith, w32, SFits, pos, neg_ℤ, rules}
use Rattle.std.proofs.lemmas.Int.{to_z_pos, to_z-of_z}
use Rattle.collection.specs.Joining.{Joins, bytes_in}
use Rattle.collection.proofs.Joined.{joined_short}
use Rattle.capi.proofs.join.join_for.Goals as goal

pub overflow_cast-result : goal.overflow_cast-result
overflow_cast-result g c =
    let short : c.in-Ok.len ≤ 4096 = joined_short g.F.Field.ops (length c.args.work.now) (bytes_in (take c.part-n.result c.part-n.new.list)) c.args.job.now c.join.new.job c.in-Ok.len c.in-Ok.ensures.answer in
    search rules

pub returns-in-Ok : goal.returns-in-Ok
returns-in-Ok g c =
    let K = g.F.Field.ops in
    let room = length c.args.work.now in
    let short : c.in-Ok.len ≤ 4096 = joined_short K room (bytes_in (take c.part-n.result c.part-n.new.list)) c.args.job.now c.join.new.job c.in-Ok.len c.in-Ok.ensures.answer in
    record {
      answer = record {
        result = Ok c.in-Ok.len;
        joins = subst (λ (ps : List (List ℕ)). Joins K room ps c.args.job.now c.join.new.job (Ok c.in-Ok.len)) c.part-n.ensures.parts c.in-Ok.ensures.answer;
        answer = to_z_pos w32 c.in-Ok.len (omega arith);
      };
      wiped = c.in-Ok.ensures.wiped;
    }
