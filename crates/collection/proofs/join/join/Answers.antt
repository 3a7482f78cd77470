use Rattle.std.proofs.Common.{length, rules}
use Rattle.collection.specs.Joining.{bytes_in}
use Rattle.collection.proofs.Joined.{any_m_bring_back, no_job_is_made_up}
use Rattle.collection.proofs.join.join.Goals as goal

pub returns : goal.returns
returns g c =
    let room = length c.args.work.now in
    let all = bytes_in c.args.pieces.now in
    let before = c.args.job.now in
    let after = c.join_in-joined.new.job in
    record {
      answer = c.join_in-joined.ensures;
      back = any_m_bring_back g.met.F.Field.laws g.met.F.Field.bounds room all before after c.join_in-joined.result c.join_in-joined.ensures;
      none = no_job_is_made_up g.met.F.Field.laws g.met.F.Field.bounds room all before after c.join_in-joined.result c.join_in-joined.ensures;
      wiped = search rules;
    }
