use Rattle.std.proofs.Common.{ℕ, ◌≤◌, pos, neg_ℤ, length, sym, ap, ◌∙◌, arith, w32, SFits, rules}
use Rattle.std.proofs.lemmas.Int.{to_z_pos, to_z-of_z}
use Rattle.capi.specs.Answered.{answered, asked}
use Rattle.capi.proofs.Narrowed.{carried, short_piece}
use Rattle.capi.proofs.cut_for.Goals as goal

pub returns-in-Ok : goal.returns-in-Ok
returns-in-Ok g c =
    let K = g.F.Field.ops in
    let t = carried K c.args.rows c.args.m c.args.n c.args.number c.args.job_number c.args.stamp c.args.job.now c.args.out.now c.cut.new.out
    c.narrow.result c.narrow-2.result c.narrow-3.result c.narrow-4.result c.cut.result
    c.narrow.ensures c.narrow-2.ensures c.narrow-3.ensures c.narrow-4.ensures c.cut.ensures.answer c.cut.ensures.bytes in
    let few : c.in-Ok.len ≤ 4618 = short_piece K g.met.F.Field.bounds (asked c.narrow.result c.narrow-2.result c.narrow-3.result) c.args.job.now
    c.narrow-4.result (length c.args.out.now) c.in-Ok.len (sym c.cut.ensures.answer ∙ c.in-Ok.is) in
    record {
      answer = to_z_pos w32 c.in-Ok.len (omega arith) ∙ (ap answered (sym c.in-Ok.is) ∙ t.0);
      bytes = t.1;
    }

pub returns-in-Err : goal.returns-in-Err
returns-in-Err g c =
    let K = g.F.Field.ops in
    let t = carried K c.args.rows c.args.m c.args.n c.args.number c.args.job_number c.args.stamp c.args.job.now c.args.out.now c.cut.new.out
    c.narrow.result c.narrow-2.result c.narrow-3.result c.narrow-4.result c.cut.result
    c.narrow.ensures c.narrow-2.ensures c.narrow-3.ensures c.narrow-4.ensures c.cut.ensures.answer c.cut.ensures.bytes in
    let fits : SFits w32 c.refused.result = search rules in
    record {
      answer = to_z-of_z w32 c.refused.result fits ∙ (c.refused.ensures ∙ (ap (λ (n : ℕ). neg_ℤ (pos n)) c.number.ensures ∙ ap answered (sym c.in-Err.is) ∙ t.0));
      bytes = t.1;
    }
