use Rattle.std.proofs.Common.{sym, refl, ◌∙◌, subst, arith}
use Rattle.collection.specs.Back.{job_in}
use Rattle.collection.specs.Collected.{For}
use Rattle.collection.proofs.Books.{closed_field, closed_length}
use Rattle.collection.proofs.Fitting.{fits_whole, whole_fits}
use Rattle.collection.proofs.closed.Closed.can_hand_over.Goals as goal

pub returns-then-not-is_for : goal.returns-then-not-is_for
returns-then-not-is_for g c =
    let o = c.args.self.now in
    let e = closed_field g.F.Field.ops o.book o.work.now in
    (c.field.ensures ∙ sym e, λ f. c.is_for.ensures.no c.if-not-is_for.true (subst (For g.F.Field.ops) e f))

pub returns-then-has-needs : goal.returns-then-has-needs
returns-then-has-needs g c =
    let K = g.F.Field.ops in
    let o = c.args.self.now in (
      subst (For K) (sym (closed_field K o.book o.work.now)) (c.is_for.ensures.yes c.if-not-is_for.false),
      refl,
      c.length-needs.ensures ∙ sym (closed_length K o.book o.work.now o.full),
      c.if-has-needs.true,
    )

pub returns-then-not-is_job : goal.returns-then-not-is_job
returns-then-not-is_job g c =
    let K = g.F.Field.ops in
    let o = c.args.self.now in
    let own = c.is_for.ensures.yes c.if-not-is_for.false in (
      subst (For K) (sym (closed_field K o.book o.work.now)) own,
      omega (arith, c.length-needs.ensures, closed_length K o.book o.work.now o.full, c.if-has-needs.false),
      λ job fits. c.is_job.ensures.no c.if-not-is_job.true (fits_whole g.met.F.Field.laws g.met.F.Field.bounds o.book o.work.now own o.full o.codes job fits),
    )

pub returns : goal.returns
returns g c =
    let K = g.F.Field.ops in
    let o = c.args.self.now in
    let own = c.is_for.ensures.yes c.if-not-is_for.false in
    record {
      field = subst (For K) (sym (closed_field K o.book o.work.now)) own;
      enough = omega (arith, c.length-needs.ensures, closed_length K o.book o.work.now o.full, c.if-has-needs.false);
      job = job_in o.book o.work.now;
      fits = whole_fits g.met.F.Field.laws g.met.F.Field.bounds o.book o.work.now own o.full o.codes (c.is_job.ensures.yes c.if-not-is_job.false);
    }
