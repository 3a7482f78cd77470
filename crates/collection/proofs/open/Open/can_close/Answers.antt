use Rattle.std.proofs.Common.{sym, ◌∙◌, subst, arith}
use Rattle.collection.specs.Collected.{For}
use Rattle.collection.proofs.Books.{open_field, open_many, open_needed}
use Rattle.collection.proofs.open.Open.can_close.Goals as goal

pub returns-then-not-is_for : goal.returns-then-not-is_for
returns-then-not-is_for g c =
    let o = c.args.self.now in
    let e = open_field o.book o.work.now in
    (c.field.ensures ∙ sym e, λ f. c.is_for.ensures.no c.if-not-is_for.true (subst (For g.F.Field.ops) e f))

pub returns-then-has-needs : goal.returns-then-has-needs
returns-then-has-needs g c =
    let o = c.args.self.now in (
      subst (For g.F.Field.ops) (sym (open_field o.book o.work.now)) (c.is_for.ensures.yes c.if-not-is_for.false),
      c.have-has.ensures ∙ sym (open_many o.book o.work.now),
      c.needs-needs.ensures ∙ sym (open_needed o.book o.work.now),
      c.if-has-needs.true,
    )

pub returns : goal.returns
returns g c =
    let o = c.args.self.now in
    record {
      field = subst (For g.F.Field.ops) (sym (open_field o.book o.work.now)) (c.is_for.ensures.yes c.if-not-is_for.false);
      enough = omega (arith, c.have-has.ensures, c.needs-needs.ensures, open_many o.book o.work.now, open_needed o.book o.work.now, c.if-has-needs.false);
    }
