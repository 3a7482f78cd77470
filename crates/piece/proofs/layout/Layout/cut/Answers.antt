use Rattle.std.proofs.Common.{◌≡◌, ℕ, ◌<◌, ◌≤◌, length, Ok, Err, sym, ap, ◌∙◌, subst}
use Rattle.piece.specs.declared.fault.CutFault.TheVariants as fault
use Rattle.piece.specs.Cutting.{size}
use Rattle.piece.proofs.Cuts.{no_number, no_room, accepted}
use Rattle.piece.proofs.layout.Layout.cut.Goals as goal

pub returns-then-number-lt1-clause-answer : goal.returns-then-number-lt1-clause-answer
returns-then-number-lt1-clause-answer g c = sym (no_number g.F.Field.ops c.args.self.now c.args.number (length c.args.out.now) c.then-number-lt1.either)

pub returns-then-has-needs-clause-answer : goal.returns-then-has-needs-clause-answer
returns-then-has-needs-clause-answer g c =
    let L = c.args.self.now in
    let e : c.size-needs.result ≡ size g.F.Field.ops L.columns = c.size-needs.ensures in
    ap (λ (n : ℕ). Err (fault.Room (length c.args.out.now) n)) e
    ∙ sym (no_room g.F.Field.ops L c.args.number (length c.args.out.now) c.if-number-lt1.false c.if-number-n.false (subst (λ (n : ℕ). length c.args.out.now < n) e c.if-has-needs.true))

pub returns-clause-answer : goal.returns-clause-answer
returns-clause-answer g c =
    let L = c.args.self.now in
    let e : c.size-needs.result ≡ size g.F.Field.ops L.columns = c.size-needs.ensures in
    ap Ok e ∙ sym (accepted g.F.Field.ops L c.args.number (length c.args.out.now) c.if-number-lt1.false c.if-number-n.false (subst (λ (n : ℕ). n ≤ length c.args.out.now) e c.if-has-needs.false))
