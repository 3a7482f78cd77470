use Rattle.std.proofs.Common.{subst}
use Rattle.std.proofs.lemmas.Result.{err_from_is_err_and}
use Rattle.piece.specs.declared.Header.{Header}
use Rattle.collection.specs.Books.{Hinders}
use Rattle.collection.proofs.Books.{hindered, reader_refuses}
use Rattle.collection.proofs.book.Book.admit.Goals as goal

pub returns-in_err-piece : goal.returns-in_err-piece
returns-in_err-piece g c =
    let p = err_from_is_err_and c.from_residual.result c.from_residual.ensures.1 in
    rw (p.1, p.2) (λ work room. reader_refuses g.F.Field.ops c.args.self.now work c.args.bytes.now room
    (c.is_for.ensures.yes c.if-not-is_for.false) c.in_err-piece.field-0.0 c.in_err-piece.ensures)

pub returns-in_err-follows : goal.returns-in_err-follows
returns-in_err-follows g c =
    let p = err_from_is_err_and c.from_residual-in_err-follows.result c.from_residual-in_err-follows.ensures.1 in
    let a = c.in_ok-piece.ensures in
    rw (p.1, p.2) (λ work room. hindered g.F.Field.ops c.args.self.now work c.args.bytes.now room c.in_err-follows.field-0.0
    (c.is_for.ensures.yes c.if-not-is_for.false) a.0
    (subst (λ (h : Header). Hinders c.args.self.now h c.in_err-follows.field-0.0) a.1 c.in_err-follows.ensures))
