use Rattle.std.proofs.Common.{sym, leb-false, leb-true}
use Rattle.std.proofs.lemmas.Result.{MatchResult-at_ok}
use Rattle.piece.specs.Reading.{number}
use Rattle.collection.proofs.Books.{other_read, other_field_refused, headed}
use Rattle.collection.proofs.book.Book.other_field.Goals as goal

pub returns-in-Err : goal.returns-in-Err
returns-in-Err g c = λ work room.
    other_read g.F.Field.ops c.args.self.now work c.args.bytes.now room c.requires c.in-Err.fault c.in-Err.ensures
    (leb-true (number c.in-Err.fault) 7 (sym c.if-finds_no_header.ensures))

pub returns-in_default : goal.returns-in_default
returns-in_default g c = λ work room.
    other_field_refused g.F.Field.ops c.args.self.now work c.args.bytes.now room c.requires
    (headed g.F.Field.ops c.args.self.now work c.args.bytes.now room c.requires c.in-Err.fault c.in-Err.ensures
    (leb-false (number c.in-Err.fault) 7 (sym c.if-finds_no_header.ensures)))

pub returns-in_default-2 : goal.returns-in_default-2
returns-in_default-2 g c = λ work room.
    other_field_refused g.F.Field.ops c.args.self.now work c.args.bytes.now room c.requires (MatchResult-at_ok _ _ c.in_default.field-0 c.in_default.is c.read.ensures).0.headed
