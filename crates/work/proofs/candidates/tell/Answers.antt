use Rattle.std.proofs.Common.{rules}
use Rattle.work.specs.declared.candidates.Told.{Told}
use Rattle.work.specs.Told.{Tells}
use Rattle.work.proofs.Readiness.{ready}
use Rattle.work.proofs.candidates.tell.Goals as goal

pub returns-clause-ready : goal.returns-clause-ready
returns-clause-ready c =
    let head = c.in-Some.head.now in
    let t : Told = record { field = head.field; settings = head.header.settings; numbers = c.in_ok-numbers.numbers; symbols = c.in_ok-symbols.symbols } in
    let tells : Tells c.args.pieces.now c.args.column t = search rules in
    ready c.args.pieces.now c.args.column t tells
