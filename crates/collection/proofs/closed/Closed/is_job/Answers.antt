use Rattle.std.proofs.Common.{ℕ, ◌<◌, List, subst, arith}
use Rattle.collection.specs.Back.{InRow}
use Rattle.collection.specs.Books.{places}
use Rattle.collection.proofs.Symbols.{full_same, whole_more, row_symbols}
use Rattle.collection.proofs.closed.Closed.is_job.Goals as goal

pub loop-j-preserved : goal.loop-j-preserved
loop-j-preserved c =
    let o = c.args.self.now in
    let j : ℕ = c.loop-j.j in
    let row : List ℕ = c.row.result.now in
    let lj : j < places o.book = omega (arith, c.needs-m.ensures, c.loop-j-test.true) in
    let full = full_same o.book c.length.result c.needs-m.result j c.full_at.result c.length.ensures c.needs-m.ensures c.full_at.ensures in
    whole_more o.book o.work.now j (row_symbols o.book o.work.now row j lj c.row.ensures.size c.row.ensures.symbols (subst (λ (x : ℕ). InRow x row) full (c.is_row.ensures.yes c.if-not-is_row.false))) c.loop-j.invariant
