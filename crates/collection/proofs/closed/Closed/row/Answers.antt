use Rattle.std.proofs.Common.{ℕ, ◌+◌, ◌*◌, ◌∙◌, arith}
use Rattle.field.proofs.Parts.{part_at}
use Rattle.collection.proofs.Symbols.{row_place}
use Rattle.collection.proofs.closed.Closed.row.Goals as goal

pub returns-clause-symbols : goal.returns-clause-symbols
returns-clause-symbols c =
    let o = c.args.self.now in
    let m : ℕ = c.needs-m.result in
    let n : ℕ = c.columns-n.result in
    λ k l. part_at o.work.now (c.args.j * (m + n) + m) n k (omega (arith, c.columns-n.ensures)) ∙ row_place o.book o.work.now m n c.args.j c.needs-m.ensures c.columns-n.ensures k
