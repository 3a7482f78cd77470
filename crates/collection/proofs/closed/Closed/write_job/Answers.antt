use Rattle.std.proofs.Common.{◌≡◌, ℕ, ◌+◌, ◌*◌, ◌%◌, ◌<◌, List, length, get_or, take, sym, ◌∙◌, subst, arith, length-take-le}
use Rattle.std.proofs.lemmas.List.{get_or-take}
use Rattle.collection.specs.Books.{first_in, places}
use Rattle.collection.proofs.Symbols.{full_columns, full_same, job_all, job_more}
use Rattle.collection.proofs.closed.Closed.write_job.Goals as goal

pub loop-j-preserved : goal.loop-j-preserved
loop-j-preserved c =
    let b = c.args.self.now.book in
    let m : ℕ = c.needs-m.result in
    let j : ℕ = c.loop-j.j in
    let size : ℕ = c.full_at-full.result in
    let row : List ℕ = c.row.result.now in
    let lj : j < places b = omega (arith, c.needs-m.ensures, c.loop-j-test.true) in
    let full = full_same b c.length.result m j size c.length.ensures c.needs-m.ensures c.full_at-full.ensures in
    let few = full_columns (first_in b).length (places b) j lj in
    let long : length (take size row) ≡ size = length-take-le size row (omega (arith, c.row.ensures.size)) in
    let out : List ℕ = c.write_row.new.job in
    job_more b c.args.self.now.work.now (take size row) c.loop-j.job out j lj (long ∙ full)
    (λ k l. get_or-take size row k 0 (omega arith) ∙ c.row.ensures.symbols k (omega arith))
    c.write_row.auto.job
    (λ k l. subst (λ (x : ℕ). get_or out (k * x + j) 0 ≡ get_or (take size row) k 0) c.needs-m.ensures (c.write_row.ensures.here k l))
    (λ i ne. c.write_row.ensures.rest i (subst (λ (x : ℕ). i % x ≡ j → ⊥) (sym c.needs-m.ensures) ne))
    c.loop-j.invariant

pub returns : goal.returns
returns c = job_all c.args.self.now.book c.args.self.now.work.now c.loop-j.job c.loop-j.j (omega (arith, c.needs-m.ensures, c.loop-j-test.false, c.loop-j.auto.j-end)) c.loop-j.invariant
