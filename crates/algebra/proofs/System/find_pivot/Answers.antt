use Rattle.std.proofs.Common.{◌≡◌, ℕ, ◌+◌, ◌*◌, ◌≤◌, length, get_or, arith, below_more}
use Rattle.algebra.specs.Flat.{cell}
use Rattle.algebra.proofs.System.find_pivot.Goals as goal

pub returns-then-self-r-ne0-clause-found : goal.returns-then-self-r-ne0-clause-found
unfolding cell
returns-then-self-r-ne0-clause-found g c = c.if-self-r-ne0.true

pub loop-r-preserved : goal.loop-r-preserved
unfolding cell
loop-r-preserved g c = λ k a h.
    below_more (λ (n : ℕ). c.args.c ≤ n → get_or c.args.self.now.rows.now (n * length c.args.self.now.row.now + c.args.c) 0 ≡ 0) c.loop-r.r
    (λ n l b. c.loop-r.invariant n b l) (λ _. omega (arith, c.if-self-r-ne0.false)) k h a
