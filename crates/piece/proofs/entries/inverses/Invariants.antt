use Rattle.std.proofs.Common.{◌≡◌, ℕ, ◌<◌, get_or}
use Rattle.piece.proofs.entries.inverses.Given as goal

abbrev pub invariant-loop-j : goal.invariant-loop-j
invariant-loop-j g l =
    (k : ℕ) → k < l.j → get_or l.factors k 0 ≡ g.F.Field.ops.inv (g.F.Field.ops.add l.point (g.F.Field.ops.neg k))
