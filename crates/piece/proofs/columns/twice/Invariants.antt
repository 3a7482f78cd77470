use Rattle.std.proofs.Common.{ℕ, ◌<◌, ◌≢◌, get_or}
use Rattle.piece.proofs.columns.twice.Given as goal

abbrev pub invariant-loop-second : goal.invariant-loop-second
invariant-loop-second l = (j : ℕ) → j < l.second → (k : ℕ) → k < j → get_or l.numbers k 0 ≢ get_or l.numbers j 0
