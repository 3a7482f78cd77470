use Rattle.std.proofs.Common.{◌≡◌, ℕ, ◌+◌, ◌<◌, length, get_or}
use Rattle.algebra.specs.Flat.{cell}
use Rattle.piece.proofs.columns.copy_last.Given as goal

abbrev pub invariant-loop-j : goal.invariant-loop-j
invariant-loop-j l = (k : ℕ) → k < l.j → get_or l.column k 0 ≡ cell (length l.initial.column + 1) l.rows k (length l.initial.column)
