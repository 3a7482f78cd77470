use Rattle.std.proofs.Common.{◌≡◌, ℕ, ◌<◌, get_or}
use Rattle.piece.specs.Pieces.{place}
use Rattle.piece.proofs.layout.cut.lay_row.Given as goal

abbrev pub invariant-loop-k : goal.invariant-loop-k
invariant-loop-k l = (c : ℕ) → c < l.k → get_or l.row c 0 ≡ place l.m l.job c l.j
