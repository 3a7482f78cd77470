use Rattle.std.proofs.Common.{ℕ, ◌<◌, get_or}
use Rattle.work.specs.declared.held.Held.{Held}
use Rattle.work.specs.Told.{Agree}
use Rattle.work.proofs.candidates.stranger.Given as goal

abbrev pub invariant-loop-at : goal.invariant-loop-at
invariant-loop-at l = (k : ℕ) (d : Held) → k < l.at → Agree (get_or l.pieces 0 d) (get_or l.pieces k d)
