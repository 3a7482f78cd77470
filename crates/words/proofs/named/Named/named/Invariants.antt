use Rattle.std.proofs.Common.{ℕ, ◌<◌, ◌≢◌, get_or}
use Rattle.words.proofs.named.Named.named.Given as goal

abbrev pub invariant-loop-x : goal.invariant-loop-x
invariant-loop-x g l = (k : ℕ) → k < l.x-index → (d : g.row.Self.Denot) → l.word ≢ g.Self.Named.text (get_or l.x-items k d)
