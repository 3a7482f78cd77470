use Rattle.std.proofs.Common.{◌≡◌, ℕ, ◌<◌, get_or}
use Rattle.algebra.specs.Codes.{power}
use Rattle.piece.proofs.entries.powers.Given as goal

abbrev pub invariant-loop-factor : goal.invariant-loop-factor
invariant-loop-factor g l =
    (l.p ≡ power g.F.Field.ops l.point l.factor-index)
    × ((k : ℕ) → k < l.factor-index → get_or l.factors k 0 ≡ power g.F.Field.ops l.point k)
