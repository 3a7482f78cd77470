use Rattle.std.proofs.Common.{◌≡◌, ◌+◌, ◌*◌, ◌<◌}
use Rattle.program.proofs.compare.all.Given as goal

abbrev pub invariant-loop-b : goal.invariant-loop-b
invariant-loop-b g l = (l.tally.products ≡ g.F.Field.ops.order * l.a + l.b) × (l.tally.inverses ≡ l.a) × (l.theirs < g.F.Field.ops.order)

abbrev pub invariant-loop-a : goal.invariant-loop-a
invariant-loop-a g l = (l.tally.products ≡ g.F.Field.ops.order * l.a) × (l.tally.inverses ≡ l.a)
