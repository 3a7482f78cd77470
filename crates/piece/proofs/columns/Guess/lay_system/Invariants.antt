use Rattle.std.proofs.Common.{length}
use Rattle.piece.proofs.Candidates.{SystemTo}
use Rattle.piece.proofs.columns.Guess.lay_system.Given as goal

abbrev pub invariant-loop-r : goal.invariant-loop-r
invariant-loop-r g l = SystemTo g.F.Field.ops l.self.settings l.self.numbers.now l.self.symbols.now l.self.place l.self.value (length l.yielded) l.grid
