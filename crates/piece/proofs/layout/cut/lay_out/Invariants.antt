use Rattle.piece.proofs.Laying.{LaidTo}
use Rattle.piece.proofs.layout.cut.lay_out.Given as goal

abbrev pub invariant-loop-j : goal.invariant-loop-j
invariant-loop-j l = LaidTo l.m l.columns l.job l.j l.initial.cells l.cells
