-- Why bytes are not kept as a piece. Assumes nothing.
use Rattle.std.specs.Prelude.{ℕ, List}
use Rattle.piece.specs.Reading.{Refuses}
use Rattle.words.specs.Named.{ops_of}
use Rattle.work.specs.declared.hold.HoldProblem.{HoldProblem}
use Rattle.work.specs.declared.hold.HoldProblem.TheVariants as hold
use Rattle.work.specs.Opened.{named_in}

-- the reader of the field that the header names refuses them, or there is no memory
abbrev pub Unheld : List ℕ → HoldProblem → Type 0
Unheld bytes (hold.Fault f) = Refuses (ops_of (named_in bytes)) bytes f
Unheld bytes hold.Memory = Unit {0}
