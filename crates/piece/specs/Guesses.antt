-- When a guess at a column is answered, with what, and why not. Assumes nothing.
use Rattle.std.specs.Prelude.{◌≡◌, ℕ, ◌-◌, ◌≤◌, ◌≢◌, List, length}
use Rattle.field.specs.Laws.{Ops, Codes}
use Rattle.piece.specs.declared.columns.Guess.{Guess}
use Rattle.piece.specs.declared.columns.OutOfRange.{OutOfRange}
use Rattle.piece.specs.declared.columns.OutOfRange.TheVariants as out
use Rattle.piece.specs.Columns.{Candidate, InRange, Numbers}
use Rattle.piece.specs.Pieces.{Lawful}

-- a column may be asked for with the guess, into room for so many elements
abbrev pub Stands : Ops → Guess → ℕ → Type 0
Stands K g len = InRange K g.settings g.numbers.now g.symbols.now g.place g.value len

-- the column fits the guess, and no other does
abbrev pub Answers : Ops → Guess → List ℕ → Type 0
Answers K g column = Candidate K g.settings g.numbers.now g.symbols.now g.place g.value column

-- what is named is out of range
abbrev pub Refuses : Ops → Guess → ℕ → OutOfRange → Type 0
Refuses K g len out.Settings = Lawful g.settings → g.settings.rows ≢ 1
Refuses K g len out.Numbers = length g.numbers.now ≡ g.settings.m - 1 → Numbers g.settings.n g.numbers.now → ⊥
Refuses K g len out.Symbols = length g.symbols.now ≡ g.settings.m - 1 → Codes K.order g.symbols.now → ⊥
Refuses K g len out.Place = g.settings.m ≤ g.place
Refuses K g len out.Value = K.order ≤ g.value
Refuses K g len out.Room = len ≢ g.settings.m
