-- When each byte may be asked for at a place, and the column that is asked for. Assumes nothing.
use Rattle.std.specs.Prelude.{ℕ, ◌<◌, List, vec_items}
use Rattle.piece.specs.Columns.{Candidate, InRange}
use Rattle.words.specs.Named.{ops_of}
use Rattle.work.specs.declared.candidates.Told.{Told}

-- the column with v at the place p may be asked for, into room for len elements
abbrev pub Askable : Told → ℕ → ℕ → ℕ → Type 0
Askable t p v len = InRange (ops_of t.field) t.settings (vec_items t.numbers) (vec_items t.symbols) p v len

-- the one column that fits may be asked for with every byte
abbrev pub Asks : Told → ℕ → Type 0
Asks t p = (v : ℕ) → v < 256 → Askable t p v t.settings.m

-- the column has v at the place p and gives what the pieces tell, and no other does
abbrev pub Fitting : Told → ℕ → ℕ → List ℕ → Type 0
Fitting t p v column = Candidate (ops_of t.field) t.settings (vec_items t.numbers) (vec_items t.symbols) p v column
