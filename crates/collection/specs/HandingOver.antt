-- What handing a closed collection over answers and writes. Assumes nothing.
use Rattle.std.specs.Prelude.{◌≡◌, ℕ, ◌<◌, ◌≤◌, List, ◌++◌, length, drop}
use Rattle.field.specs.Laws.{Ops}
use Rattle.piece.specs.Layouts.{Bytes}
use Rattle.piece.specs.Pieces.{body}
use Rattle.collection.specs.declared.fault.HandOverFault.{HandOverFault}
use Rattle.collection.specs.declared.fault.HandOverFault.TheVariants as fault
use Rattle.collection.specs.Collected.{Collected, For, Taken, first_of, piece_at}

abbrev pub number : HandOverFault → ℕ
number (fault.Field has) = 7
number (fault.Room has needs) = 20
number fault.NoJob = 21

-- the job has the piece: it is as long as the header says, and the symbols are those of its piece of that number
pub record HasPiece (K : Ops) (job : List ℕ) (p : Taken) : Type 0 where
  pub long : length job ≡ p.header.length
  pub symbols : p.symbols ≡ body K p.header.settings job p.header.number

-- a job has all pieces that were taken
pub record Fits (K : Ops) (C : Collected) (job : List ℕ) : Type 0 where
  pub bytes : Bytes job
  pub has : (t : ℕ) → t < length C.taken → HasPiece K job (piece_at C t)

-- the collection can be handed over into a buffer of this length: it is for the field, some job has its pieces, and the buffer holds it
pub record HandsOver (K : Ops) (C : Collected) (room : ℕ) : Type 0 where
  pub field : For K C.field
  pub enough : (first_of C).length ≤ room
  pub job : List ℕ
  pub fits : Fits K C job

-- or why not: the first check that it fails, with its values
abbrev pub RefusesHandOver : Ops → Collected → ℕ → HandOverFault → Type 0
RefusesHandOver K C room (fault.Field has) = (has ≡ C.field) × (For K C.field → ⊥)
RefusesHandOver K C room (fault.Room has needs) = For K C.field × (has ≡ room) × (needs ≡ (first_of C).length) × (has < needs)
RefusesHandOver K C room fault.NoJob = For K C.field × ((first_of C).length ≤ room) × ((job : List ℕ) → Fits K C job → ⊥)

-- what is handed over: the one job that has the pieces, at the front of the buffer, whose rest is as it was
pub record Handed (K : Ops) (C : Collected) (before after : List ℕ) (n : ℕ) : Type 0 where
  pub job : List ℕ
  pub fits : Fits K C job
  pub only : (other : List ℕ) → Fits K C other → other ≡ job
  pub long : n ≡ length job
  pub written : after ≡ job ++ drop n before
