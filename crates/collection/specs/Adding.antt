-- What adding a piece answers. Assumes nothing.
use Rattle.std.specs.Prelude.{◌≡◌, ℕ, ◌<◌, ◌≤◌, ◌≢◌, List, length}
use Rattle.field.specs.Laws.{Ops}
use Rattle.piece.specs.declared.Header.{Header}
use Rattle.piece.specs.Reading as reading
use Rattle.piece.specs.Reading.{header_in, Accepts, Headed, Refuses}
use Rattle.collection.specs.declared.fault.AddFault.{AddFault}
use Rattle.collection.specs.declared.fault.AddFault.TheVariants as fault
use Rattle.collection.specs.Collected.{Collected, For, first_of, piece_at}

-- the number of each refusal, and the byte that it names: the reader's, and 0 where there is none to name
abbrev pub number : AddFault → ℕ
number (fault.Work has) = 5
number (fault.Reader f) = reading.number f
number (fault.Field has) = 7
number (fault.Full m) = 11
number (fault.Differs first piece) = 12
number (fault.Again i) = 13

abbrev pub byte : AddFault → ℕ
byte (fault.Work has) = 0
byte (fault.Reader f) = reading.byte f
byte (fault.Field has) = 0
byte (fault.Full m) = 0
byte (fault.Differs first piece) = 0
byte (fault.Again i) = 0

-- two headers of pieces of one deposit: all but the number is equal
pub record Alike (a b : Header) : Type 0 where
  pub settings : a.settings ≡ b.settings
  pub length : a.length ≡ b.length
  pub job : a.job ≡ b.job
  pub stamp : a.stamp ≡ b.stamp

-- the checks that a piece passes, in the order of the refusals: work, reader and field
pub record Readable (K : Ops) (C : Collected) (bytes : List ℕ) : Type 0 where
  pub work : 4623 ≤ C.room
  pub field : For K C.field
  pub read : Accepts K bytes

-- and that there are fewer than m pieces, that it is of their deposit, and that its number is new
pub record Takes (K : Ops) (C : Collected) (bytes : List ℕ) : Type 0 where
  pub readable : Readable K C bytes
  pub space : length C.taken < (first_of C).settings.m
  pub alike : 1 ≤ length C.taken → Alike (first_of C) (header_in bytes)
  pub new : (t : ℕ) → t < length C.taken → (piece_at C t).header.number ≢ (header_in bytes).number

-- why a piece is refused: the first check that it fails, with its values
abbrev pub RefusesPiece : Ops → Collected → List ℕ → AddFault → Type 0
RefusesPiece K C bytes (fault.Work has) = (has ≡ C.room) × (has < 4623)
-- where the collection is for another field, of the reader's refusals only 6 and 7 are given
RefusesPiece K C bytes (fault.Reader f) = (4623 ≤ C.room) × Refuses K bytes f × ((For K C.field → ⊥) → reading.number f ≤ 7)
RefusesPiece K C bytes (fault.Field has) = (4623 ≤ C.room) × (has ≡ C.field) × (For K C.field → ⊥) × Headed K bytes
RefusesPiece K C bytes (fault.Full m) = Readable K C bytes × (m ≡ (first_of C).settings.m) × (m ≤ length C.taken)
RefusesPiece K C bytes (fault.Differs first piece) =
    Readable K C bytes × (1 ≤ length C.taken) × (length C.taken < (first_of C).settings.m)
    × (first ≡ first_of C) × (piece ≡ header_in bytes) × (Alike first piece → ⊥)
RefusesPiece K C bytes (fault.Again i) =
    Readable K C bytes × (1 ≤ length C.taken) × (length C.taken < (first_of C).settings.m) × Alike (first_of C) (header_in bytes)
    × (i ≡ (header_in bytes).number) × ((t : ℕ) × (t < length C.taken) × ((piece_at C t).header.number ≡ i))
