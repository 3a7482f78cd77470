-- What a collection means: its field, its work and the pieces that it has taken. Assumes nothing.
use Rattle.std.specs.Prelude.{◌≡◌, ℕ, List, [], ◌∷◌, ◌++◌, drop, slice_index_or}
use Rattle.field.specs.Laws.{Ops}
use Rattle.piece.specs.declared.Header.{Header}
use Rattle.piece.specs.Bits.{value_in}
use Rattle.piece.specs.Pieces.{listed}
use Rattle.piece.specs.Reading.{header_in, count}
use Rattle.collection.specs.declared.FieldNumbers.{FieldNumbers}

-- a piece that was taken: what its header says, and the symbols of its body
pub record Taken : Type 0 where
  pub header : Header
  pub symbols : List ℕ

-- the piece that a header and a body say
abbrev pub taking : Ops → Header → List ℕ → Taken
taking K h body = record { header = h; symbols = listed (count h) (value_in K.width body) }

-- what bytes that the reader accepts say
abbrev pub read_of : Ops → List ℕ → Taken
read_of K bytes = taking K (header_in bytes) (drop 10 bytes)

-- the header of an empty job that is one piece: what stands for the first piece while there is none, so that one is needed
abbrev pub blank : Header
blank = record { settings = record { rows = 0; m = 1; n = 1 }; number = 1; length = 0; job = 0; stamp = 0 }

abbrev pub nothing : Taken
nothing = record { header = blank; symbols = [] }

pub record Collected : Type 0 where
  -- the numbers of the field that it is for
  pub field : FieldNumbers
  -- how many codes of work it was lent
  pub room : ℕ
  -- the pieces, in the order in which they were taken
  pub taken : List Taken

abbrev pub piece_at : Collected → ℕ → Taken
piece_at C t = slice_index_or C.taken t nothing

-- the header of the first piece
abbrev pub first_of : Collected → Header
first_of C = (piece_at C 0).header

-- the collection with one piece more
abbrev pub with_piece : Collected → Taken → Collected
with_piece C p = record { field = C.field; room = C.room; taken = C.taken ++ (p ∷ []) }

-- the numbers are the field's
pub record For (K : Ops) (f : FieldNumbers) : Type 0 where
  pub code : f.code ≡ K.code
  pub order : f.order ≡ K.order
  pub width : f.width ≡ K.width

-- the numbers of a field
abbrev pub field_numbers_of : Ops → FieldNumbers
field_numbers_of K = record { code = K.code; order = K.order; width = K.width }

-- a collection that was just started
abbrev pub fresh : Ops → ℕ → Collected
fresh K room = record { field = field_numbers_of K; room = room; taken = [] }
