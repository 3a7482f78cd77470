-- What a collection holds, by its book and its work. Assumes nothing.
use Rattle.std.specs.Prelude.{◌≡◌, ℕ, ◌+◌, ◌<◌, ◌≤◌, ◌≢◌, List, map, length, slice_index, slice_set, unwrap_or}
use Rattle.std.specs.List.{range_with_len}
use Rattle.field.specs.Laws.{Ops}
use Rattle.algebra.specs.Codes.{dot}
use Rattle.algebra.specs.Flat.{cell}
use Rattle.piece.specs.declared.Header.{Header}
use Rattle.piece.specs.Pieces.{entry, listed}
use Rattle.piece.specs.Reading.{count}
use Rattle.collection.specs.declared.book.Book.{Book}
use Rattle.collection.specs.declared.fault.AddFault.{AddFault}
use Rattle.collection.specs.declared.fault.AddFault.TheVariants as fault
use Rattle.collection.specs.Collected.{Collected, Taken, blank}
use Rattle.collection.specs.Adding.{Alike}

-- the header of the first piece, and what stands for it while there is none
abbrev pub first_in : Book → Header
first_in b = unwrap_or b.first blank

-- the m places of a column
abbrev pub places : Book → ℕ
places b = (first_in b).settings.m

-- the work holds one row for each piece: m coefficients, then a symbol for each column
abbrev pub stride : Book → ℕ
stride b = places b + count (first_in b)

-- the header of the piece t
abbrev pub head_of : Book → ℕ → Header
head_of b t = record { settings = (first_in b).settings; number = slice_index b.numbers t; length = (first_in b).length; job = (first_in b).job; stamp = (first_in b).stamp }

-- the symbols of the rows are codes
abbrev pub SymbolsBelow : Book → List ℕ → Type 0
SymbolsBelow b work = (t k : ℕ) → t < b.have → k < count (first_in b) → cell (stride b) work t (places b + k) < b.field.order

-- an open collection: the symbols of the piece t stand in the row t
unfoldable pub taken_at : Book → List ℕ → ℕ → Taken
taken_at b work t = record { header = head_of b t; symbols = listed (count (first_in b)) (λ k. cell (stride b) work t (places b + k)) }

unfoldable pub in_open : Book → List ℕ → Collected
in_open b work = record { field = b.field; room = length work; taken = map (taken_at b work) (range_with_len 0 b.have) }

-- a closed one: the row j has the symbols at the place j of all columns, and the piece t is what they give
abbrev pub solution : Book → List ℕ → ℕ → ℕ → ℕ
solution b work k j = cell (stride b) work j (places b + k)

unfoldable pub solved_at : Ops → Book → List ℕ → ℕ → Taken
solved_at K b work t = record { header = head_of b t; symbols = listed (count (first_in b)) (λ k. dot K (places b) (entry K (first_in b).settings (slice_index b.numbers t)) (solution b work k)) }

unfoldable pub in_closed : Ops → Book → List ℕ → Collected
in_closed K b work = record { field = b.field; room = length work; taken = map (solved_at K b work) (range_with_len 0 b.have) }

-- a header that may follow: there are fewer than m pieces, it is of their deposit, and its number is new
pub record Follows (b : Book) (h : Header) : Type 0 where
  pub space : b.have < places b
  pub alike : 1 ≤ b.have → Alike (first_in b) h
  pub new : (t : ℕ) → t < b.have → slice_index b.numbers t ≢ h.number

-- or the first of the three that fails
abbrev pub Hinders : Book → Header → AddFault → Type 0
Hinders b h (fault.Work has) = ⊥
Hinders b h (fault.Reader f) = ⊥
Hinders b h (fault.Field has) = ⊥
Hinders b h (fault.Full m) = (m ≡ places b) × (m ≤ b.have)
Hinders b h (fault.Differs first piece) = (1 ≤ b.have) × (b.have < places b) × (first ≡ first_in b) × (piece ≡ h) × (Alike (first_in b) h → ⊥)
Hinders b h (fault.Again i) =
    (1 ≤ b.have) × (b.have < places b) × Alike (first_in b) h × (i ≡ h.number) × ((t : ℕ) × (t < b.have) × (slice_index b.numbers t ≡ i))

-- the book after has a piece of this header more
pub record Grown (b : Book) (h : Header) (after : Book) : Type 0 where
  pub field : after.field ≡ b.field
  pub kept : 1 ≤ b.have → first_in after ≡ first_in b
  pub alike : Alike (first_in after) h
  pub numbers : after.numbers ≡ slice_set b.numbers b.have h.number
  pub have : after.have ≡ b.have + 1
