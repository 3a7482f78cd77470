-- What joining a list of pieces answers and writes. Assumes nothing.
use Rattle.std.specs.Prelude.{◌≡◌, ℕ, ◌^◌, ◌<◌, ◌≤◌, List, [], ◌++◌, map, length, take, drop, Ok, Err, Result, slice_index_or}
use Rattle.std.specs.Borrow.{Bor}
use Rattle.field.specs.Laws.{Ops}
use Rattle.algebra.specs.Field.{Distinct}
use Rattle.piece.specs.declared.Settings.{Settings}
use Rattle.piece.specs.Layouts.{Bytes}
use Rattle.piece.specs.Pieces.{Lawful, piece}
use Rattle.piece.specs.Reading.{Accepts, header_in}
use Rattle.collection.specs.declared.fault.JoinFault.{JoinFault}
use Rattle.collection.specs.declared.fault.JoinFault.TheVariants as fault
use Rattle.collection.specs.declared.fault.HandOverFault.TheVariants as over
use Rattle.collection.specs.Adding as adding
use Rattle.collection.specs.Adding.{Alike, RefusesPiece, Takes}
use Rattle.collection.specs.Closing as closing
use Rattle.collection.specs.Closing.{Closes, RefusesClose}
use Rattle.collection.specs.Collected.{Collected, field_numbers_of, read_of}
use Rattle.collection.specs.HandingOver as handing
use Rattle.collection.specs.HandingOver.{Handed, RefusesHandOver}

-- the number of each refusal, and its place in the list
abbrev pub number : JoinFault → ℕ
number (fault.Add at f) = adding.number f
number (fault.Close at f) = closing.number f
number (fault.HandOver at f) = handing.number f

abbrev pub place_of : JoinFault → ℕ
place_of (fault.Add at f) = at
place_of (fault.Close at f) = at
place_of (fault.HandOver at f) = at

-- the bytes of each piece
abbrev pub bytes_in : List (Bor (List ℕ)) → List (List ℕ)
bytes_in pieces = map (λ p. p.now) pieces

-- a collection that took the first k pieces
abbrev pub fed : Ops → ℕ → List (List ℕ) → ℕ → Collected
fed K room pieces k = record { field = field_numbers_of K; room = room; taken = map (read_of K) (take k pieces) }

-- it takes each of the first k, and they are bytes
pub record Feeds (K : Ops) (room : ℕ) (pieces : List (List ℕ)) (k : ℕ) : Type 0 where
  pub takes : (t : ℕ) → t < k → Takes K (fed K room pieces t) (slice_index_or pieces t [])
  pub bytes : (t : ℕ) → t < k → Bytes (slice_index_or pieces t [])

-- Which answer a list gets, and what the buffer holds after. Where all pieces are taken and the collection can be closed and
-- handed over, the job; otherwise the first refusal, and the buffer as it was.
abbrev pub Joins : Ops → ℕ → List (List ℕ) → List ℕ → List ℕ → Result ℕ JoinFault → Type 0
Joins K room pieces before after (Ok n) =
    Feeds K room pieces (length pieces) × Closes K (fed K room pieces (length pieces)) × Handed K (fed K room pieces (length pieces)) before after n
Joins K room pieces before after (Err (fault.Add at f)) =
    (at < length pieces) × Feeds K room pieces at × RefusesPiece K (fed K room pieces at) (slice_index_or pieces at []) f × (after ≡ before)
Joins K room pieces before after (Err (fault.Close at f)) =
    (at ≡ length pieces) × Feeds K room pieces at × RefusesClose K (fed K room pieces at) f × (after ≡ before)
Joins K room pieces before after (Err (fault.HandOver at f)) =
    (at ≡ length pieces) × Feeds K room pieces at × Closes K (fed K room pieces at) × RefusesHandOver K (fed K room pieces at) (length before) f × (after ≡ before)

-- different numbers of pieces that are cut with these settings
pub record Chosen (S : Settings) (chosen : ℕ → ℕ) : Type 0 where
  pub within : (t : ℕ) → t < S.m → (1 ≤ chosen t) × (chosen t ≤ S.n)
  pub differ : Distinct S.m chosen

-- Any m pieces of one job with different numbers, in any order, give exactly that job.
abbrev pub AnyMBringBack : Ops → ℕ → List (List ℕ) → List ℕ → List ℕ → Result ℕ JoinFault → Type 0
AnyMBringBack K room pieces before after r =
    (S : Settings) → Lawful S → (jn : ℕ) → jn < 2 ^ 16 → (st : ℕ) → st < 2 ^ 32 → (job : List ℕ) → Bytes job → length job ≤ 4096
    → (chosen : ℕ → ℕ) → Chosen S chosen → length pieces ≡ S.m → ((t : ℕ) → t < S.m → slice_index_or pieces t [] ≡ piece K S (chosen t) jn st job)
    → 4623 ≤ room → length job ≤ length before
    → (r ≡ Ok (length job)) × (after ≡ job ++ drop (length job) before)

-- m pieces that the reader accepts, of one deposit and with different numbers, which no job of the stated length has, are
-- refused with 21, and nothing is written.
abbrev pub NoJobIsMadeUp : Ops → ℕ → List (List ℕ) → List ℕ → List ℕ → Result ℕ JoinFault → Type 0
NoJobIsMadeUp K room pieces before after r =
    (S : Settings) → Lawful S → (len jn st : ℕ)
    → (chosen : ℕ → ℕ) → Chosen S chosen → length pieces ≡ S.m
    → ((t : ℕ) → t < S.m → Accepts K (slice_index_or pieces t []) × (header_in (slice_index_or pieces t []) ≡ record { settings = S; number = chosen t; length = len; job = jn; stamp = st }))
    → ((job : List ℕ) → Bytes job → length job ≡ len → ((t : ℕ) → t < S.m → slice_index_or pieces t [] ≡ piece K S (chosen t) jn st job) → ⊥)
    → 4623 ≤ room → len ≤ length before
    → (r ≡ Err (fault.HandOver S.m over.NoJob)) × (after ≡ before)
