-- What the reader's verdict means: bytes that are some header with a lawful body, and pieces read back. Assumes nothing.
use Rattle.std.specs.Prelude.{◌≡◌, ℕ, ◌^◌, ◌<◌, ◌≤◌, ◌↔◌, List, ◌++◌, length, drop, slice_index}
use Rattle.field.specs.Laws.{Ops}
use Rattle.piece.specs.declared.Header.{Header}
use Rattle.piece.specs.declared.Settings.{Settings}
use Rattle.piece.specs.Bits.{octets, packed}
use Rattle.piece.specs.Layouts.{Bytes}
use Rattle.piece.specs.Pieces.{Lawful, body, header, piece}
use Rattle.piece.specs.Reading.{Accepts, count, header_in}

-- some header with lawful settings, and the codes of its columns, packed one after the other
pub record Composed (K : Ops) (bytes : List ℕ) : Type 0 where
  pub head : Header
  pub lawful : Lawful head.settings
  pub least : 1 ≤ head.number
  pub most : head.number ≤ head.settings.n
  pub short : head.length ≤ 4096
  pub job : head.job < 2 ^ 16
  pub stamp : head.stamp < 2 ^ 32
  pub values : List ℕ
  pub many : length values ≡ count head
  pub codes : (k : ℕ) → k < length values → slice_index values k < K.order
  pub bytes_are : bytes ≡ octets (header K.code head.settings head.number head.length head.job head.stamp) ++ packed K.width values

-- the reader accepts exactly the bytes that are some header with a lawful body
abbrev pub ReaderExact : Ops → Type 0
ReaderExact K = (bytes : List ℕ) → Bytes bytes → (Accepts K bytes ↔ Composed K bytes)

-- reading what cutting wrote gives back what was cut
pub record ReadsBack (K : Ops) (S : Settings) (i jn st : ℕ) (job : List ℕ) : Type 0 where
  pub accepted : Accepts K (piece K S i jn st job)
  pub head : header_in (piece K S i jn st job) ≡ record { settings = S; number = i; length = length job; job = jn; stamp = st }
  pub body_is : drop 10 (piece K S i jn st job) ≡ packed K.width (body K S job i)

abbrev pub ReadsBackWhole : Ops → Type 0
ReadsBackWhole K =
    (S : Settings) → Lawful S → (i : ℕ) → 1 ≤ i → i ≤ S.n → (jn : ℕ) → jn < 2 ^ 16 → (st : ℕ) → st < 2 ^ 32
    → (job : List ℕ) → Bytes job → length job ≤ 4096 → ReadsBack K S i jn st job
