-- What the reader answers. Assumes nothing.
use Rattle.std.specs.Prelude.{◌≡◌, ℕ, ◌+◌, ◌-◌, ◌/◌, ◌<◌, ◌≤◌, Bool, true, false, cond, ◌≢◌, List, length, take, drop, nat_le}
use Rattle.field.specs.Laws.{Ops}
use Rattle.piece.specs.declared.Header.{Header}
use Rattle.piece.specs.declared.fault.ReadFault.{ReadFault}
use Rattle.piece.specs.declared.fault.ReadFault.TheVariants as fault
use Rattle.piece.specs.Bits.{bits_in, bytes_for, value_in, worth, Fault, Holds}
use Rattle.piece.specs.Pieces.{listed}

-- the number of each refusal of the reader, and its byte, counted from the piece's start
abbrev pub number : ReadFault → ℕ
number (fault.Short len) = 6
number (fault.Field code wants) = 7
number (fault.Header rows m n i len) = 8
number (fault.Body has needs) = 9
number (fault.Value byte) = 10

abbrev pub byte : ReadFault → ℕ
byte (fault.Short len) = 0
byte (fault.Field code wants) = 0
byte (fault.Header rows m n i len) = 0
byte (fault.Body has needs) = 10
byte (fault.Value at) = at

-- the number that the w bits from the bit o on write
abbrev pub field_in : ℕ → ℕ → List ℕ → ℕ
field_in o w bytes = worth (take w (drop o (bits_in bytes)))

-- the field code, and the header's other fields, in their order
unfoldable pub code_in : List ℕ → ℕ
code_in bytes = field_in 0 2 bytes

unfoldable pub header_in : List ℕ → Header
header_in bytes = record {
  settings = record { rows = field_in 2 2 bytes; m = field_in 4 4 bytes + 1; n = field_in 8 5 bytes + 1 };
  number = field_in 13 5 bytes + 1;
  length = field_in 18 14 bytes;
  job = field_in 32 16 bytes;
  stamp = field_in 48 32 bytes;
}

-- the rows kind is at most 1, m and the number at most n, the length at most 4,096
abbrev pub sensible : Header → Bool
sensible H = cond (nat_le H.settings.rows 1) (cond (nat_le H.settings.m H.settings.n) (cond (nat_le H.number H.settings.n) (nat_le H.length 4096) false) false) false

-- how many columns a job of the header's length fills
abbrev pub count : Header → ℕ
count H = (H.length + (H.settings.m - 1)) / H.settings.m

-- the checks that bytes pass, in the order of the refusals
pub record Headed (K : Ops) (bytes : List ℕ) : Type 0 where
  pub long : 10 ≤ length bytes
  pub field : code_in bytes ≡ K.code

-- the body of so many columns holds codes of the field and spare bits 0
pub record GoodBody (K : Ops) (columns : ℕ) (body : List ℕ) : Type 0 where
  pub long : length body ≡ bytes_for K.width columns
  pub holds : Holds K.order K.width body (listed columns (value_in K.width body))

-- what is wrong with it, its bytes counted from the piece's start
abbrev pub BadBody : Ops → ℕ → List ℕ → ReadFault → Type 0
BadBody K columns body (fault.Short len) = ⊥
BadBody K columns body (fault.Field code wants) = ⊥
BadBody K columns body (fault.Header rows m n i len) = ⊥
BadBody K columns body (fault.Body has needs) = (has ≡ length body) × (needs ≡ bytes_for K.width columns) × (has ≢ needs)
BadBody K columns body (fault.Value at) =
    (length body ≡ bytes_for K.width columns) × ((p : ℕ) × (at ≡ 10 + p) × Fault K.order K.width columns body p)

-- the bytes are a piece of the field: a header, and a body of its columns
pub record Accepts (K : Ops) (bytes : List ℕ) : Type 0 where
  pub headed : Headed K bytes
  pub header : sensible (header_in bytes) ≡ true
  pub body : GoodBody K (count (header_in bytes)) (drop 10 bytes)

-- why bytes are refused: the first check that they fail, with its values
abbrev pub Refuses : Ops → List ℕ → ReadFault → Type 0
Refuses K bytes (fault.Short len) = (len ≡ length bytes) × (length bytes < 10)
Refuses K bytes (fault.Field code wants) = (10 ≤ length bytes) × (code ≡ code_in bytes) × (wants ≡ K.code) × (code ≢ wants)
Refuses K bytes (fault.Header rows m n i len) =
    Headed K bytes × (rows ≡ (header_in bytes).settings.rows) × (m ≡ (header_in bytes).settings.m) × (n ≡ (header_in bytes).settings.n)
    × (i ≡ (header_in bytes).number) × (len ≡ (header_in bytes).length) × (sensible (header_in bytes) ≡ false)
Refuses K bytes (fault.Body has needs) =
    Headed K bytes × (sensible (header_in bytes) ≡ true) × BadBody K (count (header_in bytes)) (drop 10 bytes) (fault.Body has needs)
Refuses K bytes (fault.Value at) =
    Headed K bytes × (sensible (header_in bytes) ≡ true) × BadBody K (count (header_in bytes)) (drop 10 bytes) (fault.Value at)
