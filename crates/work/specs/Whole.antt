-- What holds of every piece that was read. Assumes nothing.
use Rattle.std.specs.Prelude.{◌≡◌, ℕ, ◌<◌, ◌≤◌, List, length}
use Rattle.field.specs.Laws.{Ops}
use Rattle.piece.specs.declared.Header.{Header}
use Rattle.piece.specs.Bits.{bytes_for, value_in}
use Rattle.piece.specs.Pieces.{Lawful}
use Rattle.piece.specs.Reading.{count}

-- each of the first n values is a code
abbrev pub HoldsCodes : Ops → ℕ → List ℕ → Type 0
HoldsCodes K n body = (k : ℕ) → k < n → value_in K.width body k < K.order

-- a header in range, and a body of its columns that holds codes of the field
pub record Whole (K : Ops) (H : Header) (body : List ℕ) : Type 0 where
  pub lawful : Lawful H.settings
  pub least : 1 ≤ H.number
  pub most : H.number ≤ H.settings.n
  pub short : H.length ≤ 4096
  pub long : length body ≡ bytes_for K.width (count H)
  pub codes : HoldsCodes K (count H) body
