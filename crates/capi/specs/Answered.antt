-- What a C caller passes and is answered. Assumes nothing.
use Rattle.std.specs.Prelude.{ℕ, ℤ, pos, neg_ℤ, Ok, Err, Result}
use Rattle.piece.specs.declared.Settings.{Settings}
use Rattle.piece.specs.declared.fault.CutFault.{CutFault}
use Rattle.piece.specs.Cutting.{number}

-- the caller's numbers as they are, also those that no byte holds
abbrev pub asked : ℕ → ℕ → ℕ → Settings
asked rows m n = record { rows = rows; m = m; n = n }

-- the piece's length, or the refusal's number made negative
abbrev pub answered : Result ℕ CutFault → ℤ
answered (Ok len) = pos len
answered (Err f) = neg_ℤ (pos (number f))
