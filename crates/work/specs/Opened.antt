-- Pieces of either field. Assumes nothing.
use Rattle.std.specs.Prelude.{ℕ, cond, List, ◌==◌}
use Rattle.piece.specs.Reading.{code_in}
use Rattle.words.specs.declared.field_name.FieldName.{FieldName}
use Rattle.words.specs.declared.field_name.FieldName.TheVariants.{Gf256, Mod257}

-- the field that a header's code names: 1 is mod257; any other is read as gf256, which refuses all but 0
abbrev pub named_in : List ℕ → FieldName
named_in bytes = cond (code_in bytes == 1) Mod257 Gf256
