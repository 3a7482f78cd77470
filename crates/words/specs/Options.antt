-- What the options of cutting mean. Assumes nothing.
use Rattle.std.specs.Prelude.{◌≡◌, ℕ, List, Ok}
use Rattle.piece.specs.declared.Settings.{Settings}
use Rattle.piece.specs.declared.kind.Rows.TheVariants.{Cauchy}
use Rattle.piece.specs.Rows.{number_of}
use Rattle.words.specs.declared.field_name.FieldName.TheVariants.{Gf256}
use Rattle.words.specs.declared.setting.Setting.{Setting}
use Rattle.words.specs.declared.setting.Setting.TheVariants.{Field, Rows, Need, Of, Job, Stamp, Column, Place, Value}
use Rattle.words.specs.declared.options.CutOptions.{CutOptions}
use Rattle.words.specs.Named.{word_of, rows_word_of}
use Rattle.words.specs.Numeral.{Reading, radix_of, digits_of}

-- the text w writes the number v, decimal or hexadecimal, and v is at most top
abbrev pub Number : ℕ → List ℕ → ℕ → Type 0
Number top w v = Reading (radix_of w) top (digits_of w) (Ok v)

-- what holds where no option says otherwise
abbrev pub given : CutOptions
given = record { field = Gf256; rows = Cauchy; need = 10; total = 14; job = 1; stamp = 1 }

-- the option with the text w makes p of o: its setting is the one that w writes, and the others stay
abbrev pub Sets : Setting → List ℕ → CutOptions → CutOptions → Type 0
Sets Field w o p = (w ≡ word_of p.field) × (p ≡ record { field = p.field; rows = o.rows; need = o.need; total = o.total; job = o.job; stamp = o.stamp })
Sets Rows w o p = (w ≡ rows_word_of p.rows) × (p ≡ record { field = o.field; rows = p.rows; need = o.need; total = o.total; job = o.job; stamp = o.stamp })
Sets Need w o p = Number 255 w p.need × (p ≡ record { field = o.field; rows = o.rows; need = p.need; total = o.total; job = o.job; stamp = o.stamp })
Sets Of w o p = Number 255 w p.total × (p ≡ record { field = o.field; rows = o.rows; need = o.need; total = p.total; job = o.job; stamp = o.stamp })
Sets Job w o p = Number 65535 w p.job × (p ≡ record { field = o.field; rows = o.rows; need = o.need; total = o.total; job = p.job; stamp = o.stamp })
Sets Stamp w o p = Number 4294967295 w p.stamp × (p ≡ record { field = o.field; rows = o.rows; need = o.need; total = o.total; job = o.job; stamp = p.stamp })
Sets Column w o p = ⊥
Sets Place w o p = ⊥
Sets Value w o p = ⊥

-- the settings that a job is cut with
abbrev pub settings_of : CutOptions → Settings
settings_of o = record { rows = number_of o.rows; m = o.need; n = o.total }
