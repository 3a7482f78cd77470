-- The fields, the verbs and the options by name. Assumes nothing.
use Rattle.std.specs.Prelude.{ℕ, List, codes}
use Rattle.field.specs.Laws.{Ops}
use Rattle.field.specs.Gf256.{gf256}
use Rattle.field.specs.Mod257.{mod257}
use Rattle.piece.specs.declared.kind.Rows.{Rows}
use Rattle.piece.specs.declared.kind.Rows.TheVariants.{Vandermonde, Cauchy}
use Rattle.words.specs.declared.field_name.FieldName.{FieldName}
use Rattle.words.specs.declared.field_name.FieldName.TheVariants.{Gf256, Mod257}
use Rattle.words.specs.declared.help.Verb.{Verb}
use Rattle.words.specs.declared.help.Verb.TheVariants.{Fields, Times, Inverse, Cut, Show, Candidates, Help}
use Rattle.words.specs.declared.setting.Setting.{Setting}
use Rattle.words.specs.declared.setting.Setting.TheVariants as setting

abbrev pub ops_of : FieldName → Ops
ops_of Gf256 = gf256
ops_of Mod257 = mod257

-- the word by which a user names it
abbrev pub word_of : FieldName → List ℕ
word_of Gf256 = codes "gf256"
word_of Mod257 = codes "mod257"

-- the word by which a user calls a verb
abbrev pub verb_word_of : Verb → List ℕ
verb_word_of Fields = codes "fields"
verb_word_of Times = codes "times"
verb_word_of Inverse = codes "inverse"
verb_word_of Cut = codes "cut"
verb_word_of Show = codes "show"
verb_word_of Candidates = codes "candidates"
verb_word_of Help = codes "help"

-- the word by which a user names a kind of rows
abbrev pub rows_word_of : Rows → List ℕ
rows_word_of Vandermonde = codes "vandermonde"
rows_word_of Cauchy = codes "cauchy"

-- the word of an option
abbrev pub setting_word_of : Setting → List ℕ
setting_word_of setting.Field = codes "--field"
setting_word_of setting.Rows = codes "--rows"
setting_word_of setting.Need = codes "--need"
setting_word_of setting.Of = codes "--of"
setting_word_of setting.Job = codes "--job"
setting_word_of setting.Stamp = codes "--stamp"
setting_word_of setting.Column = codes "--column"
setting_word_of setting.Place = codes "--place"
setting_word_of setting.Value = codes "--value"
