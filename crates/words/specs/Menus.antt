-- Which verbs a program has, and which options a verb. Assumes nothing.
use Rattle.std.specs.Prelude.{Bool, true, false}
use Rattle.words.specs.declared.help.Verb.{Verb}
use Rattle.words.specs.declared.help.Verb.TheVariants.{Fields, Times, Inverse, Cut, Show, Candidates, Help}
use Rattle.words.specs.declared.menu.Menu.{Menu}
use Rattle.words.specs.declared.menu.Menu.TheVariants.{Cutting, Whole}
use Rattle.words.specs.declared.setting.Setting.{Setting}
use Rattle.words.specs.declared.setting.Setting.TheVariants as setting

-- the menu has the verbs that read pieces, too
abbrev pub reads_pieces : Menu → Bool
reads_pieces Cutting = false
reads_pieces Whole = true

-- a program with this menu has the verb
abbrev pub lists : Menu → Verb → Bool
lists m Fields = true
lists m Times = true
lists m Inverse = true
lists m Cut = true
lists m Show = reads_pieces m
lists m Candidates = reads_pieces m
lists m Help = true

-- it says how a job is cut
abbrev pub cuts : Setting → Bool
cuts setting.Field = true
cuts setting.Rows = true
cuts setting.Need = true
cuts setting.Of = true
cuts setting.Job = true
cuts setting.Stamp = true
cuts setting.Column = false
cuts setting.Place = false
cuts setting.Value = false

-- it says what is asked of a column
abbrev pub inquires : Setting → Bool
inquires setting.Field = false
inquires setting.Rows = false
inquires setting.Need = false
inquires setting.Of = false
inquires setting.Job = false
inquires setting.Stamp = false
inquires setting.Column = true
inquires setting.Place = true
inquires setting.Value = true

-- the verb has the option
abbrev pub has_option : Verb → Setting → Bool
has_option Fields x = false
has_option Times x = false
has_option Inverse x = false
has_option Cut x = cuts x
has_option Show x = false
has_option Candidates x = inquires x
has_option Help x = false
