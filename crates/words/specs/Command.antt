-- What holds of every command that is carried out. Assumes nothing.
use Rattle.std.specs.Prelude.{◌≡◌, ◌<◌, true, List, map, vec_items, string_bytes, String}
use Rattle.words.specs.Named.{ops_of}
use Rattle.words.specs.Menus.{lists}
use Rattle.words.specs.declared.help.Verb.{Verb}
use Rattle.words.specs.declared.help.Verb.TheVariants as verb
use Rattle.words.specs.declared.menu.Menu.{Menu}
use Rattle.words.specs.declared.command.Command.{Command}
use Rattle.words.specs.declared.command.Command.TheVariants.{Overview, About, Fields, Times, Inverse, Cut, Show, Candidates}

-- its codes are codes of its field
abbrev pub Sound : Command → Type 0
Sound Overview = Unit {0}
Sound (About v) = Unit {0}
Sound Fields = Unit {0}
Sound (Times x a b) = (a < (ops_of x).order) × (b < (ops_of x).order)
Sound (Inverse x a) = a < (ops_of x).order
Sound (Cut r) = Unit {0}
Sound (Show ns) = Unit {0}
Sound (Candidates q) = Unit {0}

-- the files to show are the words, one for one
abbrev pub Shows : {Z : Type 0} → List (String Z) → Command → Type 0
Shows ws Overview = ⊥
Shows ws (About v) = ⊥
Shows ws Fields = ⊥
Shows ws (Times x a b) = ⊥
Shows ws (Inverse x a) = ⊥
Shows ws (Cut r) = ⊥
Shows ws (Show ns) = map string_bytes (vec_items ns) ≡ map string_bytes ws
Shows ws (Candidates q) = ⊥

-- it is a command of a program with this menu
abbrev pub Listed : Menu → Command → Type 0
Listed m Overview = lists m verb.Help ≡ true
Listed m (About v) = (lists m verb.Help ≡ true) × (lists m v ≡ true)
Listed m Fields = lists m verb.Fields ≡ true
Listed m (Times x a b) = lists m verb.Times ≡ true
Listed m (Inverse x a) = lists m verb.Inverse ≡ true
Listed m (Cut r) = lists m verb.Cut ≡ true
Listed m (Show ns) = lists m verb.Show ≡ true
Listed m (Candidates q) = lists m verb.Candidates ≡ true

-- a menu with the verb has the command
abbrev pub Calls : Verb → Command → Type 0
Calls v c = (m : Menu) → lists m v ≡ true → Listed m c
