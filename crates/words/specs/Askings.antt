-- What the options of candidates mean. Assumes nothing.
use Rattle.std.specs.Prelude.{◌≡◌, ℕ, List, Some, None}
use Rattle.std.specs.Option.{unwrap_or}
use Rattle.words.specs.declared.setting.Setting.{Setting}
use Rattle.words.specs.declared.setting.Setting.TheVariants as setting
use Rattle.words.specs.declared.asking.Wanted.{Wanted}
use Rattle.words.specs.Options.{Number}

-- the option with the text w makes p of o: it is given, as w writes it, and the others stay
abbrev pub Wants : Setting → List ℕ → Wanted → Wanted → Type 0
Wants setting.Column w o p = Number 65535 w (unwrap_or p.column 0) × (p ≡ record { column = Some (unwrap_or p.column 0); place = o.place; value = o.value })
Wants setting.Place w o p = Number 255 w (unwrap_or p.place 0) × (p ≡ record { column = o.column; place = Some (unwrap_or p.place 0); value = o.value })
Wants setting.Value w o p = Number 255 w (unwrap_or p.value 0) × (p ≡ record { column = o.column; place = o.place; value = Some (unwrap_or p.value 0) })
Wants setting.Field w o p = ⊥
Wants setting.Rows w o p = ⊥
Wants setting.Need w o p = ⊥
Wants setting.Of w o p = ⊥
Wants setting.Job w o p = ⊥
Wants setting.Stamp w o p = ⊥

-- no option is given
abbrev pub unasked : Wanted
unasked = record { column = None; place = None; value = None }
