-- What the words after a verb say, where options and names stand in any order. Assumes nothing.
use Rattle.std.specs.Prelude.{◌≡◌, ℕ, zero, suc, Bool, true, false, ◌&&◌, ◌⊎◌, List, [], ◌∷◌, ◌++◌, length, Some, None, Option, codes, string_bytes, String, ◌≢◌, ◌==◌, nat_lt, slice_index, slice_index_or}
use Rattle.words.specs.declared.setting.Setting.{Setting}
use Rattle.words.specs.declared.scan.Next.{Next}
use Rattle.words.specs.declared.scan.Next.TheVariants as next
use Rattle.words.specs.declared.scan.Scan.{Scan}
use Rattle.words.specs.Named.{setting_word_of}

-- it begins with a dash and is longer: a dash alone is a name
abbrev pub dashed : List ℕ → Bool
dashed w = nat_lt 1 (length w) && slice_index w 0 == 45

-- before the first word, where the options are as if none were given
abbrev pub start : {O : Type 0} → O → Scan O
start o = record { options = o; next = next.Word }

-- where a value comes next, it is that of an option that is taken
abbrev pub Owns : {O : Type 0} → (Setting → Bool) → Scan O → Type 0
Owns takes s = (x : Setting) → s.next ≡ next.Value x → takes x ≡ true

-- what is heard of the options, if anything is
abbrev pub HearsOwn : {O : Type 0} → (Setting → Bool) → Option (Scan O) → Type 0
HearsOwn takes None = Unit {0}
HearsOwn takes (Some s) = Owns takes s

-- what is so far, and the names, after a word: a name where nothing else is heard
abbrev pub After : {O : Type 0} → Option (Scan O) → List ℕ → Scan O → List (List ℕ) → Scan O → List (List ℕ) → Type 0
After None w s ms t ns = (t ≡ s) × (ns ≡ ms ++ (w ∷ []))
After (Some u) w s ms t ns = (t ≡ u) × (ns ≡ ms)

-- an option with a text sets what `Sets` says
module _ {O : Type 0} (Sets : Setting → List ℕ → O → O → Type 0) where
  -- w is the value of an option
  abbrev pub Takes : Setting → List ℕ → Scan O → Scan O → Type 0
  Takes x w s t = Sets x w s.options t.options × (t.next ≡ next.Word)

  -- a dashed word ends the options, names an option whose value comes next, or has its value behind an equals sign (61)
  abbrev pub Opens : List ℕ → Scan O → Scan O → Type 0
  Opens w s t =
      ((w ≡ codes "--") × (t ≡ record { options = s.options; next = next.Name }))
      ⊎ (((x : Setting) × (w ≡ setting_word_of x) × (t ≡ record { options = s.options; next = next.Value x }))
      ⊎ ((x : Setting) × (v : List ℕ) × (w ≡ setting_word_of x ++ (61 ∷ v)) × Takes x v s t))

  abbrev pub Free : Bool → List ℕ → Scan O → Option (Scan O) → Type 0
  Free true w s None = ⊥
  Free true w s (Some t) = Opens w s t
  Free false w s h = h ≡ None

  abbrev pub Listens : Next → List ℕ → Scan O → Option (Scan O) → Type 0
  Listens next.Word w s h = Free (dashed w) w s h
  Listens (next.Value x) w s None = ⊥
  Listens (next.Value x) w s (Some t) = Takes x w s t
  Listens next.Name w s h = h ≡ None

  -- what the word w says of the options after the words that led to s: nothing where it is a name
  abbrev pub Hears : List ℕ → Scan O → Option (Scan O) → Type 0
  Hears w s h = Listens s.next w s h

module _ {O : Type 0} (unset : O) (Sets : Setting → List ℕ → O → O → Type 0) {Z : Type 0} (ws : List (String Z)) where
  -- the first k words take the reading from its start to t, each of them by one step, and these of them are names
  unfoldable pub Goes : ℕ → Scan O → List (List ℕ) → Type 0
  Goes zero t ns = (t ≡ start unset) × (ns ≡ [])
  Goes (suc k) t ns =
      (s : Scan O) × (ms : List (List ℕ)) × (w : String Z) × (h : Option (Scan O))
      × Goes k s ms × (w ≡ slice_index_or ws k w) × Hears Sets (string_bytes w) s h × After h (string_bytes w) s ms t ns

  -- all words are read, no option is left without its value, and what they say are these options and these names
  pub record Says (o : O) (ns : List (List ℕ)) : Type 0 where
    pub last : Scan O
    pub goes : Goes (length ws) last ns
    pub whole : (x : Setting) → last.next ≢ next.Value x
    pub options : o ≡ last.options
