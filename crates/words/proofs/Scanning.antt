-- The words after a verb, read one behind the other. Assumes nothing.
use Rattle.std.proofs.Common.{◌≡◌, ℕ, ◌+◌, List, [], Option, get_or, string_bytes, String, sym, subst, add-one}
use Rattle.words.specs.declared.setting.Setting.{Setting}
use Rattle.words.specs.declared.scan.Scan.{Scan}
use Rattle.words.specs.Scans.{After, Goes, Hears, start}

module _ {O : Type 0} (unset : O) (Sets : Setting → List ℕ → O → O → Type 0) {Z : Type 0} (ws : List (String Z)) where
  pub goes_none : (t : Scan O) (ns : List (List ℕ)) → t ≡ start unset → ns ≡ [] → Goes unset Sets ws 0 t ns
  unfolding Goes
  goes_none t ns e f = (e, f)

  pub goes_more : (k : ℕ) (s : Scan O) (ms : List (List ℕ)) (w : String Z) (h : Option (Scan O)) (t : Scan O) (ns : List (List ℕ))
      → Goes unset Sets ws k s ms → w ≡ get_or ws k w → Hears Sets (string_bytes w) s h → After h (string_bytes w) s ms t ns → Goes unset Sets ws (k + 1) t ns
  unfolding Goes
  goes_more k s ms w h t ns g e x a = subst (λ (n : ℕ). Goes unset Sets ws n t ns) (sym (add-one k)) (s, ms, w, h, g, e, x, a)
