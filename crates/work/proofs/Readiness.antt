-- Whole pieces that tell of a column leave it to be asked for. Assumes nothing.
use Rattle.std.proofs.Common.{◌≡◌, ℕ, ◌+◌, ◌-◌, ◌<◌, ◌≤◌, List, [], ◌∷◌, length, get_or, vec_items, sym, refl, ap, ◌∙◌, subst, arith}
use Rattle.std.proofs.lemmas.List.{get_or-map, length-map}
use Rattle.piece.specs.declared.Settings.{Settings}
use Rattle.piece.specs.Bits.{bytes_for}
use Rattle.piece.specs.Columns.{InRange}
use Rattle.piece.specs.Pieces.{Lawful}
use Rattle.piece.specs.Reading.{count}
use Rattle.words.specs.declared.field_name.FieldName.{FieldName}
use Rattle.words.specs.declared.field_name.FieldName.TheVariants.{Gf256, Mod257}
use Rattle.words.specs.Named.{ops_of}
use Rattle.work.specs.declared.held.Held.{Held}
use Rattle.work.specs.declared.candidates.Told.{Told}
use Rattle.work.specs.Told.{Ready, Tells, number_of, symbol_of}

-- a body of n columns that has a value k
before : (x : FieldName) (k n len : ℕ) → len ≡ bytes_for (ops_of x).width n → bytes_for (ops_of x).width (k + 1) ≤ len → k < n
before Gf256 k n len e h = omega arith
before Mod257 k n len e h = omega arith

-- a byte is a code of either field
byte : (x : FieldName) (v : ℕ) → v < 256 → v < (ops_of x).order
byte Gf256 v h = omega arith
byte Mod257 v h = omega arith

module _ (ps : List Held) (k : ℕ) (t : Told) (T : Tells ps k t) (d : Held) where
  within : (r : ℕ) → r < t.settings.m - 1 → r < length ps
  within r h = let e = T.many in omega arith

  number_at : (r : ℕ) → r < length ps → get_or (vec_items t.numbers) r 0 ≡ number_of (get_or ps r d)
  number_at r h = ap (λ (ys : List ℕ). get_or ys r 0) T.numbers ∙ get_or-map number_of ps r d 0 h

  symbol_at : (r : ℕ) → r < length ps → get_or (vec_items t.symbols) r 0 ≡ symbol_of k (get_or ps r d)
  symbol_at r h = ap (λ (ys : List ℕ). get_or ys r 0) T.symbols ∙ get_or-map (symbol_of k) ps r d 0 h

  numbered : length (vec_items t.numbers) ≡ t.settings.m - 1
  numbered = ap length T.numbers ∙ length-map ps number_of ∙ T.many

  told : length (vec_items t.symbols) ≡ t.settings.m - 1
  told = ap length T.symbols ∙ length-map ps (symbol_of k) ∙ T.many

  lawful : Lawful t.settings
  lawful = subst (λ (S : Settings). Lawful S) (sym (T.settings d)) (get_or ps 0 d).whole.lawful

  least : (r : ℕ) → r < t.settings.m - 1 → 1 ≤ get_or (vec_items t.numbers) r 0
  least r h = let l = within r h in subst (λ (x : ℕ). 1 ≤ x) (sym (number_at r l)) (get_or ps r d).whole.least

  most : (r : ℕ) → r < t.settings.m - 1 → get_or (vec_items t.numbers) r 0 ≤ t.settings.n
  most r h =
      let l = within r h in
      let a : t.settings.n ≡ (get_or ps r d).header.settings.n = ap (λ (S : Settings). S.n) (T.settings d ∙ (T.together r d l).settings) in
      let b : number_of (get_or ps r d) ≤ (get_or ps r d).header.settings.n = (get_or ps r d).whole.most in
      let e = number_at r l in
      omega (arith, a, b, e)

  same_field : (r : ℕ) → r < length ps → (get_or ps r d).field ≡ t.field
  same_field r h = sym (T.field d ∙ (T.together r d h).field)

  codes : (r : ℕ) → r < t.settings.m - 1 → get_or (vec_items t.symbols) r 0 < (ops_of t.field).order
  codes r h =
      let l = within r h in
      let p = get_or ps r d in
      let c : k < count p.header = before p.field k (count p.header) (length (vec_items p.body)) (get_or ps r d).whole.long (T.has r d l) in
      subst (λ (x : FieldName). get_or (vec_items t.symbols) r 0 < (ops_of x).order) (same_field r l)
      (subst (λ (v : ℕ). v < (ops_of p.field).order) (sym (symbol_at r l)) ((get_or ps r d).whole.codes k c))

  at : (p v : ℕ) → p < t.settings.m → v < 256 → InRange (ops_of t.field) t.settings (vec_items t.numbers) (vec_items t.symbols) p v t.settings.m
  at p v hp hv = record {
    seen = record {
      lawful = lawful;
      kind = T.kind;
      least = least;
      most = most;
      differ = λ i j hi hj ne. T.differ i j (let e = numbered in omega arith) (let e = numbered in omega arith) ne;
      codes = codes;
    };
    numbered = numbered;
    told = told;
    place = hp;
    value = byte t.field v hv;
    room = refl;
  }

pub ready : (ps : List Held) (k : ℕ) (t : Told) → Tells ps k t → Ready t
ready [] k t T = let s = T.some in absurd (omega arith)
ready (p ∷ ps) k t T = λ q h v. at (p ∷ ps) k t T p q v h
