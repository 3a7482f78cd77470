-- A book with one piece more. Assumes nothing.
use Rattle.std.proofs.Common.{None, Some, Option, ◌≡◌, ℕ, ◌+◌, ◌-◌, ◌*◌, ◌/◌, ◌<◌, ◌≤◌, ◌≢◌, List, [], ◌∷◌, ◌++◌, map, length, get_or, set, replicate, sym, refl, ap, ◌∙◌, subst, mul-le-mul, mul-add, arith, get_or-set_other, get_or-set_same}
use native.Mathlib.Decide.{ℕ_discrete}
use Rattle.std.specs.Option.{IsSome, unwrap_or}
use Rattle.std.specs.List.{range_with_len}
use Rattle.std.proofs.lemmas.List.FromFn.{map-range_with_len_more}
use Rattle.field.specs.Laws.{Ops}
use Rattle.algebra.specs.Flat.{cell}
use Rattle.field.proofs.Rows.{row_fits}
use Rattle.piece.specs.declared.Header.{Header}
use Rattle.piece.specs.declared.Settings.{Settings}
use Rattle.piece.specs.Pieces.{Lawful, listed}
use Rattle.piece.specs.Bits.{value_in}
use Rattle.piece.specs.Reading.{GoodBody, count}
use Rattle.piece.proofs.Laying.{zeros_at}
use Rattle.piece.proofs.Ranges.{columns_fit}
use Rattle.piece.proofs.Octets.{length_listed, get_d_listed, listed_is}
use Rattle.collection.specs.declared.book.Book.{Book}
use Rattle.collection.specs.Adding.{Alike}
use Rattle.collection.specs.Books.{first_in, Follows, Grown, SymbolsBelow, head_of, in_open, places, stride, taken_at}
use Rattle.collection.specs.Collected.{For, Taken, blank, nothing, taking, with_piece}
use Rattle.collection.specs.Numbering.{Differing, Numbered}
use Rattle.collection.proofs.Books.{map_same}
use Rattle.collection.proofs.Laying.{Laid}

-- the facts of a book's type
pub record Facts (first : Header) (numbers : List ℕ) (have : ℕ) : Type 0 where
  pub kind : first.settings.rows ≤ 1
  pub some : 1 ≤ first.settings.m
  pub needed : first.settings.m ≤ 16
  pub enough : first.settings.m ≤ first.settings.n
  pub made : first.settings.n ≤ 32
  pub short : first.length ≤ 4096
  pub few : have ≤ first.settings.m
  pub lead : 1 ≤ have → first.number ≡ get_or numbers 0 0
  pub within : Numbered first.settings.n have numbers
  pub differ : Differing have numbers

-- the header of the first piece, where there is one, or else the next
pub next_none : (b : Book) (h : Header) → b.have ≡ 0 → unwrap_or b.first h ≡ h
next_none b h e = ap (λ (o : Option Header). unwrap_or o h) (b.none e)

same_some : (o : Option Header) (x y : Header) → IsSome o → unwrap_or o x ≡ unwrap_or o y
same_some None x y l = cc
same_some (Some z) x y l = refl

pub next_some : (b : Book) (h : Header) → 1 ≤ b.have → unwrap_or b.first h ≡ first_in b
next_some b h l = same_some b.first h blank (b.begun l)

module _ (b : Book) (h first : Header) (none : b.have ≡ 0 → first ≡ h) (some : 1 ≤ b.have → first ≡ first_in b) (follows : Follows b h) where
  pub alike_next : Alike first h
  alike_next = elim (ℕ_discrete b.have 0) [
    | yes e ↦ subst (λ (x : Header). Alike x h) (sym (none e)) (record { settings = refl; length = refl; job = refl; stamp = refl })
    | no n ↦ let l : 1 ≤ b.have = omega arith in subst (λ (x : Header). Alike x h) (sym (some l)) (follows.alike l)
  ]

  module _ (size : length b.numbers ≡ 16) where
    after : List ℕ
    after = set b.numbers b.have h.number

    space : b.have < length b.numbers
    space = omega (arith, follows.space, b.needed)

    at_new : get_or after b.have 0 ≡ h.number
    unfolding after
    at_new = get_or-set_same b.numbers b.have h.number 0 space

    at_old : (t : ℕ) → t < b.have → get_or after t 0 ≡ get_or b.numbers t 0
    unfolding after
    at_old t l = let n : t ≢ b.have = omega arith in get_or-set_other b.numbers b.have t h.number 0 n

    -- each number is an old one, or the new one
    by_place : (P : ℕ → ℕ → Type 0) → ((t : ℕ) → t < b.have → P t (get_or b.numbers t 0)) → P b.have h.number → (t : ℕ) → t < b.have + 1 → P t (get_or after t 0)
    by_place P old new t l = elim (ℕ_discrete t b.have) [
      | yes e ↦ subst (λ (x : ℕ). P x (get_or after x 0)) (sym e) (subst (P b.have) (sym at_new) new)
      | no n ↦ let k : t < b.have = omega arith in subst (P t) (sym (at_old t k)) (old t k)
    ]

    pub grown_facts : Lawful h.settings → 1 ≤ h.number → h.number ≤ h.settings.n → h.length ≤ 4096
        → Facts first (set b.numbers b.have h.number) (b.have + 1)
    unfolding after
    grown_facts L least most short =
        let a = alike_next in
        let rows : first.settings.rows ≡ h.settings.rows = ap (λ (s : Settings). s.rows) a.settings in
        let m : first.settings.m ≡ h.settings.m = ap (λ (s : Settings). s.m) a.settings in
        let n : first.settings.n ≡ h.settings.n = ap (λ (s : Settings). s.n) a.settings in
        let old-n : 1 ≤ b.have → (first_in b).settings.n ≡ first.settings.n = λ l. ap (λ (x : Header). x.settings.n) (sym (some l)) in
        record {
          kind = omega (arith, L.kind);
          some = omega (arith, L.some);
          needed = omega (arith, L.needed);
          enough = omega (arith, L.enough);
          made = omega (arith, L.made);
          short = omega (arith, a.length);
          few = elim (ℕ_discrete b.have 0) [
            | yes e ↦ omega (arith, L.some)
            | no ne ↦ omega (arith, follows.space, ap (λ (x : Header). x.settings.m) (some (omega arith)))
          ];
          lead = λ _. elim (ℕ_discrete b.have 0) [
            | yes e ↦ ap (λ (x : Header). x.number) (none e) ∙ (sym at_new ∙ ap (λ (t : ℕ). get_or after t 0) e)
            | no ne ↦
                let l : 1 ≤ b.have = omega arith in
                ap (λ (x : Header). x.number) (some l) ∙ (b.lead l ∙ sym (at_old 0 l))
          ];
          within = by_place (λ t i. (1 ≤ i) × (i ≤ first.settings.n))
              (λ t l. let w = b.within t l in let k : 1 ≤ b.have = omega arith in (w.0, omega (arith, w.1, old-n k)))
              (least, omega arith);
          differ = λ i j l e. elim (ℕ_discrete j b.have) [
            | yes q ↦
                let k : i < b.have = omega (arith, l.0) in
                follows.new i k (sym (at_old i k) ∙ (e ∙ (ap (λ (t : ℕ). get_or after t 0) q ∙ at_new)))
            | no q ↦
                let k : j < b.have = omega (arith, l.1) in
                let x : i < b.have = omega (arith, l.0) in
                b.differ i j (l.0, k) (sym (at_old i x) ∙ (e ∙ at_old j k))
          ];
        }

-- the work that suffices for any job
pub work_suffices : (m len : ℕ) → 1 ≤ m → m ≤ 16 → len ≤ 4096 → m * (m + (len + (m - 1)) / m) ≤ 4623
work_suffices m len some needed short =
    let f = columns_fit m len some in
    let s : m * m ≤ 16 * 16 = mul-le-mul needed needed in
    let d : m * (m + (len + (m - 1)) / m) ≡ m * m + m * ((len + (m - 1)) / m) = mul-add m m ((len + (m - 1)) / m) in
    omega arith

-- the symbols of the rows stand before the place behind them
row_before : (b : Book) (t k : ℕ) → t < b.have → k < count (first_in b) → t * stride b + (places b + k) < b.have * stride b
row_before b t k lt lk = let f = row_fits t b.have (stride b) lt in omega arith

-- so symbols that are laid there change none of them
pub laid_keeps : (b : Book) (from n : ℕ) (symbols start work : List ℕ) → b.have * stride b ≤ from → Laid from n symbols start work → SymbolsBelow b start → SymbolsBelow b work
unfolding cell
laid_keeps b from n symbols start work behind laid codes t k lt lk =
    let l = row_before b t k lt lk in
    subst (λ (x : ℕ). x < b.field.order) (sym (laid.before (t * stride b + (places b + k)) (omega arith))) (codes t k lt lk)

-- zeros are codes
pub zeros_below : (b : Book) (n : ℕ) → SymbolsBelow b (replicate n 0)
unfolding cell
zeros_below b n t k lt lk =
    subst (λ (x : ℕ). x < b.field.order) (sym (zeros_at n (t * stride b + (places b + k)))) (omega (arith, b.order))

-- there is room for the next row
module _ (b : Book) (h : Header) (follows : Follows b h) (lawful : Lawful h.settings) where
  abbrev width : ℕ
  width = h.settings.m + count h

  places_of : 1 ≤ b.have → (first_in b).settings.m ≡ h.settings.m
  places_of l = ap (λ (s : Settings). s.m) (follows.alike l).settings

  stride_of : 1 ≤ b.have → stride b ≡ width
  stride_of l =
      let a = follows.alike l in
      ap (λ (s : Settings). s.m + ((first_in b).length + (s.m - 1)) / s.m) a.settings ∙ ap (λ (n : ℕ). h.settings.m + (n + (h.settings.m - 1)) / h.settings.m) a.length

  next_row : b.have < h.settings.m
  next_row = elim (ℕ_discrete b.have 0) [
    | yes e ↦ omega (arith, lawful.some)
    | no n ↦ omega (arith, follows.space, places_of (omega arith))
  ]

  pub next_behind : b.have * stride b ≤ b.have * width + h.settings.m
  next_behind = elim (ℕ_discrete b.have 0) [
    | yes e ↦ let z : b.have * stride b ≡ 0 = ap (λ (n : ℕ). n * stride b) e ∙ omega arith in omega arith
    | no n ↦ let s : b.have * stride b ≡ b.have * width = ap (λ (n : ℕ). b.have * n) (stride_of (omega arith)) in omega arith
  ]

  pub next_fits : h.length ≤ 4096 → b.have * width + h.settings.m + count h ≤ 4623
  next_fits short =
      let f = row_fits b.have h.settings.m width next_row in
      let w = work_suffices h.settings.m h.length lawful.some lawful.needed short in
      omega arith

-- a book with one piece more, whose symbols were laid behind the rows of the others
module _ (b after : Book) (h : Header) (symbols start work : List ℕ) (grown : Grown b h after) (size : length b.numbers ≡ 16) (follows : Follows b h)
    (full : length symbols ≡ count h)
    (laid : Laid (b.have * (h.settings.m + count h) + h.settings.m) (count h) symbols start work) where
  count_next : count (first_in after) ≡ count h
  count_next =
      let a = grown.alike in
      ap (λ (s : Settings). ((first_in after).length + (s.m - 1)) / s.m) a.settings ∙ ap (λ (n : ℕ). (n + (h.settings.m - 1)) / h.settings.m) a.length

  places_next : places after ≡ h.settings.m
  places_next = ap (λ (s : Settings). s.m) grown.alike.settings

  stride_next : stride after ≡ h.settings.m + count h
  stride_next = ap (λ (m : ℕ). m + count (first_in after)) places_next ∙ ap (λ (n : ℕ). h.settings.m + n) count_next

  -- where there was a piece, the rows are as long as they were
  stride_kept : 1 ≤ b.have → stride after ≡ stride b
  stride_kept l = ap (λ (x : Header). x.settings.m + count x) (grown.kept l)

  old_cell : (t k : ℕ) → t < b.have → k < count (first_in b) → cell (stride b) work t (places b + k) ≡ cell (stride b) start t (places b + k)
  unfolding cell
  old_cell t k lt lk =
      let l = row_before b t k lt lk in
      let s : stride b ≡ h.settings.m + count h = sym (stride_kept (omega arith)) ∙ stride_next in
      let e : b.have * stride b ≡ b.have * (h.settings.m + count h) = ap (λ (n : ℕ). b.have * n) s in
      laid.before (t * stride b + (places b + k)) (omega arith)

  new_cell : (k : ℕ) → k < count h → cell (stride after) work b.have (places after + k) ≡ get_or symbols k 0
  unfolding cell
  new_cell k lk =
      let e : b.have * stride after + (places after + k) ≡ b.have * (h.settings.m + count h) + h.settings.m + k
      = ap (λ (n : ℕ). b.have * n + (places after + k)) stride_next ∙ (let p = places_next in omega arith) in
      ap (λ (i : ℕ). get_or work i 0) e ∙ laid.laid k lk

  pub grown_codes : ((k : ℕ) → k < length symbols → get_or symbols k 0 < b.field.order) → SymbolsBelow b start → SymbolsBelow after work
  grown_codes below codes t k lt lk = elim (ℕ_discrete t b.have) [
    | yes e ↦
        let l : k < count h = omega (arith, count_next) in
        subst (λ (q : ℕ). cell (stride after) work t (places after + k) < q) (sym (ap (λ f. f.order) grown.field))
        (subst (λ (x : ℕ). cell (stride after) work x (places after + k) < b.field.order) (sym e)
        (subst (λ (x : ℕ). x < b.field.order) (sym (new_cell k l)) (below k (omega arith))))
    | no n ↦
        let l : t < b.have = omega (arith, grown.have) in
        let some : 1 ≤ b.have = omega arith in
        subst (λ (q : ℕ). cell (stride after) work t (places after + k) < q) (sym (ap (λ f. f.order) grown.field))
        (subst (λ (x : Header). k < count x → cell (x.settings.m + count x) work t (x.settings.m + k) < b.field.order) (sym (grown.kept some))
        (λ lb. subst (λ (x : ℕ). x < b.field.order) (sym (old_cell t k l lb)) (codes t k l lb)) lk)
  ]

  -- the pieces that were there
  old_number : (t : ℕ) → t < b.have → get_or after.numbers t 0 ≡ get_or b.numbers t 0
  old_number t l =
      let n : t ≢ b.have = omega arith in
      ap (λ (xs : List ℕ). get_or xs t 0) grown.numbers ∙ get_or-set_other b.numbers b.have t h.number 0 n

  new_number : get_or after.numbers b.have 0 ≡ h.number
  new_number = ap (λ (xs : List ℕ). get_or xs b.have 0) grown.numbers ∙ get_or-set_same b.numbers b.have h.number 0 (omega (arith, follows.space, b.needed))

  old_taken : (t : ℕ) → t < b.have → taken_at after work t ≡ taken_at b start t
  unfolding taken_at
  old_taken t l =
      let some : 1 ≤ b.have = omega arith in
      let n : ℕ = count (first_in b) in
      let f : ℕ → ℕ = λ k. cell (stride b) work t (places b + k) in
      let same : listed n f ≡ listed n (λ k. cell (stride b) start t (places b + k))
      = listed_is (listed n f) n (λ k. cell (stride b) start t (places b + k)) (length_listed n f) (λ k lk. get_d_listed n f k lk ∙ old_cell t k l lk) in
      ap (λ (x : Header). record { header = record { settings = x.settings; number = get_or after.numbers t 0; length = x.length; job = x.job; stamp = x.stamp }; symbols = listed (count x) (λ k. cell (x.settings.m + count x) work t (x.settings.m + k)) }) (grown.kept some)
      ∙ (ap (λ (i : ℕ). record { header = record { settings = (first_in b).settings; number = i; length = (first_in b).length; job = (first_in b).job; stamp = (first_in b).stamp }; symbols = listed n f }) (old_number t l)
      ∙ ap (λ (xs : List ℕ). record { header = head_of b t; symbols = xs }) same)

  new_head : head_of after b.have ≡ h
  new_head =
      let a = grown.alike in
      ap (λ (s : Settings). record { settings = s; number = get_or after.numbers b.have 0; length = (first_in after).length; job = (first_in after).job; stamp = (first_in after).stamp }) a.settings
      ∙ (ap (λ (i : ℕ). record { settings = h.settings; number = i; length = (first_in after).length; job = (first_in after).job; stamp = (first_in after).stamp }) new_number
      ∙ (ap (λ (n : ℕ). record { settings = h.settings; number = h.number; length = n; job = (first_in after).job; stamp = (first_in after).stamp }) a.length
      ∙ (ap (λ (n : ℕ). record { settings = h.settings; number = h.number; length = h.length; job = n; stamp = (first_in after).stamp }) a.job
      ∙ ap (λ (n : ℕ). record { settings = h.settings; number = h.number; length = h.length; job = h.job; stamp = n }) a.stamp)))

  new_taken : (values : List ℕ) → symbols ≡ values → taken_at after work b.have ≡ record { header = h; symbols = values }
  unfolding taken_at
  new_taken values e =
      let f : ℕ → ℕ = λ k. cell (stride after) work b.have (places after + k) in
      let same : symbols ≡ listed (count (first_in after)) f
      = listed_is symbols (count (first_in after)) f (full ∙ sym count_next) (λ k lk. sym (new_cell k (omega (arith, count_next)))) in
      ap (λ (x : Header). record { header = x; symbols = listed (count (first_in after)) f }) new_head
      ∙ ap (λ (xs : List ℕ). record { header = h; symbols = xs }) (sym same ∙ e)

  pub grown_open : (values : List ℕ) → symbols ≡ values → length work ≡ length start
      → in_open after work ≡ with_piece (in_open b start) (record { header = h; symbols = values })
  unfolding in_open
  grown_open values e len =
      let f : ℕ → Taken = taken_at after work in
      let more : map f (range_with_len 0 after.have) ≡ map f (range_with_len 0 b.have) ++ (f b.have ∷ [])
      = ap (λ (n : ℕ). map f (range_with_len 0 n)) grown.have ∙ map-range_with_len_more f 0 b.have b.have (omega arith) in
      let old : map f (range_with_len 0 b.have) ≡ map (taken_at b start) (range_with_len 0 b.have) = map_same b.have nothing f (taken_at b start) old_taken in
      let all : map f (range_with_len 0 after.have) ≡ map (taken_at b start) (range_with_len 0 b.have) ++ (record { header = h; symbols = values } ∷ [])
      = more ∙ (ap (λ (ps : List Taken). ps ++ (f b.have ∷ [])) old ∙ ap (λ (p : Taken). map (taken_at b start) (range_with_len 0 b.have) ++ (p ∷ [])) (new_taken values e)) in
      ap (λ x. record { field = x; room = length work; taken = map f (range_with_len 0 after.have) }) grown.field
      ∙ (ap (λ (n : ℕ). record { field = b.field; room = n; taken = map f (range_with_len 0 after.have) }) len
      ∙ ap (λ (ps : List Taken). record { field = b.field; room = length start; taken = ps }) all)

-- a piece that was taken: its symbols are codes, and the collection has it
pub record Took (K : Ops) (b after : Book) (h : Header) (body start work : List ℕ) : Type 0 where
  pub codes : SymbolsBelow after work
  pub room : length work ≡ length start
  pub collected : in_open after work ≡ with_piece (in_open b start) (taking K h body)

pub took : (K : Ops) (b after mid : Book) (h : Header) (body symbols start work : List ℕ) (from have w len : ℕ)
    → Follows b h → length b.numbers ≡ 16 → For K b.field → GoodBody K (count h) body → SymbolsBelow b start
    → w ≡ K.width → have ≡ b.have → len ≡ count h → from ≡ have * (h.settings.m + len) + h.settings.m
    → length symbols ≡ len → ((k : ℕ) → k < length symbols → get_or symbols k 0 ≡ value_in w body k)
    → Laid from (length symbols) symbols start work → mid ≡ b → Grown mid h after → Took K b after h body start work
took K b after mid h body symbols start work from have w len follows size own good below ew eh el ef es each laid em grown =
    let n : ℕ = count h in
    let ls : length symbols ≡ n = es ∙ el in
    let values : List ℕ = listed n (value_in K.width body) in
    let same : symbols ≡ values = listed_is symbols n (value_in K.width body) ls
    (λ k l. each k (omega arith) ∙ ap (λ (x : ℕ). value_in x body k) ew) in
    let place : from ≡ b.have * (h.settings.m + n) + h.settings.m
    = ef ∙ (ap (λ (x : ℕ). x * (h.settings.m + len) + h.settings.m) eh ∙ ap (λ (x : ℕ). b.have * (h.settings.m + x) + h.settings.m) el) in
    let there : Laid (b.have * (h.settings.m + n) + h.settings.m) n symbols start work
    = subst (λ (x : ℕ). Laid x n symbols start work) place (subst (λ (x : ℕ). Laid from x symbols start work) ls laid) in
    let g : Grown b h after = subst (λ (x : Book). Grown x h after) em grown in
    let codes : (k : ℕ) → k < length symbols → get_or symbols k 0 < b.field.order
    = λ k l. subst (λ (q : ℕ). get_or symbols k 0 < q) (sym own.order)
    (subst (λ (xs : List ℕ). get_or xs k 0 < K.order) (sym same) (good.holds.codes k (subst (λ (x : ℕ). k < x) (sym (length_listed n (value_in K.width body))) (omega arith)))) in
    record {
      codes = grown_codes b after h symbols start work g size follows ls there codes below;
      room = laid.size;
      collected = grown_open b after h symbols start work g size follows ls there values same laid.size;
    }
