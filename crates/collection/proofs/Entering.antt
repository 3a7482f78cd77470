-- Coefficients in front of the symbols of each row, and the rows brought back. Assumes nothing.
use Rattle.std.proofs.Common.{◌≡◌, ℕ, ◌+◌, ◌-◌, ◌*◌, ◌<◌, ◌≤◌, List, length, get_or, take, sym, ap, ◌∙◌, subst, arith}
use native.Mathlib.Decide.{ℕ_discrete, dec_lt}
use borrow.Rule.Slice.PartMut.{put_mid}
use Rattle.std.proofs.lemmas.List.{get_or-take}
use Rattle.field.specs.Laws.{Ops}
use Rattle.field.proofs.Parts.{put_length, put_before, put_inside, put_behind}
use Rattle.field.proofs.Rows.{row_fits}
use Rattle.algebra.specs.Flat.{cell}
use Rattle.piece.specs.Pieces.{Lawful, entry}
use Rattle.piece.specs.Reading.{count}
use Rattle.collection.specs.declared.book.Book.{Book}
use Rattle.collection.specs.Books.{first_in, places, stride}

pub book_lawful : (b : Book) → Lawful (first_in b).settings
book_lawful b = record { kind = b.kind; some = b.some; needed = b.needed; enough = b.enough; made = b.made }

-- the numbers of the pieces, where they are a list of their own
pub numbers_at : (b : Book) (numbers : List ℕ) (t : ℕ) → numbers ≡ take b.have b.numbers → t < b.have → get_or numbers t 0 ≡ get_or b.numbers t 0
numbers_at b numbers t e l = ap (λ (xs : List ℕ). get_or xs t 0) e ∙ get_or-take b.have b.numbers t 0 l

-- the first t rows have their coefficients
pub record EnteredTo (K : Ops) (b : Book) (t : ℕ) (start rows : List ℕ) : Type 0 where
  pub size : length rows ≡ length start
  pub entries : (i j : ℕ) → i < t → j < places b → cell (stride b) rows i j ≡ entry K (first_in b).settings (get_or b.numbers i 0) j
  pub symbols : (i k : ℕ) → i < places b → k < count (first_in b) → cell (stride b) rows i (places b + k) ≡ cell (stride b) start i (places b + k)

module _ (K : Ops) (b : Book) (t : ℕ) (start rows out : List ℕ) (within : t < places b) (room : length rows ≡ places b * stride b)
    (size : length out ≡ places b) (value : (j : ℕ) → j < places b → get_or out j 0 ≡ entry K (first_in b).settings (get_or b.numbers t 0) j) where
  abbrev from : ℕ
  from = t * stride b

  abbrev after : List ℕ
  after = put_mid from (from + places b - from) rows out

  fits : from + places b ≤ length rows
  fits = let f = row_fits t (places b) (stride b) within in omega arith

  -- the cells of other rows, and those behind the coefficients, are as they were
  other_cell : (i c : ℕ) → i < places b → c < stride b → ((i ≡ t) → places b ≤ c) → cell (stride b) after i c ≡ cell (stride b) rows i c
  unfolding cell
  other_cell i c li lc far = elim (dec_lt i t) [
    | yes l ↦ let f = row_fits i t (stride b) l in put_before rows out from (places b) fits size (i * stride b + c) (omega arith)
    | no n ↦ elim (ℕ_discrete i t) [
      | yes e ↦ let k = far e in let q : i * stride b ≡ from = ap (λ (x : ℕ). x * stride b) e in put_behind rows out from (places b) fits size (i * stride b + c) (omega arith)
      | no m ↦ let l : t < i = omega arith in let f = row_fits t i (stride b) l in put_behind rows out from (places b) fits size (i * stride b + c) (omega arith)
    ]
  ]

  this_cell : (j : ℕ) → j < places b → cell (stride b) after t j ≡ get_or out j 0
  unfolding cell
  this_cell j l = put_inside rows out from (places b) fits size (from + j) (omega arith) (omega arith) ∙ ap (λ (x : ℕ). get_or out x 0) (let z : from + j - from ≡ j = omega arith in z)

  pub entered_more : EnteredTo K b t start rows → EnteredTo K b (t + 1) start after
  entered_more h = record {
    size = put_length rows out from (places b) fits size ∙ h.size;
    entries = λ i j li lj. elim (ℕ_discrete i t) [
      | yes e ↦ subst (λ (x : ℕ). cell (stride b) after x j ≡ entry K (first_in b).settings (get_or b.numbers x 0) j) (sym e) (this_cell j lj ∙ value j lj)
      | no n ↦ other_cell i j (omega arith) (omega arith) (λ e. absurd (n e)) ∙ h.entries i j (omega arith) lj
    ];
    symbols = λ i k li lk. other_cell i (places b + k) li (omega arith) (λ e. omega arith) ∙ h.symbols i k li lk;
  }
