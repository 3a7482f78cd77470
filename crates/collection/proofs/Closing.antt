-- A collection closed: the rows at the front of the work brought back. Assumes nothing.
use Rattle.std.proofs.Common.{◌≡◌, ℕ, ◌+◌, ◌*◌, ◌<◌, ◌≤◌, List, ◌++◌, map, length, get_or, take, drop, replicate, sym, ap, ◌∙◌, subst, arith, length-append, length-drop, length-take-le}
use Rattle.std.specs.List.{range_with_len}
use Rattle.std.proofs.lemmas.List.{get_or_append_left, get_or-take, length-replicate}
use Rattle.field.specs.Laws.{Ops}
use Rattle.algebra.specs.Codes.{dot}
use Rattle.algebra.specs.Flat.{cell}
use Rattle.algebra.proofs.Cells.{cell_within}
use Rattle.algebra.proofs.Ring.{sum_same}
use Rattle.piece.specs.Pieces.{entry, listed}
use Rattle.piece.specs.Reading.{count}
use Rattle.piece.proofs.Octets.{length_listed, get_d_listed, listed_is}
use Rattle.piece.proofs.Ranges.{columns_few}
use Rattle.collection.specs.declared.book.Book.{Book}
use Rattle.collection.specs.Back.{Brought}
use Rattle.collection.specs.Books.{first_in, SymbolsBelow, head_of, in_closed, in_open, places, solution, solved_at, stride, taken_at}
use Rattle.collection.specs.Closing.{Closes}
use Rattle.collection.specs.Collected.{For, Taken, nothing}
use Rattle.collection.proofs.Books.{map_same, open_field, open_many, open_needed}
use Rattle.collection.proofs.Growing.{work_suffices}

-- the rows take this much of the work, and are no longer than a scratch row
pub rows_fit : (b : Book) → places b * stride b ≤ 4623
rows_fit b = work_suffices (places b) (first_in b).length b.some b.needed b.short

pub row_fits_scratch : (b : Book) → stride b ≤ 4112
row_fits_scratch b = let c = columns_few (places b) (first_in b).length b.some 4096 b.short in omega (arith, b.needed)

-- the front of a scratch array
pub scratch_length : (n k : ℕ) → k ≤ n → length {A = ℕ} (take k (replicate n 0)) ≡ k
scratch_length n k h =
    let zeros : List ℕ = replicate n 0 in
    let l : length zeros ≡ n = length-replicate {A = ℕ} n 0 in
    length-take-le k zeros (omega arith)

-- a collection that can be closed is full
module _ {K : Ops} (b : Book) (work : List ℕ) (closes : Closes K (in_open b work)) where
  pub closes_full : b.have ≡ places b
  closes_full = omega (arith, closes.enough, open_many b work, open_needed b work, b.few)

  pub closes_field : For K b.field
  closes_field = subst (For K) (open_field b work) closes.field

-- the front of the work
module _ (b : Book) (work : List ℕ) (p : ℕ) (ep : p ≡ places b * stride b) (fits : p ≤ length work) where
  front_cell : (t c : ℕ) → t < places b → c < stride b → cell (stride b) (take p work) t c ≡ cell (stride b) work t c
  unfolding cell
  front_cell t c lt lc = let w = cell_within (places b) (stride b) t c lt lc in get_or-take p work (t * stride b + c) 0 (omega arith)

  pub front_size : length (take p work) ≡ places b * stride b
  front_size = length-take-le p work fits ∙ ep

  pub front_below : b.have ≡ places b → SymbolsBelow b work → SymbolsBelow b (take p work)
  front_below full codes t k lt lk = subst (λ (x : ℕ). x < b.field.order) (sym (front_cell t (places b + k) (omega arith) (omega arith))) (codes t k lt lk)

  -- other rows in their place
  module _ (rows : List ℕ) (size : length rows ≡ length (take p work)) where
    abbrev after : List ℕ
    after = rows ++ drop p work

    after_cell : (t c : ℕ) → t < places b → c < stride b → cell (stride b) after t c ≡ cell (stride b) rows t c
    unfolding cell
    after_cell t c lt lc =
        let w = cell_within (places b) (stride b) t c lt lc in
        let l : t * stride b + c < length rows = omega (arith, front_size) in
        get_or_append_left rows (drop p work) 0 (t * stride b + c) l

    pub after_length : length after ≡ length work
    after_length =
        let d = length-drop p work in
        let a = length-append rows (drop p work) in
        let t = length-take-le p work fits in
        omega arith

    module _ (K : Ops) (full : b.have ≡ places b) (own : For K b.field) (brought : Brought K b (take p work) rows) where
      pub after_below : SymbolsBelow b after
      after_below t k lt lk =
          subst (λ (q : ℕ). cell (stride b) after t (places b + k) < q) (sym own.order)
          (subst (λ (x : ℕ). x < K.order) (sym (after_cell t (places b + k) (omega arith) (omega arith))) (brought.below t k (omega arith) lk))

      -- the symbols that the columns give are those of the pieces
      given : (t k : ℕ) → t < places b → k < count (first_in b)
          → dot K (places b) (entry K (first_in b).settings (get_or b.numbers t 0)) (solution b after k) ≡ cell (stride b) work t (places b + k)
      given t k lt lk =
          sum_same 0 K.add (places b) _ _ (λ j l. ap (λ (x : ℕ). K.mul (entry K (first_in b).settings (get_or b.numbers t 0) j) x) (after_cell j (places b + k) l (omega arith)))
          ∙ (brought.gives t k lt lk ∙ front_cell t (places b + k) lt (omega arith))

      same_piece : (t : ℕ) → t < b.have → solved_at K b after t ≡ taken_at b work t
      unfolding solved_at taken_at
      same_piece t lt =
          let n : ℕ = count (first_in b) in
          let f : ℕ → ℕ = λ k. dot K (places b) (entry K (first_in b).settings (get_or b.numbers t 0)) (solution b after k) in
          let g : ℕ → ℕ = λ k. cell (stride b) work t (places b + k) in
          let same : listed n f ≡ listed n g = listed_is (listed n f) n g (length_listed n f) (λ k lk. get_d_listed n f k lk ∙ given t k (omega arith) lk) in
          ap (λ (xs : List ℕ). record { header = head_of b t; symbols = xs }) same

      pub closed_same : in_closed K b after ≡ in_open b work
      unfolding in_closed in_open
      closed_same =
          ap (λ (n : ℕ). record { field = b.field; room = n; taken = map (solved_at K b after) (range_with_len 0 b.have) }) after_length
          ∙ ap (λ (ps : List Taken). record { field = b.field; room = length work; taken = ps }) (map_same b.have nothing (solved_at K b after) (taken_at b work) same_piece)
