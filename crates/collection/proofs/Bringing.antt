-- The rows of the pieces brought back to rows of the job. Assumes nothing.
use Rattle.std.proofs.Common.{◌≡◌, ℕ, ◌+◌, ◌-◌, ◌*◌, ◌<◌, ◌≤◌, List, length, get_or, sym, refl, ap, ◌∙◌, subst, arith}
use native.Mathlib.Decide.{dec_lt}
use Rattle.field.specs.Laws.{Ops, FieldLaws, Bounds}
use Rattle.algebra.specs.Codes.{Regular, Rows, dot}
use Rattle.algebra.specs.Field.{Distinct}
use Rattle.algebra.specs.Flat.{Eliminated, Grid, cell}
use Rattle.algebra.proofs.Ring.{sum_same}
use Rattle.piece.specs.Pieces.{entry}
use Rattle.piece.specs.Reading.{count}
use Rattle.collection.specs.declared.book.Book.{Book}
use Rattle.collection.specs.Back.{Brought, Entered}
use Rattle.collection.specs.Books.{first_in, SymbolsBelow, places, solution, stride}
use Rattle.collection.specs.Collected.{For}
use Rattle.collection.proofs.Entering.{book_lawful}
use Rattle.collection.proofs.Independent.{entries_regular, entries_rows}

-- the numbers of a full book
module _ (b : Book) (full : b.have ≡ places b) where
  pub full_within : (t : ℕ) → t < places b → (1 ≤ get_or b.numbers t 0) × (get_or b.numbers t 0 ≤ (first_in b).settings.n)
  full_within t l = b.within t (omega arith)

  pub full_differ : Distinct (places b) (λ t. get_or b.numbers t 0)
  full_differ i j li lj n e = elim (dec_lt i j) [
    | yes l ↦ b.differ i j (l, omega arith) e
    | no g ↦ b.differ j i (omega arith, omega arith) (sym e)
  ]

module _ {K : Ops} (L : FieldLaws K) (B : Bounds K) (b : Book) (own : For K b.field) (full : b.have ≡ places b) (before rows : List ℕ)
    (size : length before ≡ places b * stride b) (codes : SymbolsBelow b before) (entered : Entered K b before rows) where
  A : ℕ → ℕ → ℕ
  A t = entry K (first_in b).settings (get_or b.numbers t 0)

  rows_of : Rows K.order (places b) (places b) A
  unfolding A
  rows_of = entries_rows L B (first_in b).settings (book_lawful b) (λ t. get_or b.numbers t 0) (full_within b full) (full_differ b full)

  pub entered_grid : Grid K.order (places b) (stride b) rows
  unfolding A
  entered_grid = record {
    size = entered.size ∙ size;
    below = λ t lt c lc. elim (dec_lt c (places b)) [
      | yes l ↦ subst (λ (x : ℕ). x < K.order) (sym (entered.entries t c lt l)) (rows_of t lt c l)
      | no n ↦
          let k : c - places b < count (first_in b) = omega arith in
          let e : places b + (c - places b) ≡ c = omega arith in
          subst (λ (x : ℕ). cell (stride b) rows t x < K.order) e
          (subst (λ (x : ℕ). x < K.order) (sym (entered.symbols t (c - places b) lt k))
          (subst (λ (q : ℕ). cell (stride b) before t (places b + (c - places b)) < q) own.order (codes t (c - places b) (omega arith) k)))
    ];
  }

  -- the products with the coefficients in the rows are those with the entries
  same_dot : (t : ℕ) → t < places b → (x : ℕ → ℕ) → dot K (places b) (cell (stride b) rows t) x ≡ dot K (places b) (A t) x
  unfolding A
  same_dot t lt x = sum_same 0 K.add (places b) _ _ (λ j l. ap (λ (u : ℕ). K.mul u (x j)) (entered.entries t j lt l))

  pub entered_regular : Regular K (places b) (cell (stride b) rows)
  unfolding A
  entered_regular x bx zero =
      entries_regular L B (first_in b).settings (book_lawful b) (λ t. get_or b.numbers t 0) (full_within b full) (full_differ b full) x bx
      (λ t lt. sym (same_dot t lt x) ∙ zero t lt)

  pub brought : (after : List ℕ) → Eliminated K (places b) (stride b) rows after → Brought K b before after
  unfolding A
  brought after done = record {
    below = λ j k lj lk. done.grid.below j lj (places b + k) (omega arith);
    gives = λ t k lt lk.
        let x : ℕ → ℕ = solution b after k in
        let solves = (done.solved (places b + k) (omega arith) (omega arith) x (λ j lj. done.grid.below j lj (places b + k) (omega arith))).1 (λ j lj. refl) in
        sym (same_dot t lt x) ∙ (solves t lt ∙ entered.symbols t k lt lk);
  }
