-- Which job has the pieces of a closed collection: the one that its rows hold, or none. Assumes nothing.
use Rattle.std.proofs.Common.{◌≡◌, ℕ, ◌+◌, ◌-◌, ◌*◌, ◌/◌, ◌%◌, ◌<◌, ◌≤◌, List, length, get_or, sym, ap, ◌∙◌, subst, ap₂, mod-lt, div-add-mod', arith}
use native.Mathlib.Decide.{dec_lt}
use lib.Arith.{digits_div, digits_mod}
use Rattle.std.proofs.lemmas.List.{get_or_past}
use Rattle.field.specs.Laws.{Ops, FieldLaws, Bounds}
use Rattle.field.proofs.Bounds.{byte_is_a_code}
use Rattle.algebra.specs.Codes.{dot}
use Rattle.algebra.proofs.Ring.{sum_same}
use Rattle.piece.specs.Layouts.{Bytes}
use Rattle.piece.specs.Pieces.{body, columns, entry, listed, place, value}
use Rattle.piece.specs.Reading.{count}
use Rattle.piece.proofs.Exact.{byte_at}
use Rattle.piece.proofs.Octets.{get_d_listed, length_listed, listed_is}
use Rattle.piece.proofs.Ranges.{column_within}
use Rattle.collection.specs.declared.book.Book.{Book}
use Rattle.collection.specs.Back.{Whole, job_in}
use Rattle.collection.specs.Books.{first_in, SymbolsBelow, in_closed, places, solution, solved_at}
use Rattle.collection.specs.Collected.{Collected, For, piece_at}
use Rattle.collection.specs.HandingOver.{Fits, HasPiece}
use Rattle.collection.proofs.Books.{closed_many, closed_piece}
use Rattle.collection.proofs.Bringing.{full_differ, full_within}
use Rattle.collection.proofs.Entering.{book_lawful}
use Rattle.collection.proofs.Independent.{one_column}

module _ {K : Ops} (L : FieldLaws K) (B : Bounds K) (b : Book) (work : List ℕ) (own : For K b.field) (full : b.have ≡ places b) (codes : SymbolsBelow b work) where
  abbrev C : Collected
  C = in_closed K b work

  solution_code : (k : ℕ) → k < count (first_in b) → (j : ℕ) → j < places b → solution b work k j < K.order
  solution_code k lk j lj = subst (λ (q : ℕ). solution b work k j < q) own.order (codes j k (omega arith) lk)

  -- the symbols of the piece t, as the columns give them
  given : ℕ → ℕ → ℕ
  given t k = dot K (places b) (entry K (first_in b).settings (get_or b.numbers t 0)) (solution b work k)

  -- that a job has the piece t says that it gives these symbols
  module _ (job : List ℕ) (long : length job ≡ (first_in b).length) where
    same_columns : columns (places b) job ≡ count (first_in b)
    same_columns = ap (λ (n : ℕ). (n + (places b - 1)) / places b) long

    gives_same : (t : ℕ) → t < b.have → HasPiece K job (piece_at C t) → (k : ℕ) → k < count (first_in b)
        → dot K (places b) (entry K (first_in b).settings (get_or b.numbers t 0)) (place (places b) job k) ≡ given t k
    unfolding solved_at value given
    gives_same t lt has k lk =
        let n : ℕ = count (first_in b) in
        let h : HasPiece K job (solved_at K b work t) = subst (HasPiece K job) (closed_piece K b work t lt) has in
        let i : ℕ = get_or b.numbers t 0 in
        let there : get_or (listed n (given t)) k 0 ≡ get_or (body K (first_in b).settings job i) k 0 = ap (λ (xs : List ℕ). get_or xs k 0) h.symbols in
        sym (get_d_listed (columns (places b) job) (value K (first_in b).settings job i) k (omega (arith, same_columns))) ∙ (sym there ∙ get_d_listed n (given t) k lk)

    has_piece : (t : ℕ) → t < b.have → ((k : ℕ) → k < count (first_in b) → (j : ℕ) → j < places b → place (places b) job k j ≡ solution b work k j)
        → HasPiece K job (piece_at C t)
    unfolding solved_at value given
    has_piece t lt same =
        let n : ℕ = count (first_in b) in
        let i : ℕ = get_or b.numbers t 0 in
        let S = (first_in b).settings in
        let symbols : listed n (given t) ≡ body K S job i = listed_is (listed n (given t)) (columns (places b) job) (value K S job i) (length_listed n (given t) ∙ sym same_columns)
        (λ k l. let lk : k < n = omega (arith, same_columns) in
        get_d_listed n (given t) k lk ∙ sum_same 0 K.add (places b) _ _ (λ j lj. ap (λ (x : ℕ). K.mul (entry K S i j) x) (sym (same k lk j lj)))) in
        subst (HasPiece K job) (sym (closed_piece K b work t lt)) (record { long = long; symbols = symbols })

  -- the columns of a job that has all pieces are the solution
  module _ (job : List ℕ) (fits : Fits K C job) where
    some : 1 ≤ b.have
    some = omega (arith, b.some)

    fits_long : length job ≡ (first_in b).length
    unfolding solved_at
    fits_long = (subst (HasPiece K job) (closed_piece K b work 0 some) (fits.has 0 (omega (arith, some, closed_many K b work)))).long

    fits_column : (k : ℕ) → k < count (first_in b) → (j : ℕ) → j < places b → place (places b) job k j ≡ solution b work k j
    unfolding given
    fits_column k lk =
        one_column L B (first_in b).settings (book_lawful b) (λ t. get_or b.numbers t 0) (full_within b full) (full_differ b full)
        (place (places b) job k) (solution b work k)
        (λ j lj. byte_is_a_code B _ (byte_at job fits.bytes (k * places b + j)))
        (λ j lj. solution_code k lk j lj)
        (λ t lt. gives_same job fits_long t (omega arith) (fits.has t (omega (arith, closed_many K b work))) k lk)

    pub fits_whole : Whole b work
    fits_whole j k lj lk =
        let e = fits_column k lk j lj in
        record {
          byte = λ l. subst (λ (x : ℕ). x < 256) e (byte_at job fits.bytes (k * places b + j));
          zero = λ l. sym e ∙ get_or_past job (k * places b + j) 0 (omega (arith, fits_long));
        }

    pub fits_only : job ≡ job_in b work
    fits_only =
        listed_is job (first_in b).length (λ i. solution b work (i / places b) (i % places b)) fits_long
        (λ i l.
        let m : ℕ = places b in
        let d : i / m * m + i % m ≡ i = div-add-mod' i m in
        let w = mod-lt i {m = m} (omega (arith, b.some)) in
        ap (λ (x : ℕ). get_or job x 0) (sym d) ∙ fits_column (i / m) (column_within m (first_in b).length b.some i l) (i % m) w)

  -- where the rows hold a job, it has all pieces
  module _ (whole : Whole b work) where
    abbrev job : List ℕ
    job = job_in b work

    job_long : length job ≡ (first_in b).length
    job_long = length_listed (first_in b).length _

    at_place : (k j : ℕ) → k < count (first_in b) → j < places b → place (places b) job k j ≡ solution b work k j
    at_place k j lk lj =
        let m : ℕ = places b in
        let i : ℕ = k * m + j in
        elim (dec_lt i (first_in b).length) [
          | yes l ↦ get_d_listed (first_in b).length _ i l ∙ ap₂ (λ (x y : ℕ). solution b work x y) (digits_div k lj) (digits_mod k lj)
          | no n ↦ get_or_past job i 0 (omega (arith, job_long)) ∙ sym ((whole j k lj lk).zero (omega arith))
        ]

    job_bytes : Bytes job
    job_bytes i l =
        let m : ℕ = places b in
        let li : i < (first_in b).length = omega (arith, job_long) in
        let d : i / m * m + i % m ≡ i = div-add-mod' i m in
        let w = mod-lt i {m = m} (omega (arith, b.some)) in
        let lk = column_within m (first_in b).length b.some i li in
        subst (λ (x : ℕ). x < 256) (sym (get_d_listed (first_in b).length _ i li)) ((whole (i % m) (i / m) w lk).byte (omega arith))

    pub whole_fits : Fits K C job
    whole_fits = record {
      bytes = job_bytes;
      has = λ t l. has_piece job job_long t (omega (arith, closed_many K b work)) (λ k lk j lj. at_place k j lk lj);
    }
