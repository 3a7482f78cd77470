-- Laying a job out by place. Assumes nothing.
use Rattle.std.proofs.Common.{◌≡◌, ℕ, zero, suc, ◌+◌, ◌-◌, ◌*◌, ◌/◌, ◌%◌, ◌<◌, ◌≤◌, List, length, get_or, take, replicate, sym, refl, ap, ◌∙◌, subst, mod-lt, div-lt_iff_lt-mul, add-mul, one-mul, div-add-mod', arith, lit<, length-take-le}
use native.Mathlib.Decide.{dec_lt, ℕ_discrete}
use borrow.Rule.Slice.PartMut.{put_mid}
use lib.ListN.{length-replicate}
use Rattle.field.proofs.Parts.{put_before, put_inside, put_behind}
use Rattle.field.proofs.Rows.{row_fits, row_within, place_within}
use Rattle.std.proofs.lemmas.List.{get_or_past}
use Rattle.piece.specs.Layouts.{Filled}
use Rattle.piece.specs.Pieces.{place, listed}
use Rattle.piece.proofs.Octets.{listed_is}
use Rattle.piece.proofs.Ranges.{columns_reach}

-- the rows of the places before j are laid out, and what stands behind them is as it was
pub record LaidTo (m columns : ℕ) (job : List ℕ) (j : ℕ) (start cells : List ℕ) : Type 0 where
  pub laid : (i k : ℕ) → i < j → k < columns → get_or cells (i * columns + k) 0 ≡ place m job k i
  pub rest : (i : ℕ) → j * columns ≤ i → get_or cells i 0 ≡ get_or start i 0

next_row : (j w : ℕ) → (j + 1) * w ≡ j * w + w
next_row j w = add-mul j 1 w ∙ ap (λ (x : ℕ). j * w + x) (one-mul w)

pub laid_next : (m columns : ℕ) (job start cells row : List ℕ) (j : ℕ) → j * columns + columns ≤ length cells → length row ≡ columns
    → LaidTo m columns job j start cells → ((k : ℕ) → k < columns → get_or row k 0 ≡ place m job k j)
    → LaidTo m columns job (j + 1) start (put_mid (j * columns) (j * columns + columns - j * columns) cells row)
laid_next m columns job start cells row j room l g v = record {
  laid = λ i k h lk. elim (ℕ_discrete i j) [
    | yes e ↦
        let inside : j * columns + k < j * columns + columns = omega arith in
        let s : j * columns + k - j * columns ≡ k = omega arith in
        ap (λ (n : ℕ). get_or (put_mid (j * columns) (j * columns + columns - j * columns) cells row) (n * columns + k) 0) e
        ∙ put_inside cells row (j * columns) columns room l (j * columns + k) (omega arith) inside
        ∙ ap (λ (n : ℕ). get_or row n 0) s ∙ v k lk ∙ ap (place m job k) (sym e)
    | no n ↦
        let t = row_fits i j columns (omega arith) in
        put_before cells row (j * columns) columns room l (i * columns + k) (omega arith) ∙ g.laid i k (omega arith) lk
  ];
  rest = λ i h.
      let b : j * columns + columns ≤ i = subst (λ (x : ℕ). x ≤ i) (next_row j columns) h in
      put_behind cells row (j * columns) columns room l i b ∙ g.rest i (omega arith);
}

-- the rows of all m places of a job of this length, in so many columns, over cells that were zeros
module _ (m len columns : ℕ) (job start cells : List ℕ) (some : 1 ≤ m) (l : length job ≡ len) (many : columns ≡ (len + (m - 1)) / m)
    (laid : (k j : ℕ) → k < columns → j < m → get_or cells (j * columns + k) 0 ≡ place m job k j)
    (rest : (i : ℕ) → m * columns ≤ i → get_or cells i 0 ≡ get_or start i 0) where
  -- symbol i stands at the place i % m of the column i / m
  symbol : (i : ℕ) → i < columns * m → get_or cells (i % m * columns + i / m) 0 ≡ get_or job i 0
  symbol i h = laid (i / m) (i % m) ((div-lt_iff_lt-mul {k = m} (omega arith)).1 h) (mod-lt i (omega arith)) ∙ ap (λ (n : ℕ). get_or job n 0) (div-add-mod' i m)

  pub filled : Filled m len columns cells
  filled i a h = symbol i h ∙ get_or_past job i 0 (omega arith)

  pub job_back : listed len (λ i. get_or cells (i % m * columns + i / m) 0) ≡ job
  job_back =
      let reach : len ≤ columns * m = rw many (columns_reach m len some) in
      sym (listed_is job len _ l (λ i h. sym (symbol i (omega arith))))

  pub bytes : ((i : ℕ) → get_or job i 0 < 256) → ((i : ℕ) → get_or start i 0 ≡ 0) → (i : ℕ) → get_or cells i 0 < 256
  bytes b z i = elim (dec_lt i (m * columns)) [
    | yes h ↦
        subst (λ (n : ℕ). n < 256)
        (sym (ap (λ (n : ℕ). get_or cells n 0) (sym (div-add-mod' i columns)) ∙ laid (i % columns) (i / columns) (place_within i m columns h) (row_within i m columns h)))
        (b (i % columns * m + i / columns))
    | no h ↦ subst (λ (n : ℕ). n < 256) (sym (rest i (omega arith) ∙ z i)) (lit< tt)
  ]

abbrev pub zeros : ℕ → List ℕ
zeros n = replicate n 0

-- zeros, also past their end
pub zeros_at : (n i : ℕ) → get_or (zeros n) i 0 ≡ 0
zeros_at zero i = refl
zeros_at (suc n) zero = refl
zeros_at (suc n) (suc i) = zeros_at n i

-- the front of a scratch array
pub front_length : (n k : ℕ) → k ≤ n → length (take (k - 0) (zeros n)) ≡ k
front_length n k h =
    let l = length-replicate {A = ℕ} n 0 in
    let fits : k - 0 ≤ length (zeros n) = omega arith in
    length-take-le (k - 0) (zeros n) fits ∙ omega arith
