-- The symbols of a job in the rows of a closed collection. Assumes nothing.
use Rattle.std.proofs.Common.{◌≡◌, ℕ, ◌+◌, ◌-◌, ◌*◌, ◌/◌, ◌%◌, ◌<◌, ◌≤◌, Bool, true, false, cond, ltb, ◌≢◌, List, length, get_or, set, sym, refl, ap, ◌∙◌, subst, mod-lt, div-lt_iff_lt-mul, div-add-mod', arith, length-set, get_or-set_other, get_or-set_same, ltb-true, lt-ltb}
use native.Mathlib.Decide.{dec_lt, ℕ_discrete}
use lib.Arith.{digits_div, digits_mod}
use Rattle.algebra.specs.Flat.{cell}
use Rattle.piece.specs.Reading.{count}
use Rattle.piece.proofs.Octets.{listed_is}
use Rattle.collection.specs.declared.book.Book.{Book}
use Rattle.collection.specs.Back.{InRow, Symbol, full_length_at, job_in}
use Rattle.collection.specs.Books.{first_in, places, solution, stride}

-- a symbol at the place j belongs to the job where its column is one of the first
module _ (len m j : ℕ) (within : j < m) where
  pub full_if : (k : ℕ) → k * m + j < len → k < full_length_at len m j
  full_if k l = elim (dec_lt k (full_length_at len m j)) [
    | yes y ↦ y
    | no n ↦
        let d : full_length_at len m j < k + 1 = omega arith in
        let b : len + (m - 1 - j) < (k + 1) * m = (div-lt_iff_lt-mul {k = m} (omega arith)).0 d in
        absurd (omega arith)
  ]

  pub full_only : (k : ℕ) → k < full_length_at len m j → k * m + j < len
  full_only k l = elim (dec_lt (k * m + j) len) [
    | yes y ↦ y
    | no n ↦
        let b : len + (m - 1 - j) < (k + 1) * m = omega arith in
        let d : full_length_at len m j < k + 1 = (div-lt_iff_lt-mul {k = m} (omega arith)).1 b in
        absurd (omega arith)
  ]

  -- no place has more symbols than there are columns
  pub full_columns : full_length_at len m j ≤ (len + (m - 1)) / m
  full_columns = elim (dec_lt ((len + (m - 1)) / m) (full_length_at len m j)) [
    | yes y ↦
        let n : ℕ = (len + (m - 1)) / m in
        let l = full_only n y in
        let b : len + (m - 1) < (n + 1) * m = (div-lt_iff_lt-mul {k = m} (omega arith)).0 (omega arith) in
        absurd (omega arith)
    | no n ↦ omega arith
  ]

-- what a row may have at most
most_full : (k full v : ℕ) → k < full → v ≤ cond (ltb k full) 255 0 → v < 256
most_full k full v l h = let e = lt-ltb k full l in let z : v ≤ 255 = subst (λ (t : Bool). v ≤ cond t 255 0) e h in omega arith

most_rest : (t : Bool) (k full v : ℕ) → ltb k full ≡ t → full ≤ k → v ≤ cond t 255 0 → v ≡ 0
most_rest true k full v e l h = absurd (omega (arith, ltb-true k full e))
most_rest false k full v e l h = omega arith

-- a row is in order exactly where its symbols are
module _ (b : Book) (rows row : List ℕ) (j : ℕ) (within : j < places b) (size : length row ≡ count (first_in b))
    (same : (k : ℕ) → k < count (first_in b) → get_or row k 0 ≡ solution b rows k j) where
  abbrev full : ℕ
  full = full_length_at (first_in b).length (places b) j

  pub row_symbols : InRow full row → (k : ℕ) → k < count (first_in b) → Symbol (first_in b).length (places b) k j (solution b rows k j)
  row_symbols h k l =
      let e = same k l in
      let v : get_or row k 0 ≤ cond (ltb k full) 255 0 = h k (omega arith) in
      record {
        byte = λ lt. subst (λ (x : ℕ). x < 256) e (most_full k full (get_or row k 0) (full_if (first_in b).length (places b) j within k lt) v);
        zero = λ le. sym e ∙ most_rest (ltb k full) k full (get_or row k 0) refl
            (elim (dec_lt k full) [ yes y ↦ absurd (omega (arith, full_only (first_in b).length (places b) j within k y)) | no n ↦ omega arith ]) v;
      }

-- the first k symbols of a row were written
pub record RowTo (m j k : ℕ) (row start job : List ℕ) : Type 0 where
  pub size : length job ≡ length start
  pub here : (i : ℕ) → i < k → get_or job (i * m + j) 0 ≡ get_or row i 0
  pub rest : (i : ℕ) → i % m ≢ j → get_or job i 0 ≡ get_or start i 0

pub row_more : (m j k : ℕ) (row start job : List ℕ) → j < m → k * m + j < length job → RowTo m j k row start job
    → RowTo m j (k + 1) row start (set job (k * m + j) (get_or row k 0))
row_more m j k row start job lj within h = record {
  size = length-set job (k * m + j) (get_or row k 0) ∙ h.size;
  here = λ i l. elim (ℕ_discrete i k) [
    | yes e ↦ subst (λ (x : ℕ). get_or (set job (k * m + j) (get_or row k 0)) (x * m + j) 0 ≡ get_or row x 0) (sym e) (get_or-set_same job (k * m + j) (get_or row k 0) 0 within)
    | no n ↦
        let m' : i * m + j ≢ k * m + j = λ e. n (sym (digits_div i lj) ∙ (ap (λ (x : ℕ). x / m) e ∙ digits_div k lj)) in
        get_or-set_other job (k * m + j) (i * m + j) (get_or row k 0) 0 m' ∙ h.here i (omega arith)
  ];
  rest = λ i n.
      let m' : i ≢ k * m + j = λ e. n (ap (λ (x : ℕ). x % m) e ∙ digits_mod k lj) in
      get_or-set_other job (k * m + j) i (get_or row k 0) 0 m' ∙ h.rest i n;
}

-- the symbols at the first j places were written
pub record JobTo (b : Book) (rows : List ℕ) (j : ℕ) (job : List ℕ) : Type 0 where
  pub size : length job ≡ (first_in b).length
  pub here : (i : ℕ) → i < (first_in b).length → i % places b < j → get_or job i 0 ≡ solution b rows (i / places b) (i % places b)

pub job_more : (b : Book) (rows row job after : List ℕ) (j : ℕ) → j < places b → length row ≡ full_length_at (first_in b).length (places b) j
    → ((k : ℕ) → k < length row → get_or row k 0 ≡ solution b rows k j) → length after ≡ length job
    → ((k : ℕ) → k < length row → get_or after (k * places b + j) 0 ≡ get_or row k 0)
    → ((i : ℕ) → i % places b ≢ j → get_or after i 0 ≡ get_or job i 0)
    → JobTo b rows j job → JobTo b rows (j + 1) after
job_more b rows row job after j lj size same len here rest h = record {
  size = len ∙ h.size;
  here = λ i l lm. elim (ℕ_discrete (i % places b) j) [
    | yes e ↦
        let m : ℕ = places b in
        let k : ℕ = i / m in
        let d : k * m + i % m ≡ i = div-add-mod' i m in
        let q : k * m + j ≡ i = ap (λ (x : ℕ). k * m + x) (sym e) ∙ d in
        let lk : k < length row = subst (λ (n : ℕ). k < n) (sym size) (full_if (first_in b).length m j lj k (omega arith)) in
        ap (λ (x : ℕ). get_or after x 0) (sym q) ∙ (here k lk ∙ (same k lk ∙ ap (λ (x : ℕ). solution b rows k x) (sym e)))
    | no n ↦ rest i n ∙ h.here i l (omega arith)
  ];
}

pub job_all : (b : Book) (rows job : List ℕ) (j : ℕ) → j ≡ places b → JobTo b rows j job → job ≡ job_in b rows
job_all b rows job j e h =
    listed_is job (first_in b).length (λ i. solution b rows (i / places b) (i % places b)) h.size
    (λ i l. h.here i l (let w = mod-lt i {m = places b} (omega (arith, b.some)) in omega arith))

-- where the symbols of a row stand
module _ (b : Book) (rows : List ℕ) (m n j : ℕ) (em : m ≡ places b) (en : n ≡ count (first_in b)) where
  pub row_place : (k : ℕ) → get_or rows (j * (m + n) + m + k) 0 ≡ solution b rows k j
  unfolding cell
  row_place k =
      let e : j * (m + n) + m + k ≡ j * stride b + (places b + k)
      = ap (λ (x : ℕ). j * (x + n) + x + k) em ∙ (ap (λ (x : ℕ). j * (places b + x) + places b + k) en ∙ omega arith) in
      ap (λ (i : ℕ). get_or rows i 0) e

-- the rows of the first j places are in order
pub record WholeTo (b : Book) (rows : List ℕ) (j : ℕ) : Type 0 where
  pub to : (i k : ℕ) → i < j → k < count (first_in b) → Symbol (first_in b).length (places b) k i (solution b rows k i)

pub whole_more : (b : Book) (rows : List ℕ) (j : ℕ) → ((k : ℕ) → k < count (first_in b) → Symbol (first_in b).length (places b) k j (solution b rows k j))
    → WholeTo b rows j → WholeTo b rows (j + 1)
whole_more b rows j here h = record {
  to = λ i k li lk. elim (ℕ_discrete i j) [
    | yes e ↦ subst (λ (x : ℕ). Symbol (first_in b).length (places b) k x (solution b rows k x)) (sym e) (here k lk)
    | no n ↦ h.to i k (omega arith) lk
  ];
}

-- how many symbols a row has, as it is computed
pub full_same : (b : Book) (len m j full : ℕ) → len ≡ (first_in b).length → m ≡ places b → full ≡ full_length_at len m j → full ≡ full_length_at (first_in b).length (places b) j
full_same b len m j full el em e = e ∙ (ap (λ (x : ℕ). full_length_at x m j) el ∙ ap (λ (x : ℕ). full_length_at (first_in b).length x j) em)
