-- The symbols of a job that is laid out, and the values of its pieces. Assumes nothing.
use Rattle.std.proofs.Common.{◌≡◌, ℕ, ◌+◌, ◌*◌, ◌/◌, ◌%◌, ◌<◌, List, length, get_or, take, sym, ap, ◌∙◌, subst, ap₂, arith}
use native.Mathlib.Decide.{dec_lt}
use lib.Arith.{digits_div, digits_mod, digits_lt}
use Rattle.std.proofs.lemmas.List.{get_or_past, get_or-take}
use Rattle.field.specs.Laws.{Ops}
use Rattle.field.specs.Rows.{combination}
use Rattle.field.specs.Sums.{sum}
use Rattle.algebra.proofs.Ring.{sum_same}
use Rattle.piece.specs.Schemes.{as_settings}
use Rattle.piece.specs.declared.layout.Layout.{Layout}
use Rattle.piece.specs.Cutting.{job_of}
use Rattle.piece.specs.Pieces.{entry, place, value, listed}
use Rattle.piece.proofs.Octets.{length_listed, get_d_listed}

pub job_length : (L : Layout) → length (job_of L) ≡ L.length
unfolding job_of
job_length L = length_listed L.length _

-- the symbol at the place j of the column k stands in the row j
pub place_cell : (L : Layout) (k j : ℕ) → k < L.columns → j < L.scheme.m → place L.scheme.m (job_of L) k j ≡ get_or L.cells (j * L.columns + k) 0
unfolding job_of
place_cell L k j hk hj =
    let m : ℕ = L.scheme.m in
    let i : ℕ = k * m + j in
    let column : i / m ≡ k = digits_div k hj in
    let row : i % m ≡ j = digits_mod k hj in
    let there : get_or L.cells (i % m * L.columns + i / m) 0 ≡ get_or L.cells (j * L.columns + k) 0
    = ap₂ (λ (a b : ℕ). get_or L.cells (a * L.columns + b) 0) row column in
    elim (dec_lt i L.length) [
      | yes h ↦ get_d_listed L.length _ i h ∙ there
      | no h ↦
          let s = length_listed L.length (λ n. get_or L.cells (n % m * L.columns + n / m) 0) in
          get_or_past (listed L.length (λ n. get_or L.cells (n % m * L.columns + n / m) 0)) i 0 (omega arith)
          ∙ sym (L.filled i (omega arith) (digits_lt hk hj)) ∙ there
    ]

-- the combination of the rows by the entries of a piece is its value
pub combined_value : (K : Ops) (L : Layout) (number k n : ℕ) (factors rows : List ℕ) → n ≡ L.scheme.m * L.columns → rows ≡ take n L.cells
    → length factors ≡ L.scheme.m → ((j : ℕ) → j < L.scheme.m → get_or factors j 0 ≡ entry K (as_settings L.scheme) number j) → k < L.columns
    → combination K L.columns rows factors k ≡ value K (as_settings L.scheme) (job_of L) number k
unfolding value
combined_value K L number k n factors rows en er lf ef h =
    ap (λ (m : ℕ). sum 0 K.add m (λ j. K.mul (get_or factors j 0) (get_or rows (j * L.columns + k) 0))) lf
    ∙ sum_same 0 K.add L.scheme.m _ _ (λ j l.
    let in-front : j * L.columns + k < n = subst (λ (x : ℕ). j * L.columns + k < x) (sym en) (digits_lt l h) in
    ap₂ K.mul (ef j l) (ap (λ (xs : List ℕ). get_or xs (j * L.columns + k) 0) er ∙ get_or-take n L.cells (j * L.columns + k) 0 in-front ∙ sym (place_cell L k j h l)))
