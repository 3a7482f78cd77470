-- Rows cut from one list, each beside its factor: what is left after some pairs were taken. Assumes nothing.
use Rattle.std.proofs.Common.{◌≡◌, ℕ, suc, ◌+◌, ◌-◌, ◌*◌, ◌<◌, ◌≤◌, List, ◌∷◌, ◌++◌, length, get_or, drop, sym, ap, ◌∙◌, arith, suc-mul, add-one, zero-mul}
use native.Mathlib.Decide.{dec_lt}
use mathlib.Core.Logic.{◌⊎◌, inl, inr}
use Rattle.std.proofs.lemmas.List.{drop-drop, drop_at, length-drop, get_or-drop, get_or_append_left}
use Rattle.field.proofs.Rows.{row_fits}

-- after n pairs the chunks, each size places, begin at the row n, and the rest of the factors at the n-th
pub record PairsLeft (rows factors : List ℕ) (w n size : ℕ) (chunks rest : List ℕ) : Type 0 where
  pub width : size ≡ w
  pub within : n ≤ length factors
  pub rows_left : chunks ≡ drop (n * w) rows
  pub factors_left : rest ≡ drop n factors

pub pairs_start : {rows factors : List ℕ} {w size : ℕ} {chunks rest : List ℕ} → size ≡ w → chunks ≡ rows → rest ≡ factors → PairsLeft rows factors w 0 size chunks rest
pairs_start {rows} {w = w} e c r = record {
  width = e;
  within = omega arith;
  rows_left = c ∙ sym (ap (λ (i : ℕ). drop i rows) (zero-mul w));
  factors_left = r;
}

-- the next pair is the row n and its factor
pub record NextPair (rows factors : List ℕ) (w n : ℕ) (row : List ℕ) (f size : ℕ) (chunks rest : List ℕ) : Type 0 where
  pub here : n < length factors
  pub width : length row ≡ w
  pub factor : f ≡ get_or factors n 0
  pub row_at : (k : ℕ) → k < w → get_or row k 0 ≡ get_or rows (n * w + k) 0
  pub left : PairsLeft rows factors w (n + 1) size chunks rest

pub next_pair : {rows factors : List ℕ} {w n size : ℕ} {chunks rest : List ℕ} {row : List ℕ} {f size' : ℕ} {chunks' rest' : List ℕ} {R : Type 0}
    → PairsLeft rows factors w n size chunks rest
    → ((size' ≡ size) × ((chunks ≡ row ++ chunks') × (length row ≡ size)) × R) × (rest ≡ f ∷ rest')
    → NextPair rows factors w n row f size' chunks' rest'
next_pair {rows} {factors} {w} {n} {size} {chunks} {rest} {row} {f} {size'} {chunks'} {rest'} p ((e, (ec, el), _), er) =
    let l : length rest ≡ length factors - n = ap length p.factors_left ∙ length-drop n factors in
    let s : length rest ≡ suc (length rest') = ap length er in
    let more : n < length factors = omega arith in
    let wide : length row ≡ w = el ∙ p.width in
    let z : n + 0 ≡ n = omega arith in
    let m : n * w + w ≡ (n + 1) * w = sym (ap (λ (i : ℕ). i * w) (add-one n) ∙ suc-mul n w) in
    record {
      here = more;
      width = wide;
      factor = ap (λ (xs : List ℕ). get_or xs 0 0) (sym er ∙ p.factors_left) ∙ get_or-drop n factors 0 0 ∙ ap (λ (i : ℕ). get_or factors i 0) z;
      row_at = λ k h.
          let b : k < length row = omega arith in
          sym (get_or_append_left row chunks' 0 k b) ∙ ap (λ (xs : List ℕ). get_or xs k 0) (sym ec ∙ p.rows_left) ∙ get_or-drop (n * w) rows k 0;
      left = record {
        width = e ∙ p.width;
        within = omega arith;
        rows_left = sym (drop_at row chunks' w wide) ∙ ap (drop w) (sym ec ∙ p.rows_left) ∙ drop-drop w (n * w) rows ∙ ap (λ (i : ℕ). drop i rows) m;
        factors_left = ap (drop 1) (sym er ∙ p.factors_left) ∙ drop-drop 1 n factors;
      };
    }

-- where a side has come to its end, no factor is left
pub pairs_end : {rows factors : List ℕ} {w n size : ℕ} {chunks rest : List ℕ} → length rows ≡ length factors * w → PairsLeft rows factors w n size chunks rest
    → (length chunks < size) ⊎ (length rest ≡ 0) → n ≡ length factors
pairs_end {rows} {factors} {w} {n} {size} {chunks} s p (inl short) =
    let b = p.within in
    elim (dec_lt n (length factors)) [
      | yes h ↦
          let l : length chunks ≡ length rows - n * w = ap length p.rows_left ∙ length-drop (n * w) rows in
          let fits = row_fits n (length factors) w h in
          absurd (omega (arith, p.width))
      | no h ↦ omega arith
    ]
pairs_end {factors = factors} {n = n} {rest = rest} s p (inr none) =
    let l : length rest ≡ length factors - n = ap length p.factors_left ∙ length-drop n factors in
    let b = p.within in
    omega arith
