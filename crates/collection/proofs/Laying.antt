-- Symbols laid behind the rows that are there. Assumes nothing.
use Rattle.std.proofs.Common.{◌≡◌, ℕ, ◌+◌, ◌-◌, ◌<◌, ◌≤◌, List, length, get_or, ap, ◌∙◌, arith}
use borrow.Rule.Slice.PartMut.{put_mid}
use Rattle.field.proofs.Parts.{put_length, put_before, put_inside}

-- the first k symbols stand from a place on, and what stood before it is as it was
pub record Laid (from k : ℕ) (symbols start work : List ℕ) : Type 0 where
  pub size : length work ≡ length start
  pub before : (i : ℕ) → i < from → get_or work i 0 ≡ get_or start i 0
  pub laid : (i : ℕ) → i < k → get_or work (from + i) 0 ≡ get_or symbols i 0

pub laid_all : (from : ℕ) (symbols start out : List ℕ) → from + length symbols ≤ length start → out ≡ symbols
    → Laid from (length symbols) symbols start (put_mid from (from + length symbols - from) start out)
laid_all from symbols start out room e =
    let n : ℕ = length symbols in
    let size : length out ≡ n = ap length e in
    record {
      size = put_length start out from n room size;
      before = put_before start out from n room size;
      laid = λ i l.
          let z : from + i - from ≡ i = omega arith in
          put_inside start out from n room size (from + i) (omega arith) (omega arith) ∙ (ap (λ (x : ℕ). get_or out x 0) z ∙ ap (λ (xs : List ℕ). get_or xs i 0) e);
    }
