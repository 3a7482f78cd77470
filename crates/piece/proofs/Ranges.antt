-- Settings in range, and how many columns there are. Assumes nothing.
use Rattle.std.proofs.Common.{◌≡◌, ℕ, ◌+◌, ◌-◌, ◌*◌, ◌/◌, ◌<◌, ◌≤◌, Bool, true, false, cond, refl, mul-le-mul_right, mod-lt, div-lt_iff_lt-mul, mul-le-mul_left, div-add-mod', arith, leb-true, le-leb}
use native.Mathlib.Nat.{mul-div-le}
use native.Mathlib.Decide.{dec_lt}
use Rattle.std.proofs.lemmas.Bool.{false≢true}
use Rattle.piece.specs.declared.Settings.{Settings}
use Rattle.piece.specs.declared.kind.Rows.{Rows}
use Rattle.piece.specs.declared.kind.Rows.TheVariants.{Vandermonde, Cauchy}
use Rattle.piece.specs.declared.scheme.Scheme.{Scheme}
use Rattle.piece.specs.Rows.{number_of}
use Rattle.piece.specs.Schemes.{as_settings}
use Rattle.piece.specs.Cutting.{is_in_range}
use Rattle.piece.specs.Pieces.{Lawful}

-- a test and another
pub first_of : (a b : Bool) → cond a b false ≡ true → a ≡ true
first_of true b e = refl
first_of false b e = e

pub second_of : (a b : Bool) → cond a b false ≡ true → b ≡ true
second_of true b e = e
second_of false b e = absurd (false≢true e)

pub lawful : (S : Settings) → is_in_range S ≡ true → Lawful S
lawful S e =
    let b1 = second_of _ _ e in
    let b2 = second_of _ _ b1 in
    let b3 = second_of _ _ b2 in
    record {
      kind = leb-true S.rows 1 (first_of _ _ e);
      some = leb-true 1 S.m (first_of _ _ b1);
      needed = leb-true S.m 16 (first_of _ _ b2);
      enough = leb-true S.m S.n (first_of _ _ b3);
      made = leb-true S.n 32 (second_of _ _ b3);
    }

-- settings in range pass the test
pub in_range_lawful : (S : Settings) → Lawful S → is_in_range S ≡ true
in_range_lawful S L =
    rw (le-leb S.rows 1 L.kind, le-leb 1 S.m L.some, le-leb S.m 16 L.needed, le-leb S.m S.n L.enough, le-leb S.n 32 L.made) refl

-- those of a scheme are
kind_of : (r : Rows) → number_of r ≤ 1
kind_of Vandermonde = omega arith
kind_of Cauchy = omega arith

pub scheme_lawful : (S : Scheme) → Lawful (as_settings S)
scheme_lawful S = record { kind = kind_of S.rows; some = S.some; needed = S.needed; enough = S.enough; made = S.made }

module _ (m len : ℕ) (some : 1 ≤ m) where
  pub columns_fit : m * ((len + (m - 1)) / m) ≤ len + (m - 1)
  columns_fit = mul-div-le (len + (m - 1)) m

  pub columns_few : (most : ℕ) → len ≤ most → (len + (m - 1)) / m ≤ most
  columns_few most h = elim (dec_lt most ((len + (m - 1)) / m)) [
    | yes l ↦
        let t : m * (most + 1) ≤ m * ((len + (m - 1)) / m) = mul-le-mul_left m (omega arith) in
        let s : m * (most + 1) ≡ m * most + m = omega arith in
        let u : 1 * most ≤ m * most = mul-le-mul_right most some in
        let f = columns_fit in
        absurd (omega arith)
    | no l ↦ omega arith
  ]

  -- the columns reach the job's end
  pub columns_reach : len ≤ (len + (m - 1)) / m * m
  columns_reach =
      let d = div-add-mod' (len + (m - 1)) m in
      let r = mod-lt (len + (m - 1)) {m = m} (omega arith) in
      omega arith

  -- the column of a symbol
  pub column_within : (i : ℕ) → i < len → i / m < (len + (m - 1)) / m
  column_within i h =
      let c = columns_reach in
      (div-lt_iff_lt-mul {k = m} (omega arith)).1 (omega arith)
