-- What m - 1 symbols of a column leave open. Assumes nothing.
use Rattle.std.proofs.Common.{◌≡◌, ℕ, suc, ◌+◌, ◌-◌, ◌<◌, cond, eqb, sym, ap, ◌∙◌, arith}
use Rattle.field.specs.Laws.{Ops, FieldLaws, Bounds}
use Rattle.field.proofs.Bounds.{rows_fit}
use Rattle.algebra.specs.Codes.{Points, dot, power, cauchy}
use Rattle.algebra.proofs.OnCodes.{any_value_fits, in_one_way}
use Rattle.piece.specs.declared.Settings.{Settings}
use Rattle.piece.specs.Pieces.{entry}
use Rattle.piece.specs.Columns.{Seen, Hiding}

module _ {K : Ops} (L : FieldLaws K) (B : Bounds K) (S : Settings) (number symbol : ℕ → ℕ) (seen : Seen K S number symbol) where
  -- the point of a piece's row
  abbrev pub point : ℕ → ℕ
  point r = S.m + number r - 1

  -- the places are counted from 0 and one more than the rows
  pub places : suc (S.m - 1) ≡ S.m
  places = omega (arith, seen.lawful.some)

  pub points : Points K.order (S.m - 1) (suc (S.m - 1)) point (λ j. j)
  points =
      let f = rows_fit B S.m S.n seen.lawful.needed seen.lawful.made in
      let s = seen.lawful.some in
      record {
        rows = λ r l. let a = seen.least r l in let b = seen.most r l in omega arith;
        places = λ j l. omega arith;
        rows_differ = λ i j li lj n. let a = seen.least i li in let b = seen.least j lj in let d = seen.differ i j li lj n in omega arith;
        places_differ = λ i j li lj n. n;
        apart = λ i j li lj. let a = seen.least i li in omega arith;
      }

  -- the rows are of Cauchy kind
  pub row_entry : (i j : ℕ) → entry K S i j ≡ K.inv (K.add (S.m + i - 1) (K.neg j))
  row_entry i j = ap (λ (n : ℕ). cond (eqb n 0) (power K i j) (K.inv (K.add (S.m + i - 1) (K.neg j)))) seen.kind

  pub row_gives : (r : ℕ) (x : ℕ → ℕ) → dot K S.m (entry K S (number r)) x ≡ dot K (suc (S.m - 1)) (cauchy K point (λ j. j) r) x
  row_gives r x =
      ap (λ (n : ℕ). dot K S.m (λ j. cond (eqb n 0) (power K (number r) j) (K.inv (K.add (S.m + number r - 1) (K.neg j)))) x) seen.kind
      ∙ ap (λ (n : ℕ). dot K n (cauchy K point (λ j. j) r) x) (sym places)

pub hiding : {K : Ops} → FieldLaws K → Bounds K → Hiding K
hiding {K} L B S number symbol seen p lp v lv =
    let m : ℕ = S.m - 1 in
    let a : ℕ → ℕ = point L B S number symbol seen in
    let s = places L B S number symbol seen in
    let q = points L B S number symbol seen in
    let e = row_gives L B S number symbol seen in
    let lq : p < suc m = omega arith in
    let (x, wx, xp, xs) = any_value_fits L m a (λ j. j) q p lq symbol seen.codes v lv in (
      x,
      record { codes = λ j l. wx j (omega arith); at = xp; gives = λ r l. e r x ∙ xs r l },
      λ y f j l. in_one_way L m a (λ j. j) q p lq y x (λ i d. f.codes i (omega arith)) wx (f.at ∙ sym xp)
          (λ r d. sym (e r y) ∙ f.gives r d ∙ sym (xs r d)) j (omega arith),
    )
