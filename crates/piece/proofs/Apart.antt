-- How far the symbols of two jobs are apart, column by column. Assumes nothing.
use Rattle.std.proofs.Common.{◌≡◌, ℕ, ◌+◌, ◌-◌, ◌*◌, ◌<◌, Bool, true, false, cond, eqb, ◌≢◌, List, length, sym, ap, ◌∙◌, subst, arith}
use native.Mathlib.Decide.{dec_lt}
use Rattle.std.proofs.lemmas.List.{get_or_past}
use Rattle.field.specs.Laws.{Ops, FieldLaws, Bounds}
use Rattle.field.proofs.Bounds.{rows_fit, byte_is_a_code}
use Rattle.algebra.specs.Field as abstract
use Rattle.algebra.specs.Field.{Field}
use Rattle.algebra.specs.Codes.{Below, Points, FewVanish, dot, power}
use Rattle.algebra.proofs.Ring.{sum_same, sum_add, add_assoc, add-zero, add_cancel, add_comm, neg_add, mul-add, sub_zero}
use Rattle.algebra.proofs.Codes.{up, field, up_add, up_neg, up_dot, up_zero, up_same, Zero, Add, Mul, Neg, dot_below, power_below}
use Rattle.algebra.proofs.OnCodes.{vandermonde_few, cauchy_few}
use Rattle.piece.specs.declared.Settings.{Settings}
use Rattle.piece.specs.Layouts.{Bytes}
use Rattle.piece.specs.Pieces.{Lawful, place, value}
use Rattle.piece.specs.Columns.{Distance}

module _ {F : Type 0} {o e : F} {◌⊕◌ ◌⊗◌ : F → F → F} {neg inv : F → F} (K : Field o e ◌⊕◌ ◌⊗◌ neg inv) where
  infixl 20 ◌⊕◌
  infixl 25 ◌⊗◌
  back : (x y : F) → (x ⊕ neg y) ⊕ y ≡ x
  back x y = add_assoc K x (neg y) y ∙ ap (λ z. x ⊕ z) (neg_add K y) ∙ add-zero K x

  -- a row that gives the same of two columns vanishes on their difference
  apart : (m : ℕ) (u x y : ℕ → F) → abstract.dot o ◌⊕◌ ◌⊗◌ m u x ≡ abstract.dot o ◌⊕◌ ◌⊗◌ m u y → abstract.dot o ◌⊕◌ ◌⊗◌ m u (λ j. x j ⊕ neg (y j)) ≡ o
  apart m u x y h =
      add_cancel K (abstract.dot o ◌⊕◌ ◌⊗◌ m u y) _ _
      (add_comm K _ _
      ∙ sym (sum_add K m (λ j. u j ⊗ (x j ⊕ neg (y j))) (λ j. u j ⊗ y j))
      ∙ sum_same o ◌⊕◌ m _ _ (λ j l. sym (mul-add K (u j) (x j ⊕ neg (y j)) (y j)) ∙ ap (λ z. u j ⊗ z) (back (x j) (y j)))
      ∙ h ∙ sym (add-zero K _))

module _ {K : Ops} (L : FieldLaws K) where
  difference : (ℕ → ℕ) → (ℕ → ℕ) → ℕ → ℕ
  difference x y j = K.add (x j) (K.neg (y j))

  difference_below : (m : ℕ) (x y : ℕ → ℕ) → Below K.order m x → Below K.order m y → Below K.order m (difference x y)
  unfolding difference
  difference_below m x y wx wy j l = L.add_below (x j) (K.neg (y j)) (wx j l) (L.neg_below (y j) (wy j l))

  up_difference : (a b : ℕ) → a < K.order → b < K.order → up L (K.add a (K.neg b)) ≡ Add L (up L a) (Neg L (up L b))
  up_difference a b la lb = up_add L a (K.neg b) la (L.neg_below b lb) ∙ ap (Add L (up L a)) (up_neg L b lb)

  difference_not_zero : (a b : ℕ) → a < K.order → b < K.order → a ≢ b → K.add a (K.neg b) ≢ 0
  difference_not_zero a b la lb n h =
      n (up_same L a b la lb (sub_zero (field L) (up L a) (up L b) (sym (up_difference a b la lb) ∙ ap (up L) h ∙ up_zero L)))

  -- the same on codes
  vanishes : (m : ℕ) (u x y : ℕ → ℕ) → Below K.order m u → Below K.order m x → Below K.order m y
      → dot K m u x ≡ dot K m u y → dot K m u (difference x y) ≡ 0
  unfolding difference
  vanishes m u x y wu wx wy h =
      up_same L _ 0 (dot_below L m u (difference x y) wu (difference_below m x y wx wy)) (Zero L).1
      (up_dot L m u (difference x y) wu (difference_below m x y wx wy)
      ∙ sum_same (Zero L) (Add L) m _ _ (λ j l. ap (Mul L (up L (u j))) (up_difference (x j) (y j) (wx j l) (wy j l)))
      ∙ apart (field L) m (λ j. up L (u j)) (λ j. up L (x j)) (λ j. up L (y j)) (sym (up_dot L m u x wu wx) ∙ ap (up L) h ∙ up_dot L m u y wu wy)
      ∙ sym (up_zero L))

  module _ (B : Bounds K) (S : Settings) (lawful : Lawful S) where
    -- Vandermonde rows, or else Cauchy rows
    row : Bool → ℕ → ℕ → ℕ
    row b i j = cond b (power K i j) (K.inv (K.add (S.m + i - 1) (K.neg j)))

    fit : S.m + S.n < K.order
    fit = rows_fit B S.m S.n lawful.needed lawful.made

    row_below : (b : Bool) (i : ℕ) → i < S.n → Below K.order S.m (row b (i + 1))
    unfolding row
    row_below true i li j lj = let f = fit in power_below L (i + 1) j (omega (arith, lawful.some))
    row_below false i li j lj =
        let f = fit in L.inv_below _ (L.add_below _ _ (omega (arith, lawful.some)) (L.neg_below j (omega arith)))

    points : Points K.order S.n S.m (λ i. S.m + (i + 1) - 1) (λ j. j)
    points =
        let f = fit in
        record {
          rows = λ i l. omega arith;
          places = λ j l. omega arith;
          rows_differ = λ i j li lj n. omega arith;
          places_differ = λ i j li lj n. n;
          apart = λ i j li lj. omega arith;
        }

    few : (b : Bool) → FewVanish K S.n S.m (λ i. row b (i + 1))
    unfolding row
    few true =
        let f = fit in
        vandermonde_few L S.n S.m (λ i. i + 1) (λ i l. omega (arith, lawful.some)) (λ i j li lj n. omega arith)
    few false = cauchy_few L S.n S.m (λ i. S.m + (i + 1) - 1) (λ j. j) points

    place_code : (job : List ℕ) → Bytes job → (k j : ℕ) → place S.m job k j < K.order
    place_code job b k j = elim (dec_lt (k * S.m + j) (length job)) [
      | yes l ↦ byte_is_a_code B _ (b (k * S.m + j) l)
      | no l ↦ let f = L.one_below in subst (λ (n : ℕ). n < K.order) (sym (get_or_past job (k * S.m + j) 0 (omega arith))) (omega arith)
    ]

  pub distance : Bounds K → Distance K
  unfolding value row difference
  distance B S lawful a b ba bb len k lk j lj n t h =
      let kind : Bool = eqb S.rows 0 in
      let x : ℕ → ℕ = place S.m a k in
      let y : ℕ → ℕ = place S.m b k in
      let wx : Below K.order S.m x = λ i l. place_code B S lawful a ba k i in
      let wy : Below K.order S.m y = λ i l. place_code B S lawful b bb k i in
      few B S lawful kind (difference x y) (difference_below S.m x y wx wy) j lj (difference_not_zero (x j) (y j) (wx j lj) (wy j lj) n) t
      (λ i li ti. vanishes S.m (row B S lawful kind (i + 1)) x y (row_below B S lawful kind i li) wx wy (h i li ti))
