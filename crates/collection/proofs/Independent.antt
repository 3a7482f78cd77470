-- The rows of any m pieces with different numbers are independent. Assumes nothing.
use Rattle.std.proofs.Common.{◌≡◌, ℕ, ◌+◌, ◌-◌, ◌<◌, ◌≤◌, Bool, true, false, cond, eqb, sym, refl, ◌∙◌, arith}
use Rattle.field.specs.Laws.{Ops, FieldLaws, Bounds}
use Rattle.field.proofs.Bounds.{rows_fit}
use Rattle.algebra.specs.Codes.{Below, Regular, Rows, dot, power}
use Rattle.algebra.specs.Field.{Distinct}
use Rattle.algebra.proofs.Codes.{dot_below}
use Rattle.algebra.proofs.OnCodes.{cauchy_regular, one_solution, vandermonde_regular}
use Rattle.piece.specs.declared.Settings.{Settings}
use Rattle.piece.specs.Pieces.{Lawful, entry}
use Rattle.piece.proofs.Exact.{entry_below}

module _ {K : Ops} (L : FieldLaws K) (B : Bounds K) (S : Settings) (lawful : Lawful S) (number : ℕ → ℕ)
    (within : (t : ℕ) → t < S.m → (1 ≤ number t) × (number t ≤ S.n)) (differ : Distinct S.m number) where
  fit : S.m + S.n < K.order
  fit = rows_fit B S.m S.n lawful.needed lawful.made

  row : Bool → ℕ → ℕ → ℕ
  row kind t j = cond kind (power K (number t) j) (K.inv (K.add (S.m + number t - 1) (K.neg j)))

  row_regular : (kind : Bool) → Regular K S.m (row kind)
  unfolding row
  row_regular true = vandermonde_regular L S.m number (λ t l. let f = fit in let w = within t l in omega (arith, w.1, lawful.some)) differ
  row_regular false =
      let f = fit in
      cauchy_regular L S.m (λ t. S.m + number t - 1) (λ j. j) (record {
        rows = λ t l. let w = within t l in omega (arith, w.1, lawful.some);
        places = λ j l. omega arith;
        rows_differ = λ i j li lj n e. let a = within i li in let b = within j lj in differ i j li lj n (omega (arith, a.0, b.0, lawful.some));
        places_differ = λ i j li lj n. n;
        apart = λ i j li lj e. let a = within i li in omega (arith, a.0);
      })

  pub entries_regular : Regular K S.m (λ t. entry K S (number t))
  unfolding row
  entries_regular = row_regular (eqb S.rows 0)

  pub entries_rows : Rows K.order S.m S.m (λ t. entry K S (number t))
  entries_rows t l j lj = let w = within t l in entry_below K B L S lawful (number t) w.0 w.1 j lj

  -- two columns of codes that give the same symbols of all pieces are equal
  pub one_column : (x y : ℕ → ℕ) → Below K.order S.m x → Below K.order S.m y
      → ((t : ℕ) → t < S.m → dot K S.m (entry K S (number t)) x ≡ dot K S.m (entry K S (number t)) y)
      → (j : ℕ) → j < S.m → x j ≡ y j
  one_column x y bx by same j l =
      let A : ℕ → ℕ → ℕ = λ t. entry K S (number t) in
      let s : ℕ → ℕ = λ t. dot K S.m (A t) y in
      let one = one_solution L S.m A entries_rows entries_regular s (λ t lt. dot_below L S.m (A t) y (entries_rows t lt) by) in
      one.3 x bx same j l ∙ sym (one.3 y by (λ t lt. refl) j l)
