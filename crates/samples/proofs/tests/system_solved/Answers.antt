use Rattle.std.proofs.Common.{ℕ, zero, suc, ltb, List, [], ◌∷◌, get_or, refl, arith, lit<, lit≤, ltb→lt}
use Rattle.field.specs.Gf256.{gf256, over_bits}
use Rattle.field.specs.Every.{at}
use Rattle.field.specs.Laws256.{laws256}
use Rattle.algebra.specs.Codes.{Regular}
use Rattle.field.specs.Sums.{sum}
use Rattle.algebra.specs.Field.{power}
use Rattle.algebra.specs.Flat.{cell}
use Rattle.algebra.proofs.Cells.{codes_grid}
use Rattle.algebra.proofs.OnCodes.{vandermonde_regular}
use Rattle.samples.proofs.tests.system_solved.Goals as goal

rows : List ℕ
rows = 1 ∷ 1 ∷ 7 ∷ 0 ∷ 1 ∷ 2 ∷ 5 ∷ 1 ∷ []

points : ℕ → ℕ
points r = suc r

-- the coefficients are the Vandermonde rows of the elements coded 1 and 2
regular : Regular gf256 2 (cell 4 rows)
regular x wx z =
    vandermonde_regular laws256 2 points (unfold points in λ j l. omega arith) (unfold points in λ i j li lj n. omega arith) x wx
    (unfold points rows sum power cell over_bits in elim [ zero ↦ λ l. z 0 (lit< tt) | suc zero ↦ λ l. z 1 (lit< tt) | suc (suc r) ↦ λ l. absurd (omega arith) ])

pub eliminate-requires : goal.eliminate-requires
unfolding rows
eliminate-requires g c = record {
  grid = codes_grid 256 2 4 rows refl (λ k h. ltb→lt _ 256 (at (λ k. ltb (get_or rows k 0) 256) 8 tt k h));
  wide = lit≤ tt;
  regular = regular;
}
