-- The kinds of rows and their numbers. Assumes nothing.
use Rattle.std.specs.Prelude.{◌≡◌, ℕ, ◌<◌, Result, MatchResult}
use Rattle.piece.specs.declared.kind.Rows.{Rows}
use Rattle.piece.specs.declared.kind.Rows.TheVariants.{Vandermonde, Cauchy}
use Rattle.piece.specs.declared.kind.UnknownRows.{UnknownRows}

-- the number that stands for a kind
abbrev pub number_of : Rows → ℕ
number_of Vandermonde = 0
number_of Cauchy = 1

-- the kind of this number, or an error with a number that no kind has
abbrev pub OfNumber : ℕ → Result Rows UnknownRows → Type 0
OfNumber number r = MatchResult r (λ rows. number_of rows ≡ number) (λ e. (e.0 ≡ number) × (1 < number))
