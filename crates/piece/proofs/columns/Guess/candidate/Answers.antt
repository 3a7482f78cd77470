use Rattle.std.proofs.Common.{◌≡◌, ℕ, ◌+◌, ◌<◌, ◌≤◌, List, length, get_or, take, replicate, subst, arith, length-take-le}
use Rattle.field.specs.Laws.{Ops, FieldLaws, Bounds}
use Rattle.algebra.specs.Codes.{Regular}
use Rattle.algebra.specs.Flat.{Eliminated, cell}
use Rattle.piece.specs.declared.columns.Guess.{Guess}
use Rattle.piece.specs.Columns.{System}
use Rattle.piece.specs.Guesses.{Answers, Stands}
use Rattle.piece.proofs.Candidates.{regular, found}
use Rattle.piece.proofs.columns.Guess.candidate.Goals as goal

abbrev zeros : ℕ → List ℕ
zeros n = replicate n 0

-- m factors and a row of m + 1, which stand in scratch of 16 and 17
module _ {K : Ops} (L : FieldLaws K) (B : Bounds K) (G : Guess) (n : ℕ) (asked : Stands K G n) (rows : List ℕ)
    (system : System K G.settings G.numbers.now G.symbols.now G.place G.value rows) where
  factors : length (take n (zeros 16)) ≡ n
  factors =
      let few = asked.seen.lawful.needed in
      let fits : n ≤ 16 = omega (arith, asked.room) in
      length-take-le n (zeros 16) fits

  row : length (take (n + 1) (zeros 17)) ≡ n + 1
  row =
      let few = asked.seen.lawful.needed in
      let fits : n + 1 ≤ 17 = omega (arith, asked.room) in
      length-take-le (n + 1) (zeros 17) fits

  pub regular_there : Regular K (length (take n (zeros 16))) (cell (length (take (n + 1) (zeros 17))) rows)
  regular_there = rw (factors, row) (rw asked.room (regular L B G.settings G.numbers.now G.symbols.now G.place G.value n asked rows system))

  pub found_there : (after column : List ℕ) → Eliminated K (length (take n (zeros 16))) (length (take (n + 1) (zeros 17))) rows after
      → ((j : ℕ) → j < n → get_or column j 0 ≡ cell (n + 1) after j n) → Answers K G column
  found_there after column done last =
      let at : Eliminated K n (n + 1) rows after = rw factors at (rw row at done) in
      found L B G.settings G.numbers.now G.symbols.now G.place G.value n asked rows system after column
      (subst (λ (m : ℕ). Eliminated K m (m + 1) rows after) asked.room at)
      (subst (λ (m : ℕ). (j : ℕ) → j < m → get_or column j 0 ≡ cell (m + 1) after j m) asked.room last)

pub eliminate-requires-clause-regular : goal.eliminate-requires-clause-regular
eliminate-requires-clause-regular g c =
    regular_there g.met.F.Field.laws g.met.F.Field.bounds c.args.self.now (length c.args.column.now) c.in_ok-check.ensures c.lay_system.new.grid c.lay_system.ensures

pub returns-clause-fits : goal.returns-clause-fits
returns-clause-fits g c =
    found_there g.met.F.Field.laws g.met.F.Field.bounds c.args.self.now (length c.args.column.now) c.in_ok-check.ensures c.lay_system.new.grid c.lay_system.ensures
    c.eliminate.new.rows c.copy_last.new.column c.eliminate.ensures.eliminated c.copy_last.ensures
