use Rattle.std.proofs.Common.{ℕ, List, length, sym, subst, arith}
use Rattle.algebra.specs.Codes.{Regular}
use Rattle.algebra.specs.Flat.{Eliminated, Grid, cell}
use Rattle.collection.specs.Books.{places, stride}
use Rattle.collection.proofs.Bringing.{entered_grid, entered_regular, brought}
use Rattle.collection.proofs.back.bring_back.Goals as goal

pub eliminate-requires : goal.eliminate-requires
eliminate-requires g c =
    let K = g.F.Field.ops in
    let b = c.args.book.now in
    let w : ℕ = length c.args.row.now in
    let rows : List ℕ = c.lay_entries.new.rows in
    record {
      grid = subst (λ (n : ℕ). Grid K.order n w rows) (sym c.requires.factors) (subst (λ (n : ℕ). Grid K.order (places b) n rows) (sym c.requires.row)
          (entered_grid g.met.F.Field.laws g.met.F.Field.bounds b c.requires.field c.requires.full c.args.rows.now rows c.requires.size c.requires.codes c.lay_entries.ensures));
      wide = omega (arith, c.requires.factors, c.requires.row);
      regular = subst (λ (n : ℕ). Regular K n (cell w rows)) (sym c.requires.factors) (subst (λ (n : ℕ). Regular K (places b) (cell n rows)) (sym c.requires.row)
          (entered_regular g.met.F.Field.laws g.met.F.Field.bounds b c.requires.field c.requires.full c.args.rows.now rows c.requires.size c.requires.codes c.lay_entries.ensures));
    }

pub returns : goal.returns
returns g c =
    let K = g.F.Field.ops in
    let b = c.args.book.now in
    let rows : List ℕ = c.lay_entries.new.rows in
    let after : List ℕ = c.eliminate.new.rows in
    let done : Eliminated K (places b) (stride b) rows after = subst (λ (n : ℕ). Eliminated K n (stride b) rows after) c.requires.factors
    (subst (λ (n : ℕ). Eliminated K (length c.args.factors.now) n rows after) c.requires.row c.eliminate.ensures.eliminated) in
    record {
      brought = brought g.met.F.Field.laws g.met.F.Field.bounds b c.requires.field c.requires.full c.args.rows.now rows c.requires.size c.requires.codes c.lay_entries.ensures after done;
      factors = c.eliminate.ensures.factors;
      row = c.eliminate.ensures.row;
    }
