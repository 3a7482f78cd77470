-- All fields of the record, each by its lemma. Assumes nothing.
use mathlib.Core.Path.{refl}
use Rattle.algebra.specs.Theorems.{AlgebraStands}
use Rattle.algebra.proofs.OnCodes.{root_count, vandermonde_regular, cauchy_regular, vandermonde_few, cauchy_few, swap_keeps, scale_keeps, add_keeps, pivot_found, one_solution, any_value_fits, in_one_way}
use Rattle.algebra.proofs.theorems_stand.Goals as goal

pub returns : goal.returns
unfolding AlgebraStands
returns c = record {
  count = refl;
  theorems = λ K L. record {
    root_count = root_count L;
    vandermonde_regular = vandermonde_regular L;
    cauchy_regular = cauchy_regular L;
    vandermonde_few = vandermonde_few L;
    cauchy_few = cauchy_few L;
    swap_keeps = swap_keeps L;
    scale_keeps = scale_keeps L;
    add_keeps = add_keeps L;
    pivot_found = pivot_found L;
    one_solution = one_solution L;
    any_value_fits = any_value_fits L;
    in_one_way = in_one_way L;
  };
}
