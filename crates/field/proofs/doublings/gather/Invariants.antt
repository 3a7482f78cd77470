use Rattle.std.proofs.Common.{◌/◌, ◌%◌, ◌^◌, length, get_or}
use Rattle.std.specs.Iterator.Adapters.{zip_first, zip_second}
use Rattle.std.specs.Slice.Iter.{chunks_exact_rest, chunks_exact_size, iter_rest}
use Rattle.field.specs.Laws.{Codes}
use Rattle.field.proofs.Combining.{GatheredTo}
use Rattle.field.proofs.Pairs.{PairsLeft}
use Rattle.field.proofs.doublings.gather.Given as goal

abbrev pub invariant-loop-row : goal.invariant-loop-row
invariant-loop-row g l = record {
  codes : Codes g.D.Doubling.arith.order l.out;
  left : PairsLeft l.rows l.factors (length l.initial.out) (length l.yielded) (chunks_exact_size (zip_first l.row-iterator)) (chunks_exact_rest (zip_first l.row-iterator)) (iter_rest (zip_second l.row-iterator));
  gathered : GatheredTo g.D.Doubling.arith (λ r. get_or l.factors r 0 / 2 ^ l.place % 2) l.rows (length l.yielded) l.initial.out l.out;
}
