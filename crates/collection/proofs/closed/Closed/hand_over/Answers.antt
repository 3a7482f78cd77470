use Rattle.std.proofs.Common.{ℕ, ◌≤◌, List, ◌++◌, length, drop, sym, ap, ◌∙◌, subst, arith, length-take-le, rules}
use Rattle.piece.proofs.Octets.{length_listed}
use Rattle.collection.specs.Back.{Whole, job_in}
use Rattle.collection.specs.Books.{first_in, SymbolsBelow}
use Rattle.collection.specs.Collected.{For}
use Rattle.collection.proofs.Books.{closed_field, closed_length}
use Rattle.collection.proofs.Fitting.{fits_only, fits_whole, whole_fits}
use Rattle.collection.proofs.Growing.{zeros_below}
use Rattle.collection.proofs.closed.Closed.hand_over.Goals as goal

pub slice_bounds-write_job-end : goal.slice_bounds-write_job-end
slice_bounds-write_job-end g c =
    let o = c.args.self in
    let k : c.length-n.result ≤ length c.args.job.now = omega (arith, c.length-n.ensures, c.requires.enough, closed_length g.F.Field.ops o.book o.work.now o.full) in
    search rules

pub slice_bounds-write_job-end-2 : goal.slice_bounds-write_job-end-2
slice_bounds-write_job-end-2 g c =
    let o = c.args.self in
    sym (length-take-le c.length-n.result c.args.job.now (omega (arith, c.length-n.ensures, c.requires.enough, closed_length g.F.Field.ops o.book o.work.now o.full)))

pub write_job-requires : goal.write_job-requires
write_job-requires g c =
    let K = g.F.Field.ops in
    let o = c.args.self in
    let own : For K o.book.field = subst (For K) (closed_field K o.book o.work.now) c.requires.field in
    let k : c.length-n.result ≤ length c.args.job.now = omega (arith, c.length-n.ensures, c.requires.enough, closed_length K o.book o.work.now o.full) in
    record {
      whole = fits_whole g.met.F.Field.laws g.met.F.Field.bounds o.book o.work.now own o.full o.codes c.requires.job c.requires.fits;
      size = length-take-le c.length-n.result c.args.job.now k ∙ c.length-n.ensures;
    }

pub invariant_of-self : goal.invariant_of-self
invariant_of-self g c =
    let o = c.args.self in
    record { full = o.full; room = omega (arith, c.fill.ensures.len, o.room); codes = subst (SymbolsBelow o.book) (sym (c.fill.ensures.after (λ y e. e))) (zeros_below o.book (length o.work.now)) }

pub returns : goal.returns
returns g c =
    let K = g.F.Field.ops in
    let o = c.args.self in
    let own : For K o.book.field = subst (For K) (closed_field K o.book o.work.now) c.requires.field in
    let whole : Whole o.book o.work.now = fits_whole g.met.F.Field.laws g.met.F.Field.bounds o.book o.work.now own o.full o.codes c.requires.job c.requires.fits in
    record {
      handed = record {
        job = job_in o.book o.work.now;
        fits = whole_fits g.met.F.Field.laws g.met.F.Field.bounds o.book o.work.now own o.full o.codes whole;
        only = fits_only g.met.F.Field.laws g.met.F.Field.bounds o.book o.work.now own o.full o.codes;
        long = c.length-n.ensures ∙ sym (length_listed (first_in o.book).length _);
        written = ap (λ (xs : List ℕ). xs ++ drop c.length-n.result c.args.job.now) c.write_job.ensures;
      };
      wiped = c.fill.ensures.after (λ y e. e);
    }
