use Rattle.std.proofs.Common.{◌≡◌, ℕ, ◌+◌, ◌*◌, ◌≤◌, length, sym, refl, ap, ◌∙◌, arith, length-take-le, rules}
use Rattle.piece.specs.Reading.{count}
use Rattle.collection.specs.Books.{first_in, places}
use Rattle.collection.proofs.Closing.{after_below, after_length, closed_same, closes_field, closes_full, front_below, front_size, row_fits_scratch, rows_fit, scratch_length}
use Rattle.collection.proofs.open.Open.close.Goals as goal

-- what the rows take, as it is computed
front : (m n places count : ℕ) → m ≡ places → n ≡ count → m * (m + n) ≡ places * (places + count)
front m n places count em en = ap (λ (x : ℕ). x * (x + n)) em ∙ ap (λ (x : ℕ). places * (places + x)) en

pub slice_bounds-bring_back-end : goal.slice_bounds-bring_back-end
slice_bounds-bring_back-end g c =
    let o = c.args.self in
    let e = front c.needs-m.result c.columns.result (places o.book) (count (first_in o.book)) c.needs-m.ensures c.columns.ensures in
    let full = closes_full o.book o.work.now c.requires in
    let k : c.needs-m.result * (c.needs-m.result + c.columns.result) ≤ length o.work.now = omega (arith, rows_fit o.book, o.room (omega (arith, o.book.some))) in
    search rules

pub slice_bounds-bring_back-end-2 : goal.slice_bounds-bring_back-end-2
slice_bounds-bring_back-end-2 g c =
    let o = c.args.self in
    let e = front c.needs-m.result c.columns.result (places o.book) (count (first_in o.book)) c.needs-m.ensures c.columns.ensures in
    let full = closes_full o.book o.work.now c.requires in
    sym (length-take-le (c.needs-m.result * (c.needs-m.result + c.columns.result)) o.work.now (omega (arith, rows_fit o.book, o.room (omega (arith, o.book.some)))))

pub bring_back-requires : goal.bring_back-requires
bring_back-requires g c =
    let o = c.args.self in
    let b = o.book in
    let e = front c.needs-m.result c.columns.result (places b) (count (first_in b)) c.needs-m.ensures c.columns.ensures in
    let full = closes_full b o.work.now c.requires in
    let p : ℕ = c.needs-m.result * (c.needs-m.result + c.columns.result) in
    let fits : p ≤ length o.work.now = omega (arith, rows_fit b, o.room (omega (arith, b.some))) in
    let few : c.needs-m.result ≤ 16 = omega (arith, c.needs-m.ensures, b.needed) in
    let short : c.needs-m.result + c.columns.result ≤ 4112 = omega (arith, row_fits_scratch b, c.needs-m.ensures, c.columns.ensures) in
    record {
      field = closes_field b o.work.now c.requires;
      full = full;
      size = front_size b o.work.now p e fits;
      codes = front_below b o.work.now p e fits full o.codes;
      factors = scratch_length 16 c.needs-m.result few ∙ c.needs-m.ensures;
      row = scratch_length 4112 (c.needs-m.result + c.columns.result) short ∙ (ap (λ (x : ℕ). x + c.columns.result) c.needs-m.ensures ∙ ap (λ (x : ℕ). places b + x) c.columns.ensures);
    }

pub invariant_of-result : goal.invariant_of-result
invariant_of-result g c =
    let o = c.args.self in
    let b = o.book in
    let e = front c.needs-m.result c.columns.result (places b) (count (first_in b)) c.needs-m.ensures c.columns.ensures in
    let full = closes_full b o.work.now c.requires in
    let p : ℕ = c.needs-m.result * (c.needs-m.result + c.columns.result) in
    let fits : p ≤ length o.work.now = omega (arith, rows_fit b, o.room (omega (arith, b.some))) in
    let long = after_length b o.work.now p e fits c.bring_back.new.rows c.bring_back.auto.rows in
    record { full = full; room = omega (arith, long, o.room (omega (arith, b.some))); codes = after_below b o.work.now p e fits c.bring_back.new.rows c.bring_back.auto.rows g.F.Field.ops full (closes_field b o.work.now c.requires) c.bring_back.ensures.brought }

pub returns : goal.returns
returns g c =
    let o = c.args.self in
    let b = o.book in
    let e = front c.needs-m.result c.columns.result (places b) (count (first_in b)) c.needs-m.ensures c.columns.ensures in
    let full = closes_full b o.work.now c.requires in
    let p : ℕ = c.needs-m.result * (c.needs-m.result + c.columns.result) in
    let fits : p ≤ length o.work.now = omega (arith, rows_fit b, o.room (omega (arith, b.some))) in
    record {
      named = refl;
      same = closed_same b o.work.now p e fits c.bring_back.new.rows c.bring_back.auto.rows g.F.Field.ops full (closes_field b o.work.now c.requires) c.bring_back.ensures.brought;
    }
