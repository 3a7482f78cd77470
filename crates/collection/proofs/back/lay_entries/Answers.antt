use Rattle.std.proofs.Common.{◌≡◌, ℕ, ◌+◌, ◌-◌, ◌*◌, ◌<◌, List, length, get_or, sym, ap, ◌∙◌, subst, arith}
use borrow.Rule.Slice.PartMut.{put_mid}
use Rattle.field.proofs.Parts.{part_length}
use Rattle.field.proofs.Rows.{row_fits}
use Rattle.piece.specs.declared.Settings.{Settings}
use Rattle.piece.specs.Pieces.{entry as entry_of}
use Rattle.piece.specs.Reading.{count}
use Rattle.collection.specs.Books.{first_in, places}
use Rattle.collection.proofs.Entering.{EnteredTo, entered_more, numbers_at}
use Rattle.collection.proofs.back.lay_entries.Goals as goal

pub loop-t-preserved : goal.loop-t-preserved
loop-t-preserved g c =
    let K = g.F.Field.ops in
    let b = c.args.book.now in
    let m : ℕ = c.needs-m.result in
    let n : ℕ = c.columns.result in
    let t : ℕ = c.loop-t.t in
    let out : List ℕ = c.entries_of.new.factors in
    let whole : length c.loop-t.rows ≡ m * (m + n) = c.loop-t.invariant.size ∙ (c.requires.size ∙ (ap (λ (x : ℕ). x * (x + count (first_in b))) (sym c.needs-m.ensures) ∙ ap (λ (x : ℕ). m * (m + x)) (sym c.columns.ensures))) in
    let lt : t < m = omega (arith, c.needs-m.ensures, c.requires.full, c.numbers-number-items.ensures.many, c.loop-t-test.true) in
    let f = row_fits t m (m + n) lt in
    let s = c.of-scheme.ensures ∙ c.settings.ensures in
    let size : length out ≡ places b = c.entries_of.auto.factors ∙ (part_length c.loop-t.rows (t * (m + n)) m (omega arith) ∙ c.needs-m.ensures) in
    subst (λ (x : ℕ). EnteredTo K b (t + 1) c.args.rows.now (put_mid (t * (x + n)) (t * (x + n) + x - t * (x + n)) c.loop-t.rows out)) (sym c.needs-m.ensures)
    (subst (λ (x : ℕ). EnteredTo K b (t + 1) c.args.rows.now (put_mid (t * (places b + x)) (t * (places b + x) + places b - t * (places b + x)) c.loop-t.rows out)) (sym c.columns.ensures)
    (entered_more K b t c.args.rows.now c.loop-t.rows out (omega (arith, c.needs-m.ensures, lt)) (c.loop-t.invariant.size ∙ c.requires.size) size
    (λ j l. c.entries_of.ensures.value j (omega (arith, ap (λ (x : Settings). x.m) s))
    ∙ (ap (λ (x : Settings). entry_of K x (get_or c.numbers-number-items.result.now t 0) j) s ∙ ap (λ (i : ℕ). entry_of K (first_in b).settings i j)
    (numbers_at b c.numbers-number-items.result.now t c.numbers-number-items.ensures.value (omega (arith, c.needs-m.ensures, c.requires.full)))))
    c.loop-t.invariant))
