use Rattle.std.proofs.Common.{◌≡◌, ℕ, ◌+◌, ◌-◌, ◌*◌, ◌<◌, ◌≤◌, length, take, sym, refl, ap, ◌∙◌, subst, arith, length-take-le}
use Rattle.std.proofs.lemmas.List.{get_or-take}
use Rattle.field.proofs.Bounds.{byte_is_a_code}
use Rattle.field.specs.Rows.{combination}
use Rattle.piece.proofs.Ranges.{columns_fit}
use Rattle.piece.proofs.Values.{combined_value}
use Rattle.piece.proofs.layout.Layout.values.Goals as goal

pub combine-requires : goal.combine-requires
combine-requires g c =
    let L = c.args.self.now in
    let n : ℕ = L.scheme.m * L.columns - 0 in
    let fit = columns_fit L.scheme.m L.length L.scheme.some in
    let fit' : L.scheme.m * L.columns ≤ L.length + (L.scheme.m - 1) = rw L.many fit in
    let room : n ≤ length L.cells = omega (arith, L.scheme.needed, L.short) in
    let size : length (take n L.cells) ≡ n = length-take-le n L.cells room in
    let mid : n ≡ length c.entries_of.new.factors * length c.args.values.now = rw (c.entries_of.auto.factors, c.requires.places, c.requires.columns) (omega arith) in
    record {
      size = size ∙ mid;
      codes = λ k l.
          let b : k < n = subst (λ (x : ℕ). k < x) size l in
          subst (λ (x : ℕ). x < g.F.Field.ops.order) (sym (get_or-take n L.cells k 0 b)) (byte_is_a_code g.met.F.Field.bounds _ (L.bytes k (omega arith)));
      factors = c.entries_of.ensures.codes;
    }

pub returns-clause-value : goal.returns-clause-value
returns-clause-value g c = λ k h.
    let L = c.args.self.now in
    let e : length c.combine.new.out ≡ L.columns = c.combine.auto.out ∙ c.requires.columns in
    let b : k < L.columns = subst (λ (x : ℕ). k < x) e h in
    c.combine.ensures.value k h
    ∙ ap (λ (w : ℕ). combination g.F.Field.ops w (take (L.scheme.m * L.columns - 0) L.cells) c.entries_of.new.factors k) e
    ∙ combined_value g.F.Field.ops L c.args.number k (L.scheme.m * L.columns - 0) c.entries_of.new.factors _ (omega arith) refl (c.entries_of.auto.factors ∙ c.requires.places) c.entries_of.ensures.value b
