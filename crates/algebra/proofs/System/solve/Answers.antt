use Rattle.std.proofs.Common.{◌≡◌, ℕ, ◌<◌, ◌≤◌, ◌≢◌, List, length, Option, Some, None, refl, sym, subst, ◌∙◌, arith}
use native.Mathlib.Decide.{dec_lt}
use Rattle.std.specs.Option.{IfNone, IsSome}
use Rattle.algebra.specs.Field.{Columns, Scaled, Cleared}
use Rattle.algebra.specs.Flat.{cell, Grid, Keeps, Reduced}
use Rattle.algebra.proofs.Elim.{reduced_add, reduced_scale, reduced_clear, reduced_pivot, reduced_end, scaled_pivot, inv_not_zero}
use Rattle.algebra.proofs.System.solve.Goals as goal

there : (o : Option ℕ) (P : Type 0) → IfNone o P → (P → ⊥) → IsSome o
there None P h f = absurd (f h)
there (Some p) P h f = refl

pub unwrap-p-requires : goal.unwrap-p-requires
unwrap-p-requires g c =
    let s = c.loop-c.self in
    let m : ℕ = length c.args.self.now.factors.now in
    let w : ℕ = length c.args.self.now.row.now in
    let ew : length s.row.now ≡ w = c.loop-c.invariant.row.size in
    let em : length s.factors.now ≡ m = c.loop-c.invariant.factors.size in
    there c.find_pivot.result _ c.find_pivot.ensures.none
    (λ z. reduced_pivot g.met.F.Field.laws m w c.loop-c.c c.args.self.now.rows.now s.rows.now c.loop-c.invariant.reduced c.args.self.now.wide c.loop-c-test.true
    (λ r a b. subst (λ (v : ℕ). cell v s.rows.now r c.loop-c.c ≡ 0) ew (z r a (omega arith))))

keeps : {a b c d e : _} → Keeps a b → Keeps b c → Keeps c d → Keeps d e → Keeps a e
keeps p q r s = record { name = s.name ∙ r.name ∙ q.name ∙ p.name; size = s.size ∙ r.size ∙ q.size ∙ p.size }

pub loop-c-preserved : goal.loop-c-preserved
loop-c-preserved g c =
    let L = g.met.F.Field.laws in
    let K = g.F.Field.ops in
    let m : ℕ = length c.args.self.now.factors.now in
    let w : ℕ = length c.args.self.now.row.now in
    let n : ℕ = c.loop-c.c in
    let lc = c.loop-c-test.true in
    let p : ℕ = c.unwrap-p.result in
    let i = c.loop-c.invariant in
    let wide : m ≤ w = c.args.self.now.wide in
    let xs : List ℕ = c.args.self.now.rows.now in
    let ys : List ℕ = c.loop-c.self.rows.now in
    let raised : List ℕ = c.raise.new.self.rows.now in
    let scaled : List ℕ = c.normalize.new.self.rows.now in
    let cleared : List ℕ = c.clear_column.new.self.rows.now in
    let w1 : length c.loop-c.self.row.now ≡ w = i.row.size in
    let w2 : length c.raise.new.self.row.now ≡ w = c.raise.ensures.row.size ∙ w1 in
    let w3 : length c.normalize.new.self.row.now ≡ w = c.normalize.ensures.row.size ∙ w2 in
    let w4 : length c.clear_column.new.self.row.now ≡ w = c.clear_column.ensures.row.size ∙ w3 in
    let m1 : length c.loop-c.self.factors.now ≡ m = i.factors.size in
    let m2 : length c.raise.new.self.factors.now ≡ m = c.raise.ensures.factors.size ∙ m1 in
    let m3 : length c.normalize.new.self.factors.now ≡ m = c.normalize.ensures.factors.size ∙ m2 in
    let m4 : length c.clear_column.new.self.factors.now ≡ m = c.clear_column.ensures.factors.size ∙ m3 in
    let from : n ≤ p = rw c.unwrap-p.ensures at c.find_pivot.ensures.from in
    let within : p < m = rw m1 at (rw c.unwrap-p.ensures at c.find_pivot.ensures.within) in
    let grid2 : Grid K.order m w raised = rw (m2, w2) at c.raise.new.self.grid in
    let grid3 : Grid K.order m w scaled = rw (m3, w3) at c.normalize.new.self.grid in
    let grid4 : Grid K.order m w cleared = rw (m4, w4) at c.clear_column.new.self.grid in
    let pivot : cell w raised n n ≢ 0 = rw w1 at c.raise.ensures.pivot in
    let steps : Columns w (Scaled K.mul m n (K.inv (cell w raised n n))) (cell w raised) (cell w scaled) = rw (m2, w2) at c.normalize.ensures.scaled in
    let clears : Columns w (Cleared K.add K.mul m n (λ r. K.neg (cell w scaled r n))) (cell w scaled) (cell w cleared) = rw (m3, w3) at c.clear_column.ensures.cleared in
    let code : cell w raised n n < K.order = grid2.below n lc n (omega arith) in
    let reduced : Reduced K m w n xs raised = elim (dec_lt n p) [
      | yes l ↦ reduced_add L m w n xs ys raised n p 1 i.reduced wide lc within (omega arith) from L.one_below grid2 (rw (m1, w1) at c.raise.ensures.added l)
      | no l ↦
          let same : raised ≡ ys = c.raise.ensures.same (omega (arith, from)) in
          subst (λ (zs : List ℕ). Reduced K m w n xs zs) (sym same) i.reduced
    ] in
    record {
      rows = keeps i.rows c.raise.ensures.rows c.normalize.ensures.rows c.clear_column.ensures.rows;
      factors = keeps i.factors c.raise.ensures.factors c.normalize.ensures.factors c.clear_column.ensures.factors;
      row = keeps i.row c.raise.ensures.row c.normalize.ensures.row c.clear_column.ensures.row;
      reduced = reduced_clear L m w n xs scaled cleared
          (reduced_scale L m w n xs raised scaled (K.inv (cell w raised n n)) reduced wide lc (L.inv_below _ code) (inv_not_zero L _ code pivot) grid3 steps)
          wide lc (scaled_pivot L m w n (K.inv (cell w raised n n)) raised scaled grid2 wide lc pivot refl steps)
          (λ r. K.neg (cell w scaled r n)) (λ r _ _. refl) grid4 clears;
    }

pub returns-clause-eliminated : goal.returns-clause-eliminated
returns-clause-eliminated g c =
    let m : ℕ = length c.args.self.now.factors.now in
    let w : ℕ = length c.args.self.now.row.now in
    let xs : List ℕ = c.args.self.now.rows.now in
    let ys : List ℕ = c.loop-c.self.rows.now in
    let e : c.loop-c.c ≡ m = omega arith in
    reduced_end g.met.F.Field.laws m w xs ys (subst (λ (n : ℕ). Reduced g.F.Field.ops m w n xs ys) e c.loop-c.invariant.reduced) c.args.self.now.wide
