use Rattle.std.proofs.Common.{◌≡◌, ℕ, ◌*◌, ◌/◌, ◌%◌, ◌<◌, length, get_or, set, sym, refl, ap, ◌∙◌, subst, arith, length-set, get_or-set_other, get_or-set_same}
use native.Mathlib.Decide.{ℕ_discrete}
use Rattle.field.specs.Rows.{combination}
use Rattle.field.proofs.Rows.{row_within, place_within}
use Rattle.field.proofs.Combining.{combined_start, combined_next, combined_end}
use Rattle.field.proofs.Field.combine.Goals as goal

pub loop-i-init : goal.loop-i-init
loop-i-init g c =
    let zeros : (k : ℕ) → k < length c.fill.new.self → get_or c.fill.new.self k 0 ≡ 0 = λ k h. c.fill.ensures.clones k 0 (omega arith) refl in (
      λ k h. subst (λ (v : ℕ). v < g.Self.Field.ops.order) (sym (zeros k h)) (omega (arith, g.met.Self.Field.laws.one_below)),
      combined_start g.Self.Field.ops (length c.fill.new.self) c.args.rows.now c.args.factors.now c.fill.new.self zeros,
    )

pub loop-i-preserved : goal.loop-i-preserved
loop-i-preserved g c =
    let K = g.Self.Field.ops in
    let w : ℕ = length c.fill.new.self in
    let i : ℕ = c.loop-i.i in
    let e : length c.fill.new.self ≡ length c.args.out.now = c.fill.ensures.len in
    let h : i < length c.args.factors.now * w = rw e (omega arith) in
    let p = place_within i (length c.args.factors.now) w h in
    let pos : 0 < w = omega arith in
    let wf = c.requires.factors (i / w) (row_within i (length c.args.factors.now) w h) in
    let wx = c.requires.codes i c.loop-i-test.true in
    let v : c.add.result ≡ K.add (get_or c.loop-i.out (i % w) 0) (K.mul (get_or c.args.factors.now (i / w) 0) (get_or c.args.rows.now i 0))
    = c.add.ensures ∙ ap (K.add (get_or c.loop-i.out (i % w) 0)) c.mul-term.ensures in
    let code : c.add.result < K.order = subst (λ (n : ℕ). n < K.order) (sym v)
    (g.met.Self.Field.laws.add_below _ _ (c.loop-i.invariant.0 (i % w) (omega arith)) (g.met.Self.Field.laws.mul_below _ _ wf wx)) in (
      λ k l.
          let s = length-set c.loop-i.out (i % w) c.add.result in
          let lk : k < length c.loop-i.out = omega arith in
          let lp : i % w < length c.loop-i.out = omega arith in
          elim (ℕ_discrete k (i % w)) [
            | yes q ↦ subst (λ (n : ℕ). n < K.order) (sym (ap (λ (n : ℕ). get_or (set c.loop-i.out (i % w) c.add.result) n 0) q ∙ get_or-set_same c.loop-i.out (i % w) c.add.result 0 lp)) code
            | no q ↦ subst (λ (n : ℕ). n < K.order) (sym (get_or-set_other c.loop-i.out (i % w) k c.add.result 0 q)) (c.loop-i.invariant.0 k lk)
          ],
      combined_next K w c.args.rows.now c.args.factors.now i c.add.result c.loop-i.out (sym c.loop-i.auto.out) pos c.loop-i.invariant.1 v,
    )

pub returns-clause-value : goal.returns-clause-value
returns-clause-value g c k h =
    let w : ℕ = length c.fill.new.self in
    let e : length c.fill.new.self ≡ length c.args.out.now = c.fill.ensures.len in
    let d : length c.loop-i.out ≡ w = c.loop-i.auto.out in
    let n : c.loop-i.i ≡ length c.args.rows.now = omega arith in
    let s : c.loop-i.i ≡ length c.args.factors.now * w = rw e (n ∙ c.requires.size) in
    combined_end g.Self.Field.ops w c.args.rows.now c.args.factors.now c.loop-i.i c.loop-i.out s (omega arith) c.loop-i.invariant.1 k (omega arith)
    ∙ ap (λ (v : ℕ). combination g.Self.Field.ops v c.args.rows.now c.args.factors.now k) (sym d)
