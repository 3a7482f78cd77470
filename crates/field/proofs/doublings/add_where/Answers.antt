use Rattle.std.proofs.Common.{◌≡◌, ℕ, ◌+◌, ◌*◌, ◌/◌, ◌%◌, ◌^◌, ◌<◌, ◌≤◌, length, get_or, sym, ap, ◌∙◌, subst, arith}
use Rattle.field.proofs.Parts.{part_length, part_at, put_codes, put_length}
use Rattle.field.proofs.Rows.{row_fits}
use Rattle.field.proofs.Where.{gained_set, gained_clear}
use Rattle.field.proofs.doublings.add_where.Goals as goal
use Rattle.field.proofs.doublings.add_where.Goals.{then-factor-place-eq1, else-factor-place-eq1}

pub loop-r-preserved : goal.loop-r-preserved
loop-r-preserved g c =
    let h = row_fits c.loop-r.r (length c.args.factors.now) (length c.args.row.now) c.loop-r-test.true in
    let a : ℕ = c.loop-r.r * length c.args.row.now in
    let n : ℕ = length c.args.row.now in
    let room : a + n ≤ length c.loop-r.rows = omega arith in
    let size = part_length c.loop-r.rows a n room in
    elim c.if-factor-place-eq1.branch [
      | then-factor-place-eq1 w ↦
          let len : length w.plus_row.new.out ≡ n = w.plus_row.auto.out ∙ size in
          rw w.rows-is (
            put_length c.loop-r.rows w.plus_row.new.out a n room len ∙ c.loop-r.invariant.0,
            put_codes c.loop-r.rows w.plus_row.new.out a n room len g.D.Doubling.arith.order c.loop-r.invariant.1 w.plus_row.ensures.codes,
            gained_set g.D.Doubling.arith (λ r. get_or c.args.factors.now r 0 / 2 ^ c.args.place % 2) c.args.row.now c.args.rows.now c.loop-r.rows c.loop-r.r c.loop-r.invariant.2
                w.plus_row.new.out room len w.if-factor-place-eq1.true
                (λ k l. w.plus_row.ensures.value k (subst (λ (m : ℕ). k < m) (sym size) l) ∙ ap (λ (x : ℕ). g.D.Doubling.arith.add x (get_or c.args.row.now k 0)) (part_at c.loop-r.rows a n k l)),
          )
      | else-factor-place-eq1 w ↦
          rw w.rows-is (
            c.loop-r.invariant.0,
            c.loop-r.invariant.1,
            gained_clear g.D.Doubling.arith (λ r. get_or c.args.factors.now r 0 / 2 ^ c.args.place % 2) c.args.row.now c.args.rows.now c.loop-r.rows c.loop-r.r c.loop-r.invariant.2
                (omega (arith, w.if-factor-place-eq1.false)),
          )
    ]
