use Rattle.std.proofs.Common.{◌≡◌, ℕ, ◌+◌, ◌-◌, ◌*◌, ◌/◌, ◌%◌, ◌^◌, ◌<◌, length, get_or, sym, refl, subst, arith}
use Rattle.field.specs.Digits.{gained_all}
use Rattle.field.proofs.Combining.{DigitsDone, done_start, done_next}
use Rattle.field.proofs.doublings.combine.Goals as goal

pub loop-place-init : goal.loop-place-init
loop-place-init g c =
    let zeros : (k : ℕ) → k < length c.fill.new.self → get_or c.fill.new.self k 0 ≡ 0 = λ k h. c.fill.ensures.clones k 0 (omega arith) refl in
    let e : length c.fill.new.self ≡ length c.args.out.now = c.fill.ensures.len in
    let size : length c.args.rows.now ≡ length c.args.factors.now * length c.fill.new.self = rw e c.requires.size in
    record {
      codes = λ k h. subst (λ (v : ℕ). v < g.D.Doubling.arith.order) (sym (zeros k h)) (omega (arith, g.met.D.Doubling.laws.one_below));
      done = subst (λ (p : ℕ). DigitsDone g.D.Doubling.arith p c.args.rows.now c.args.factors.now (length c.fill.new.self) c.fill.new.self) (sym c.places-place.ensures)
          (done_start g.met.D.Doubling.laws c.args.rows.now c.args.factors.now (length c.fill.new.self) c.requires.factors c.requires.codes size g.met.D.Doubling.digits c.fill.new.self zeros);
    }

pub loop-place-preserved : goal.loop-place-preserved
loop-place-preserved g c =
    let w : ℕ = length c.fill.new.self in
    let p : ℕ = c.loop-place.place - 1 in
    let e : length c.fill.new.self ≡ length c.args.out.now = c.fill.ensures.len in
    let d : length c.double_row.new.row ≡ w = omega arith in
    let size : length c.args.rows.now ≡ length c.args.factors.now * w = rw e c.requires.size in
    let up : c.loop-place.place ≡ p + 1 = omega (arith, c.loop-place-test.true) in
    record {
      codes = c.gather.ensures.codes;
      done = done_next g.met.D.Doubling.laws c.args.rows.now c.args.factors.now w c.requires.factors c.requires.codes size g.met.D.Doubling.digits
          p c.loop-place.out c.double_row.new.row c.gather.new.out
          (subst (λ (q : ℕ). DigitsDone g.D.Doubling.arith q c.args.rows.now c.args.factors.now w c.loop-place.out) up c.loop-place.invariant.done)
          (λ k h. c.double_row.ensures.value k (omega arith))
          (λ k h. subst (λ (v : ℕ). get_or c.gather.new.out k 0 ≡ gained_all g.D.Doubling.arith (length c.args.factors.now) (λ j. get_or c.args.factors.now j 0 / 2 ^ p % 2) (λ j. get_or c.args.rows.now (j * v + k) 0) (get_or c.double_row.new.row k 0)) d
          (c.gather.ensures.value k (omega arith)));
    }
