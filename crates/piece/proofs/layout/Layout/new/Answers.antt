use Rattle.std.proofs.Common.{◌≡◌, ℕ, ◌+◌, ◌-◌, ◌/◌, true, length, sym, refl, ap, ◌∙◌, subst, arith, le-leb}
use Rattle.piece.specs.declared.Settings.{Settings}
use Rattle.piece.specs.declared.scheme.Scheme.{Scheme}
use Rattle.piece.specs.Cutting.{is_in_range, job_of}
use Rattle.piece.specs.Schemes.{as_settings}
use Rattle.piece.proofs.Ranges.{in_range_lawful, scheme_lawful}
use Rattle.piece.proofs.Laying.{filled, job_back, bytes, zeros, zeros_at}
use Rattle.piece.proofs.layout.Layout.new.Goals as goal

counted : (s : Scheme) (S : Settings) → as_settings s ≡ S → (n w : ℕ) → w ≡ (n + (S.m - 1)) / S.m → w ≡ (n + (s.m - 1)) / s.m
counted s S e n w h = h ∙ ap (λ (T : Settings). (n + (T.m - 1)) / T.m) (sym e)

pub invariant_of-result : goal.invariant_of-result
invariant_of-result c =
    let s = c.in_ok-scheme.scheme in
    let n : ℕ = length c.args.job.now in
    let w : ℕ = c.columns-columns.result in
    let many = counted s c.args.settings c.in_ok-scheme.ensures n w c.columns-columns.ensures in
    record {
      short = c.if-length-gt-LONGEST.false;
      many = many;
      bytes = λ i h. bytes s.m n w c.args.job.now (zeros 4111) c.lay_out.new.cells s.some refl many c.lay_out.ensures.laid c.lay_out.ensures.rest
          (λ k. omega (arith, c.type_inv.job k)) (zeros_at 4111) i;
      filled = filled s.m n w c.args.job.now (zeros 4111) c.lay_out.new.cells s.some refl many c.lay_out.ensures.laid c.lay_out.ensures.rest;
    }

pub returns : goal.returns
unfolding job_of
returns c =
    let s = c.in_ok-scheme.scheme in
    let n : ℕ = length c.args.job.now in
    let w : ℕ = c.columns-columns.result in
    let e = c.in_ok-scheme.ensures in
    let many = counted s c.args.settings e n w c.columns-columns.ensures in
    let t : is_in_range c.args.settings ≡ true = subst (λ (S : Settings). is_in_range S ≡ true) e (in_range_lawful (as_settings s) (scheme_lawful s)) in (
      rw (t, le-leb n 4096 c.if-length-gt-LONGEST.false) refl,
      e,
      job_back s.m n w c.args.job.now (zeros 4111) c.lay_out.new.cells s.some refl many c.lay_out.ensures.laid c.lay_out.ensures.rest,
    )
