use Rattle.std.proofs.Common.{◌≡◌, ℕ, ◌-◌, ◌<◌, ◌≤◌, length, get_or, take, drop, sym, ap, ◌∙◌, subst, arith, rules}
use Rattle.piece.specs.declared.Header.{Header}
use Rattle.piece.specs.Reading.{header_in, sensible}
use Rattle.piece.proofs.Readings.{same_code, same_header, some, few, refused, accepted}
use Rattle.std.proofs.lemmas.List.{take_rest}
use Rattle.std.proofs.lemmas.Result.{err_from_is_err_and}
use Rattle.piece.proofs.read.read.Goals as goal

pub returns-then-code-wants : goal.returns-then-code-wants
returns-then-code-wants g c =
    let xs = c.args.piece.now in
    let l : 10 ≤ length xs = search rules in
    let small : (k : ℕ) → get_or xs k 0 < 256 = λ k. omega (arith, c.type_inv.piece k) in
    (l, c.split-code.ensures.code ∙ same_code xs l small, c.code-wants.ensures, c.if-code-wants.true)

pub returns-then-not-is_sensible : goal.returns-then-not-is_sensible
returns-then-not-is_sensible g c =
    let xs = c.args.piece.now in
    let l : 10 ≤ length xs = search rules in
    let small : (k : ℕ) → get_or xs k 0 < 256 = λ k. omega (arith, c.type_inv.piece k) in
    let h : c.split-code.result.1 ≡ header_in xs = c.split-code.ensures.header ∙ same_header xs l small in (
      record { long = l; field = sym (c.split-code.ensures.code ∙ same_code xs l small) ∙ c.if-code-wants.false ∙ c.code-wants.ensures },
      ap (λ (H : Header). H.settings.rows) h,
      ap (λ (H : Header). H.settings.m) h,
      ap (λ (H : Header). H.settings.n) h,
      ap (λ (H : Header). H.number) h,
      ap (λ (H : Header). H.length) h,
      ap sensible (sym h) ∙ sym c.if-not-is_sensible.ensures,
    )

pub check_body-requires-clause-some : goal.check_body-requires-clause-some
check_body-requires-clause-some g c =
    let xs = c.args.piece.now in
    let l : 10 ≤ length xs = search rules in
    let small : (k : ℕ) → get_or xs k 0 < 256 = λ k. omega (arith, c.type_inv.piece k) in
    let h : c.split-code.result.1 ≡ header_in xs = c.split-code.ensures.header ∙ same_header xs l small in
    subst (λ (H : Header). 1 ≤ H.settings.m) (sym h) (some xs l small)

pub check_body-requires-clause-few : goal.check_body-requires-clause-few
check_body-requires-clause-few g c =
    let xs = c.args.piece.now in
    let l : 10 ≤ length xs = search rules in
    let small : (k : ℕ) → get_or xs k 0 < 256 = λ k. omega (arith, c.type_inv.piece k) in
    let h : c.split-code.result.1 ≡ header_in xs = c.split-code.ensures.header ∙ same_header xs l small in
    subst (λ (H : Header). H.settings.m ≤ 16) (sym h) (few xs l small)

pub returns-in_err-check_body : goal.returns-in_err-check_body
returns-in_err-check_body g c =
    let xs = c.args.piece.now in
    let l : 10 ≤ length xs = search rules in
    let small : (k : ℕ) → get_or xs k 0 < 256 = λ k. omega (arith, c.type_inv.piece k) in
    let h : c.split-code.result.1 ≡ header_in xs = c.split-code.ensures.header ∙ same_header xs l small in
    let p = err_from_is_err_and c.from_residual.result c.from_residual.ensures.1 in
    rw (p.1, p.2) (refused g.F.Field.ops xs c.split-code.result.1 (take (length xs - 10) (drop 10 xs)) c.in_err-check_body.field-0.0 (take_rest xs 10) h
    (record { long = l; field = sym (c.split-code.ensures.code ∙ same_code xs l small) ∙ c.if-code-wants.false ∙ c.code-wants.ensures })
    (sym c.if-not-is_sensible.ensures) c.in_err-check_body.ensures)

pub returns : goal.returns
returns g c =
    let xs = c.args.piece.now in
    let l : 10 ≤ length xs = search rules in
    let small : (k : ℕ) → get_or xs k 0 < 256 = λ k. omega (arith, c.type_inv.piece k) in
    let h : c.split-code.result.1 ≡ header_in xs = c.split-code.ensures.header ∙ same_header xs l small in (
      accepted g.F.Field.ops xs c.split-code.result.1 (take (length xs - 10) (drop 10 xs)) (take_rest xs 10) h
          (record { long = l; field = sym (c.split-code.ensures.code ∙ same_code xs l small) ∙ c.if-code-wants.false ∙ c.code-wants.ensures })
          (sym c.if-not-is_sensible.ensures) c.in_ok-check_body.ensures,
      h,
      take_rest xs 10,
    )
