use Rattle.std.proofs.Common.{◌≡◌, ℕ, ◌+◌, ◌-◌, ◌*◌, ◌/◌, ◌%◌, List, [], ◌∷◌, get_or, sym, ap₂, ◌∙◌, arith}
use Rattle.piece.specs.declared.Header.{Header}
use Rattle.piece.proofs.Headers.{header_bytes}
use Rattle.piece.proofs.head.head.Goals as goal

pub returns : goal.returns
returns c =
    let h : Header = c.args.h.now in
    let front : List ℕ → List ℕ = λ rest. (c.args.code * 64 + h.settings.rows * 16 + (h.settings.m - 1)) ∷ ((h.settings.n - 1) * 8 + (h.number - 1) / 4) ∷ ((h.number - 1) % 4 * 64 + h.length / 256) ∷ h.length % 256 ∷ rest in
    let job : h.job / 256 % 256 ≡ h.job / 256 = omega arith in
    let stamp : h.stamp / 16777216 % 256 ≡ h.stamp / 16777216 = omega arith in
    ap₂ (λ (js ss : List ℕ). front (get_or js 0 0 ∷ get_or js 1 0 ∷ get_or ss 0 0 ∷ get_or ss 1 0 ∷ get_or ss 2 0 ∷ get_or ss 3 0 ∷ [])) c.to_be_bytes.ensures c.to_be_bytes-2.ensures
    ∙ ap₂ (λ (j s : ℕ). front (j ∷ h.job % 256 ∷ s ∷ h.stamp / 65536 % 256 ∷ h.stamp / 256 % 256 ∷ h.stamp % 256 ∷ [])) job stamp
    ∙ sym (header_bytes c.args.code h.settings h.number h.length h.job h.stamp
    c.requires.code c.requires.lawful c.requires.least c.requires.most c.requires.short (omega arith) (omega arith))
