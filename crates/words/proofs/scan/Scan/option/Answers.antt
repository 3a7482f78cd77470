use Rattle.std.proofs.Common.{◌≡◌, ℕ, List, ◌∷◌, ◌++◌, Some, ap, ◌∙◌, inr, lit<}
use Rattle.std.proofs.lemmas.Str.Pattern.{split_parts}
use Rattle.std.proofs.lemmas.Result.{IfOk-weaker}
use Rattle.words.specs.declared.setting.Setting.{Setting}
use Rattle.words.specs.declared.scan.Scan.{Scan}
use Rattle.words.specs.Named.{setting_word_of}
use Rattle.words.specs.Scans.{Opens, Takes}
use Rattle.words.proofs.scan.Scan.option.Goals as goal

-- a word that is cut at its equals sign
joined : {O : Type 0} (Sets : Setting → List ℕ → O → O → Type 0) (w n v : List ℕ) (x : Setting) (s t : Scan O) → w ≡ n ++ (61 ∷ v) → n ≡ setting_word_of x → Takes Sets x v s t → Opens Sets w s t
joined Sets w n v x s t e h k = inr (inr (x, v, e ∙ ap (λ (u : List ℕ). u ++ (61 ∷ v)) h, k))

pub returns-in_ok-setting-in-Some-clause-opens : goal.returns-in_ok-setting-in-Some-clause-opens
returns-in_ok-setting-in-Some-clause-opens g c =
    let sets = g.O.Options.sets in
    let w = c.args.word.now in
    let name = c.in-Some.name in
    let value = c.in-Some.value in
    let x = c.in_ok-setting-in-Some.setting in
    let s = c.args.self in
    let parts = split_parts 61 w (Some (name, value)) c.in-Some.ensures.cases (lit< tt) in
    let opens : (t : Scan g.row.O.Denot) → Takes sets x value.now s t → Opens sets w s t = λ t k. joined sets w name.now value.now x s t parts.0 c.in_ok-setting-in-Some.ensures.named k in
    IfOk-weaker c.set.result (λ t. Takes sets x value.now s t) (λ t. Opens sets w s t) opens c.set.ensures.takes
