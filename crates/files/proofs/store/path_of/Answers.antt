use Rattle.std.proofs.Common.{◌≡◌, ℕ, ◌-◌, ◌^◌, false, [], List, ◌++◌, IfOk, codes, string_bytes, ap, ◌∙◌, rules}
use Rattle.std.specs.Fmt.{decimal, padded_integral, format_spec}
use Rattle.std.proofs.lemmas.Result.{IfOk-weaker}
use Rattle.files.specs.Naming.{between, path_of}
use Rattle.files.proofs.Digits.{at_two}
use Rattle.files.proofs.store.path_of.Goals as goal

pub returns : goal.returns
unfolding padded_integral
returns c =
    let folder = c.args.folder.now in
    let name = c.args.name.now in
    let slash = c.between-between.result.now in
    let padded : List ℕ = padded_integral (format_spec 32 0 4 2 (2 ^ 64 - 1)) false [] (decimal c.args.number) in
    let written : IfOk c.format.result (λ path. string_bytes path ≡ folder ++ (slash ++ (name ++ (codes "." ++ padded)))) = search rules in
    IfOk-weaker c.format.result _ (λ path. string_bytes path ≡ path_of folder name c.args.number)
    (λ path e. e ∙ ap (λ (s : List ℕ). folder ++ (s ++ (name ++ (codes "." ++ padded)))) c.between-between.ensures
    ∙ ap (λ (ds : List ℕ). folder ++ (between folder ++ (name ++ (codes "." ++ ds)))) (at_two c.args.number c.ranges.number.fits)) written
