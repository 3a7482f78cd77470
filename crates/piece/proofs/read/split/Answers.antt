use Rattle.std.proofs.Common.{◌≡◌, ℕ, ◌+◌, ◌*◌, ◌<◌, ◌≤◌, List, length, get_or, sym, ap₂, ◌∙◌, arith, rules}
use Rattle.piece.specs.declared.Header.{Header}
use Rattle.piece.proofs.Fields.{code_of, fields, header_of}
use Rattle.piece.proofs.read.split.Goals as goal

pub returns : goal.returns
returns c =
    let xs : List ℕ = c.args.head.now in
    let ten : 10 ≤ length xs = omega arith in
    let small : (k : ℕ) → get_or xs k 0 < 256 = λ k. search rules in
    let job : c.from_be_bytes.result ≡ get_or xs 4 0 * 256 + get_or xs 5 0 = omega (arith, c.from_be_bytes.ensures) in
    let stamp : c.from_be_bytes-2.result ≡ get_or xs 6 0 * 16777216 + get_or xs 7 0 * 65536 + get_or xs 8 0 * 256 + get_or xs 9 0 = omega (arith, c.from_be_bytes-2.ensures) in
    let f : Header = fields xs ten small in
    record {
      code = sym (code_of xs ten small);
      header = ap₂ (λ (j s : ℕ). record { settings = f.settings; number = f.number; length = f.length; job = j; stamp = s }) job stamp ∙ sym (header_of xs ten small);
    }
