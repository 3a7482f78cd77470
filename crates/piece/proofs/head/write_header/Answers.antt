use Rattle.std.proofs.Common.{◌≡◌, length, ◌∙◌, arith, length-take-le}
use Rattle.std.proofs.lemmas.Slice.{take-put_mid, drop-put_mid}
use Rattle.piece.proofs.head.write_header.Goals as goal

pub returns : goal.returns
returns c =
    let ten : length c.copy_from_slice.new.self ≡ 10 = c.copy_from_slice.ensures.len ∙ length-take-le 10 c.args.out.now c.requires.room in
    record {
      front = take-put_mid 0 10 c.args.out.now c.copy_from_slice.new.self 10 (omega arith) (omega arith) ∙ c.copy_from_slice.ensures.after ∙ c.head.ensures;
      rest = drop-put_mid 0 10 c.args.out.now c.copy_from_slice.new.self 10 (omega arith) (omega arith) ten;
    }
