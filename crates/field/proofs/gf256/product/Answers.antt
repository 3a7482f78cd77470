use Rattle.std.proofs.Common.{◌≡◌, ◌<◌, sym, ap₂, ◌∙◌, arith}
use Rattle.field.specs.Gf256.{Remainder, carryless, times}
use Rattle.field.specs.Laws256.{laws256}
use Rattle.field.proofs.Remainders.{product_remainder, one_remainder}
use Rattle.field.proofs.gf256.product.Goals as goal

pub overflow_cast-result : goal.overflow_cast-result
overflow_cast-result c =
    let h : times c.args.a c.args.b < 256 = laws256.mul_below c.args.a c.args.b (omega arith) (omega arith) in
    let e : c.mul-p.result ≡ times c.args.a c.args.b = c.mul-p.ensures ∙ ap₂ times c.from.ensures c.from-2.ensures in
    let k : c.mul-p.result < 256 = omega arith in
    omega arith

pub returns : goal.returns
returns c =
    let rest : Remainder (carryless c.args.a c.args.b) (times c.args.a c.args.b) = product_remainder c.args.a c.args.b (omega arith) (omega arith) in
    let e : c.mul-p.result ≡ times c.args.a c.args.b = c.mul-p.ensures ∙ ap₂ times c.from.ensures c.from-2.ensures in
    record {
      value = e;
      remainder = rw e rest;
      only = λ s h. one_remainder (carryless c.args.a c.args.b) s (times c.args.a c.args.b) h rest ∙ sym e;
    }
