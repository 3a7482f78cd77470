use Rattle.std.proofs.Common.{arith}
use Rattle.collection.proofs.Symbols.{row_more}
use Rattle.collection.proofs.back.write_row.Goals as goal

pub loop-k-preserved : goal.loop-k-preserved
loop-k-preserved c =
    let w = c.requires.within c.loop-k.k c.loop-k-test.true in
    row_more c.args.m c.args.j c.loop-k.k c.args.row.now c.args.job.now c.loop-k.job c.requires.place (omega (arith, w, c.loop-k.invariant.size)) c.loop-k.invariant
