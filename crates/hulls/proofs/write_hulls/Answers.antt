use Rattle.std.proofs.Common.{arith, rules}
use mir.Syntax.{w32}
use mir.Val.{SFits}
use Rattle.hulls.proofs.Hulls.{written_more}
use Rattle.signed.proofs.Machine.{back}
use Rattle.hulls.proofs.write_hulls.Goals as goal

pub loop-b-preserved : goal.loop-b-preserved
loop-b-preserved c =
    let r = c.reach_of-h.result in
    let start : SFits w32 r.start = search rules in
    let nstart : SFits w32 r.nstart = search rules in
    rw (back start, back nstart)
    (written_more c.loop-b.hulls c.args.words.now c.args.base c.args.n c.loop-b.b r.start r.nstart (omega arith) c.loop-b.invariant (rw c.block_size.ensures at c.reach_of-h.ensures))
