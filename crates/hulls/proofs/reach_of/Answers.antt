use Rattle.std.proofs.Common.{rules}
use Rattle.hulls.proofs.Hulls.{covers_none, covers_more}
use Rattle.hulls.proofs.reach_of.Goals as goal

pub loop-j-init : goal.loop-j-init
loop-j-init c = covers_none _ _ _ _

pub loop-j-preserved : goal.loop-j-preserved
loop-j-preserved c = covers_more _ _ _ _ c.args.words.now c.args.at c.loop-j.j c.loop-j.invariant (search rules) (search rules)
