use Rattle.list.proofs.Scan.{sift_step, sift_end}
use Rattle.list.proofs.remove_inside.Goals as goal

pub loop-i-preserved : goal.loop-i-preserved
loop-i-preserved c = sift_step c.loop-i.invariant c.loop-i-test.true c.requires.0.few c.keep_outside-kept.ensures

pub returns : goal.returns
returns c = record {
  left = sift_end c.loop-i.invariant c.loop-i-test.false c.requires.0.few;
  kept = c.loop-i.invariant.frame;
}
