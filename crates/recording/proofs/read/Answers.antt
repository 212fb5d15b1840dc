-- Each answer is given by the first test that fails.
use Rattle.std.proofs.Common.{ap, refl}
use Rattle.recording.proofs.Refusals.{passed, failed, wrong_headed, wrong_changed, nothing_wrong}
use mathlib.Core.Bool.{not}
use Rattle.recording.proofs.read.Goals as goal

pub returns-then-not-headed : goal.returns-then-not-headed
returns-then-not-headed c = wrong_headed _ _ (passed c.sized.ensures (ap not c.if-not-sized.false)) (failed c.headed.ensures (ap not c.if-not-headed.true))

pub returns-then-not-all_changed : goal.returns-then-not-all_changed
returns-then-not-all_changed c =
    wrong_changed _ _ (passed c.sized.ensures (ap not c.if-not-sized.false)) (passed c.headed.ensures (ap not c.if-not-headed.false)) (failed c.all_changed.ensures (ap not c.if-not-all_changed.true))

pub invariant_of-result : goal.invariant_of-result
invariant_of-result c = record {
  recorded = (nothing_wrong _ _ (passed c.sized.ensures (ap not c.if-not-sized.false)) (passed c.headed.ensures (ap not c.if-not-headed.false)) (passed c.all_changed.ensures (ap not c.if-not-all_changed.false)) (rw c.le32-duration.ensures at c.tick.ensures)).1;
}

pub returns : goal.returns
returns c = (refl, nothing_wrong _ _ (passed c.sized.ensures (ap not c.if-not-sized.false)) (passed c.headed.ensures (ap not c.if-not-headed.false)) (passed c.all_changed.ensures (ap not c.if-not-all_changed.false)) (rw c.le32-duration.ensures at c.tick.ensures))
