-- `work_out` meets its contract: the list that the evaluator left in the work buffer is delivered, and what it wrote is cleared.
use Rattle.std.proofs.Common.{arith}
use Rattle.delivery.proofs.Working.{in_front, worked}
use Rattle.meaning.proofs.Totals.{begun_almost}
use Rattle.runs.specs.Levels.{Shows}
use Rattle.delivery.proofs.work_out.Goals as goal

pub evaluate-evaluated-requires : goal.evaluate-evaluated-requires
evaluate-evaluated-requires c =
    (rw c.whole-window.ensures.size c.requires, omega arith, omega (arith, c.if-work-lt-WORK_WORDS.false))

pub deliver-worked-requires : goal.deliver-worked-requires
deliver-worked-requires c =
    let root = c.requires in
    in_front _ _ c.evaluate-evaluated.result _ (omega (arith, c.evaluate-evaluated.ensures.kept.same_length, c.if-work-lt-WORK_WORDS.false))
    (c.evaluate-evaluated.ensures.value root.expression (rw c.whole-window.ensures.size root.planted))

pub returns : goal.returns
returns c =
    let enough = c.if-work-lt-WORK_WORDS.false in
    let whole = c.whole-window.ensures in
    record {
      each = λ e p. worked _ (begun_almost (Shows _) _ _ e) _ _ (omega (arith, enough)) (omega arith) c.evaluate-evaluated.ensures.kept c.evaluate-evaluated.result
          (rw (whole.bytes, whole.from, whole.to) at (c.evaluate-evaluated.ensures.value e (rw whole.size p)))
          c.deliver-worked.ensures.0 c.deliver-worked.ensures.1 c.deliver-worked.ensures.2 c.clear.ensures;
    }
