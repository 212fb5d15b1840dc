-- The evaluator meets its contract.
use Rattle.std.proofs.Common.{◌+◌, arith}
use Rattle.std.proofs.lemmas.Result.{err_from_is_err_and}
use Rattle.list.proofs.Slots.{kept_trans}
use Rattle.list.specs.Slots.{slot_words}
use Rattle.expression.proofs.Laws.{planted_some}
use Rattle.primaries.proofs.Windows.{few_channels}
use Rattle.evaluation.proofs.Evaluator.{node_is, roomy, rest_falls, rest_few, room_left, room_right, room_three, room_second, kept_left, kept_right, kept_three, only_operand, left_operand, left_there, right_operand, leaf_done, one_stops, one_done, left_stops, right_stops, two_done}
use Rattle.evaluation.proofs.+evaluate.Goals as goal

pub overflow_sub-rest : goal.overflow_sub-rest
overflow_sub-rest t c =
    planted_some c.requires.0.planted

pub overflow_cast-channel : goal.overflow_cast-channel
overflow_cast-channel t c =
    omega (arith, (node_is _ c.node_at.ensures c.in-Literal.is c.requires.0.planted).1, few_channels c.args.window.now)

pub evaluate-requires : goal.evaluate-requires
evaluate-requires t c =
    let s = node_is _ c.node_at.ensures c.in-Applied.is c.requires.0.planted in
    (rest_falls (planted_some c.requires.0.planted) c.decreases, (record { expression = s.0; planted = s.3 }, rest_few c.requires.1, room_left (planted_some c.requires.0.planted) _ c.requires.2))

pub returns-in_err-only-in-Applied-clause-value : goal.returns-in_err-only-in-Applied-clause-value
returns-in_err-only-in-Applied-clause-value t c = λ e p.
    let s = node_is _ c.node_at.ensures c.in-Applied.is p in
    let q = err_from_is_err_and c.from_residual.result c.from_residual.ensures.1 in
    rw (q.1, q.2) (one_stops c.args.window.now s.0 c.in-Applied.op s.1 _ c.evaluate.new.work c.args.base c.evaluate.new.work c.args.base c.in_err-only-in-Applied.field-0.0 (c.in_err-only-in-Applied.ensures.value s.0 s.3))

pub apply-requires : goal.apply-requires
apply-requires t c =
    let s = node_is _ c.node_at.ensures c.in-Applied.is c.requires.0.planted in
    let v = c.in_ok-only-in-Applied.ensures.value s.0 s.3 in
    (only_operand c.args.window.now s.0 v (roomy c.evaluate.ensures.kept (room_three (planted_some c.requires.0.planted) _ c.requires.2)), s.2)

pub evaluate-requires-in-Infix : goal.evaluate-requires-in-Infix
evaluate-requires-in-Infix t c =
    let s = node_is _ c.node_at.ensures c.in-Infix.is c.requires.0.planted in
    (rest_falls (planted_some c.requires.0.planted) c.decreases, (record { expression = s.0; planted = s.3 }, rest_few c.requires.1, room_left (planted_some c.requires.0.planted) _ c.requires.2))

pub returns-in_err-first-in-Infix-clause-value : goal.returns-in_err-first-in-Infix-clause-value
returns-in_err-first-in-Infix-clause-value t c = λ e p.
    let s = node_is _ c.node_at.ensures c.in-Infix.is p in
    let r = c.from_residual-in_err-first-in-Infix in
    let q = err_from_is_err_and r.result r.ensures.1 in
    rw (q.1, q.2) (left_stops c.args.window.now s.0 s.1 c.in-Infix.op s.2 _ c.evaluate-in-Infix.new.work c.args.base c.evaluate-in-Infix.new.work c.args.base c.in_err-first-in-Infix.field-0.0 (c.in_err-first-in-Infix.ensures.value s.0 s.3))

pub evaluate-requires-in-Infix-2 : goal.evaluate-requires-in-Infix-2
evaluate-requires-in-Infix-2 t c =
    let s = node_is _ c.node_at.ensures c.in-Infix.is c.requires.0.planted in
    (rest_falls (planted_some c.requires.0.planted) c.decreases, (record { expression = s.1; planted = s.4 }, rest_few c.requires.1, roomy c.evaluate-in-Infix.ensures.kept (room_right (planted_some c.requires.0.planted) _ c.requires.2)))

pub returns-in_err-second-in-Infix : goal.returns-in_err-second-in-Infix
returns-in_err-second-in-Infix t c =
    record {
      value =
          λ e p.
          let s = node_is _ c.node_at.ensures c.in-Infix.is p in
          let v = c.in_ok-first-in-Infix.ensures.value s.0 s.3 in
          let r = c.from_residual-in_err-second-in-Infix in
          let q = err_from_is_err_and r.result r.ensures.1 in
          rw (q.1, q.2) (right_stops c.args.window.now s.0 s.1 c.in-Infix.op s.2 _ c.evaluate-in-Infix-2.new.work c.args.base v c.evaluate-in-Infix-2.new.work (c.args.base + slot_words) c.in_err-second-in-Infix.field-0.0 (c.in_err-second-in-Infix.ensures.value s.1 s.4));
      kept = kept_trans (kept_left (planted_some c.requires.0.planted) _ c.evaluate-in-Infix.ensures.kept) (kept_right (planted_some c.requires.0.planted) _ c.evaluate-in-Infix-2.ensures.kept);
    }

pub combine-requires : goal.combine-requires
combine-requires t c =
    let s = node_is _ c.node_at.ensures c.in-Infix.is c.requires.0.planted in
    let v = c.in_ok-first-in-Infix.ensures.value s.0 s.3 in
    let w = c.in_ok-second-in-Infix.ensures.value s.1 s.4 in (
      left_operand c.args.window.now s.0 v _ c.evaluate-in-Infix-2.ensures.kept (roomy c.evaluate-in-Infix.ensures.kept (room_three (planted_some c.requires.0.planted) _ c.requires.2)),
      right_operand c.args.window.now s.1 w (roomy c.evaluate-in-Infix-2.ensures.kept (roomy c.evaluate-in-Infix.ensures.kept (room_second (planted_some c.requires.0.planted) _ c.requires.2))),
    )

pub returns-in-Epsilon-clause-value : goal.returns-in-Epsilon-clause-value
returns-in-Epsilon-clause-value t c = λ e p.
    leaf_done c.args.window.now (node_is _ c.node_at.ensures c.in-Epsilon.is p) _ _ _ c.point.result (rw (c.ticks.ensures.from, c.ticks.ensures.to) at c.point.ensures.value)

pub returns-in-Literal-clause-value : goal.returns-in-Literal-clause-value
returns-in-Literal-clause-value t c = λ e p.
    leaf_done c.args.window.now (node_is _ c.node_at.ensures c.in-Literal.is p).0 _ _ _ c.literal.result c.literal.ensures.value

pub returns-in_ok-only-in-Applied : goal.returns-in_ok-only-in-Applied
returns-in_ok-only-in-Applied t c =
    record {
      value =
          λ e p.
          let s = node_is _ c.node_at.ensures c.in-Applied.is p in
          let v = c.in_ok-only-in-Applied.ensures.value s.0 s.3 in
          let ticks = c.ticks-in-Applied.ensures in
          one_done c.args.window.now s.0 c.in-Applied.op s.1 _ _ _ c.apply.result v (rw (ticks.from, ticks.to) at c.apply.ensures.value);
      kept = kept_trans (kept_left (planted_some c.requires.0.planted) _ c.evaluate.ensures.kept) (kept_three (planted_some c.requires.0.planted) _ c.apply.ensures.kept);
    }

pub returns-in_ok-second-in-Infix : goal.returns-in_ok-second-in-Infix
returns-in_ok-second-in-Infix t c =
    record {
      value =
          λ e p.
          let s = node_is _ c.node_at.ensures c.in-Infix.is p in
          let v = c.in_ok-first-in-Infix.ensures.value s.0 s.3 in
          let w = c.in_ok-second-in-Infix.ensures.value s.1 s.4 in
          two_done c.args.window.now s.0 s.1 c.in-Infix.op s.2 _ _ _ v c.combine.result w (left_there c.args.window.now s.0 v _ c.evaluate-in-Infix-2.ensures.kept) c.combine.ensures.value;
      kept = kept_trans (kept_left (planted_some c.requires.0.planted) _ c.evaluate-in-Infix.ensures.kept) (kept_trans (kept_right (planted_some c.requires.0.planted) _ c.evaluate-in-Infix-2.ensures.kept) (kept_three (planted_some c.requires.0.planted) _ c.combine.ensures.kept));
    }
