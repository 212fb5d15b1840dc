use Rattle.std.proofs.Common.{arith, subst}
use Rattle.star.proofs.Turning.{Turning, turn_start, turn_operands, turn_kept, turn_next, turn_end, turn_overflow, turn_stop}
use Rattle.star.proofs.all_rounds.Goals as goal

pub loop-left-init : goal.loop-left-init
loop-left-init c = (omega arith, subst (Turning _ _ _ _ _ _ _ _ _) (omega arith) (turn_start c.requires.0 c.requires.1))

pub returns-then-left-eq0 : goal.returns-then-left-eq0
returns-then-left-eq0 c = record {
  ended = turn_stop c.requires.0 c.loop-left.invariant.1 (omega arith);
  kept = c.loop-left.invariant.1.frame;
}

pub one_round-requires : goal.one_round-requires
one_round-requires c = turn_operands c.requires.0 c.loop-left.invariant.1

pub returns-in_default : goal.returns-in_default
returns-in_default c = record {
  ended = turn_overflow c.requires.0 c.loop-left.invariant.1 (omega (arith, c.loop-left.invariant.0)) (omega arith) c.in_default.ensures.round c.one_round.ensures.kept;
  kept = turn_kept c.requires.0 c.loop-left.invariant.1 c.one_round.ensures.kept;
}

pub returns-in_default-changed : goal.returns-in_default-changed
returns-in_default-changed c = record {
  ended = turn_end c.requires.0 c.loop-left.invariant.1 (omega (arith, c.loop-left.invariant.0)) (rw c.in_default-changed.is at c.in-Ok.ensures.round).0.0 c.one_round.ensures.kept;
  kept = turn_kept c.requires.0 c.loop-left.invariant.1 c.one_round.ensures.kept;
}

pub loop-left-preserved : goal.loop-left-preserved
loop-left-preserved c = (
  omega (arith, c.loop-left.invariant.0),
  rw (c.swap.ensures.x_after, c.swap.ensures.y_after)
      (subst (Turning _ _ _ _ _ _ _ _ _) (omega (arith, c.loop-left.invariant.0)) (turn_next c.requires.0 c.loop-left.invariant.1 (rw c.in-Some.is at c.in-Ok.ensures.round).0 c.one_round.ensures.kept)),
)
