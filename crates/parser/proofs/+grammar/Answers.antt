-- The readers of the grammar's levels meet their contracts.
use Rattle.std.proofs.Common.{refl, ap, ◌∙◌, arith}
use Rattle.leaves.specs.Reading.{is_wrong_unary}
use Rattle.parser.proofs.Checks.{capped_wrong_unary}
use Rattle.parser.proofs.Additions.{
  joins_begin,
  joins_none,
  joins_end,
  joins_stop,
  joins_on_to,
  untilded_as,
  tilded_stop,
  tilded_on,
  postfixes_begin,
  postfixes_none,
  postfixes_end,
  postfixes_on_to,
  bracketed_stop,
  bracketed_as,
}
use Rattle.parser.proofs.+grammar.Goals as goal

pub chain-returns-in_err-tree : goal.chain-returns-in_err-tree
chain-returns-in_err-tree t c = rw c.from_residual.ensures (joins_none c.args.join _ c.in_err-tree.ensures)

pub chain-loop-join-init : goal.chain-loop-join-init
chain-loop-join-init t c = (joins_begin c.args.join c.in_ok-tree.ensures, refl)

pub chain-returns-in_err-right : goal.chain-returns-in_err-right
chain-returns-in_err-right t c =
    let seen = rw c.symbol-byte.ensures at c.byte_is.ensures in
    rw c.from_residual-in_err-right.ensures
    (joins_stop c.args.join c.loop-join.invariant.0 (seen.is ∙ c.loop-join-test.true) (seen.inside c.loop-join-test.true) c.in_err-right.ensures)

pub chain-loop-join-preserved : goal.chain-loop-join-preserved
chain-loop-join-preserved t c =
    let seen = rw c.symbol-byte.ensures at c.byte_is.ensures in (
      joins_on_to c.args.join c.loop-join.invariant.0 (seen.is ∙ c.loop-join-test.true) (seen.inside c.loop-join-test.true) c.in_ok-right.ensures c.over_two-tree.ensures.0 c.over_two-tree.ensures.1,
      omega (arith, c.over_two-tree.auto.nodes, c.operand-in-loop-join.auto.nodes, c.loop-join.invariant.1),
    )

pub chain-returns : goal.chain-returns
chain-returns t c =
    let seen = rw c.symbol-byte.ensures at c.byte_is.ensures in
    joins_end c.args.join c.loop-join.invariant.0 c.in_ok-tree.ensures.kept (seen.is ∙ c.loop-join-test.false)

pub factor-returns-in_err-inner : goal.factor-returns-in_err-inner
factor-returns-in_err-inner t c =
    rw c.from_residual.ensures
    (tilded_stop _ _ (c.byte_is.ensures.is ∙ c.if-byte_is.true) (c.byte_is.ensures.inside c.if-byte_is.true) c.in_err-inner.ensures)

pub factor-returns-then-byte_is : goal.factor-returns-then-byte_is
factor-returns-then-byte_is t c =
    tilded_on _ _ (c.byte_is.ensures.is ∙ c.if-byte_is.true) (c.byte_is.ensures.inside c.if-byte_is.true) c.in_ok-inner.ensures c.over_one.ensures.0 c.over_one.ensures.1

pub factor-returns : goal.factor-returns
factor-returns t c = untilded_as c.args.text.now c.args.at c.args.used c.args.nodes.now c.repeat-2.new.nodes (c.byte_is.ensures.is ∙ c.if-byte_is.false) c.repeat-2.result c.repeat-2.ensures

pub primary-returns-in_err-inner : goal.primary-returns-in_err-inner
primary-returns-in_err-inner t c =
    rw c.from_residual.ensures
    (bracketed_stop _ _ (c.byte_is.ensures.is ∙ c.if-byte_is.true) (c.byte_is.ensures.inside c.if-byte_is.true) c.in_err-inner.ensures)

pub primary-returns-then-byte_is : goal.primary-returns-then-byte_is
primary-returns-then-byte_is t c =
    bracketed_as _ _ (c.byte_is.ensures.is ∙ c.if-byte_is.true) (c.byte_is.ensures.inside c.if-byte_is.true) c.in_ok-inner.ensures c.closed.result c.closed.ensures

pub repeat-returns-in_err-tree : goal.repeat-returns-in_err-tree
repeat-returns-in_err-tree t c = rw c.from_residual.ensures (postfixes_none _ c.in_err-tree.ensures)

pub repeat-loop-end-init : goal.repeat-loop-end-init
repeat-loop-end-init t c = (postfixes_begin c.in_ok-tree.ensures, refl)

pub repeat-loop-end-preserved : goal.repeat-loop-end-preserved
repeat-loop-end-preserved t c =
    let x = c.in-Some.ensures in (
      postfixes_on_to c.loop-end.invariant.0 x (c.wrong_operator.ensures ∙ ap is_wrong_unary x.is ∙ capped_wrong_unary x.x) c.over_one-tree.ensures.0 c.over_one-tree.ensures.1,
      omega (arith, c.over_one-tree.auto.nodes, c.loop-end.invariant.1),
    )

pub repeat-returns : goal.repeat-returns
repeat-returns t c = postfixes_end c.loop-end.invariant.0 c.in_ok-tree.ensures.kept c.in_default.ensures
