-- `leaf` meets its contract: a `_`, a letter, or neither.
use Rattle.std.proofs.Common.{◌∙◌}
use Rattle.leaves.proofs.Parts.{plain, leaf_epsilon, leaf_letter}
use Rattle.leaves.proofs.leaf.Goals as goal

pub returns-then-byte_is : goal.returns-then-byte_is
returns-then-byte_is c =
    rw c.leaf.ensures.0
    (leaf_epsilon _ _ c.requires.1 _ (c.byte_is.ensures.is ∙ c.if-byte_is.true) (c.byte_is.ensures.inside c.if-byte_is.true) c.leaf.ensures.1)

pub returns-in_err-end : goal.returns-in_err-end
returns-in_err-end c =
    rw c.from_residual.ensures
    (plain c.args.text.now c.args.at c.requires.1 (c.byte_is.ensures.is ∙ c.if-byte_is.false) ∙ c.in_err-end.ensures)

pub returns : goal.returns
returns c =
    rw c.leaf-2.ensures.0
    (leaf_letter _ _ c.requires.1 _ (c.byte_is.ensures.is ∙ c.if-byte_is.false) c.in_ok-end.ensures c.leaf-2.ensures.1)
