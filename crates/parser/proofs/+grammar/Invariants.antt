-- The measure of the readers of the grammar's levels: the unread text, and then the level.
-- A loop keeps the part that is read (`Reached`), and the length of the nodes.
use Rattle.std.proofs.Common.{◌≡◌, ◌*◌, length, ◌+◌, ◌-◌}
use Rattle.descent.specs.Descent.{joining, repeating}
use Rattle.leaves.specs.Reading.{Reached}
use Rattle.descent.proofs.Steps.{joins_after, postfixes_after}
use Rattle.parser.proofs.Levels.{operand_level}
use Rattle.parser.proofs.+grammar.Given as goal

abbrev pub decreases-chain : goal.decreases-chain
decreases-chain l = (length l.text.now - l.at) * 10 + (operand_level l.join + 1)

abbrev pub decreases-factor : goal.decreases-factor
decreases-factor l = (length l.text.now - l.at) * 10 + 3

abbrev pub decreases-operand : goal.decreases-operand
decreases-operand l = (length l.text.now - l.at) * 10 + operand_level l.join

abbrev pub decreases-primary : goal.decreases-primary
decreases-primary l = (length l.text.now - l.at) * 10 + 1

abbrev pub decreases-repeat : goal.decreases-repeat
decreases-repeat l = (length l.text.now - l.at) * 10 + 2

abbrev pub invariant-chain-loop-join : goal.invariant-chain-loop-join
invariant-chain-loop-join l =
    Reached (joining l.join) (joins_after l.join) l.text l.at l.used l.initial.nodes l.nodes l.tree × (length l.nodes ≡ length l.initial.nodes)

abbrev pub decreases-chain-loop-join : goal.decreases-chain-loop-join
decreases-chain-loop-join l = length l.text - l.tree.at

abbrev pub invariant-repeat-loop-end : goal.invariant-repeat-loop-end
invariant-repeat-loop-end l =
    Reached repeating postfixes_after l.text l.at l.used l.initial.nodes l.nodes l.tree × (length l.nodes ≡ length l.initial.nodes)

abbrev pub decreases-repeat-loop-end : goal.decreases-repeat-loop-end
decreases-repeat-loop-end l = length l.text - l.tree.at
