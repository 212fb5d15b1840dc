-- The measure is the depth that is left.
use Rattle.evaluation.proofs.+evaluate.Given as goal

abbrev pub decreases-evaluate : goal.decreases-evaluate
decreases-evaluate l = l.depth
