-- `print_tree` ends, since the depth that is left falls.
use Rattle.expression_cases.proofs.+print_tree.Given as goal

abbrev pub decreases-print_tree : goal.decreases-print_tree
decreases-print_tree g l = l.depth
