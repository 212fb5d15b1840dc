-- What a tree keeps of the part of a text that it was read from.
use Rattle.std.specs.Prelude.{Bool, false, ◌||◌, List, ℕ, ◌+◌, ◌*◌, ◌<◌, ◌≤◌, max, length}
use Rattle.trees.specs.declared.Tree.{Tree}

-- the tree of a node at the free place, over the operands that `under` sums up
abbrev pub over : Tree → Tree
over under =
    record { at = under.at; root = under.used; used = under.used + 1; depth = under.depth + 1; width = under.width; wrong = under.wrong }

-- the operands of a join
abbrev pub beside : Tree → Tree → Tree
beside left right =
    record {
      at = right.at;
      root = right.root;
      used = right.used;
      depth = max left.depth right.depth;
      width = max left.width right.width;
      wrong = left.wrong || right.wrong;
    }

-- the operand of an operator whose text ends before `at`
abbrev pub around : Tree → ℕ → Bool → Tree
around tree at w = record { at = at; root = tree.root; used = tree.used; depth = tree.depth; width = tree.width; wrong = w || tree.wrong }

-- no operand
abbrev pub nothing : ℕ → ℕ → ℕ → Tree
nothing at used w = record { at = at; root = 0; used = used; depth = 0; width = w; wrong = false }

-- there is room for one node more, where `used` nodes are stored and what it stands over is no deeper than their number
pub record Room (nodes : List ℕ) (used deepest : ℕ) : Type 0 where
  pub few : used < 255
  pub shallow : deepest ≤ used
  pub free : used * 4 + 4 ≤ length nodes
