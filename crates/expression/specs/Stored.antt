-- Expressions in a buffer of words, four to a node: the operation, and up to three numbers.
use Rattle.std.specs.Prelude.{Option, Some, None, ◌≡◌, cond, List, ℕ, ◌+◌, ◌*◌, ◌<◌, ◌≤◌, eqb, get_or}
use Rattle.expression.specs.declared.End.{End}
use Rattle.expression.specs.declared.End.TheVariants.{Closed, Open}
use Rattle.expression.specs.declared.Node.{Node}
use Rattle.expression.specs.declared.Node.TheVariants.{Epsilon, Literal, Infix, Applied}
use Rattle.expression.specs.Expression.{Expression, epsilon, Sign, High, Low, Rise, Fall, literal, Join, Union, Intersection, Concatenation, join, Unary, Star, Band, Absence, unary}

-- the node of a band
abbrev pub band_node : End → Option End → ℕ → Node
band_node lo hi x = Applied (Band (record { lo = lo; hi = hi })) x

-- the node of an operation and three numbers; a band has an operation for each kind of its ends
unfoldable pub decoded : ℕ → ℕ → ℕ → ℕ → Node
decoded op x y z =
    cond (eqb op 1) (Literal High x)
    (cond (eqb op 2) (Literal Low x)
    (cond (eqb op 3) (Literal Rise x)
    (cond (eqb op 4) (Literal Fall x)
    (cond (eqb op 5) (Infix Union x y)
    (cond (eqb op 6) (Infix Intersection x y)
    (cond (eqb op 7) (Infix Concatenation x y)
    (cond (eqb op 8) (Applied Star x)
    (cond (eqb op 9) (band_node (Closed y) None x)
    (cond (eqb op 10) (band_node (Open y) None x)
    (cond (eqb op 11) (band_node (Closed y) (Some (Closed z)) x)
    (cond (eqb op 12) (band_node (Closed y) (Some (Open z)) x)
    (cond (eqb op 13) (band_node (Open y) (Some (Closed z)) x)
    (cond (eqb op 14) (band_node (Open y) (Some (Open z)) x)
    (cond (eqb op 15) (Applied Absence x) Epsilon))))))))))))))

-- node n of the buffer; past its end every word is 0
unfoldable pub node_at : List ℕ → ℕ → Node
node_at ns n = decoded (get_or ns (n * 4) 0) (get_or ns (n * 4 + 1) 0) (get_or ns (n * 4 + 2) 0) (get_or ns (n * 4 + 3) 0)

-- Node n is the expression. Which nodes of the buffer its operands are is free (the layout of nodes): what holds of them is that they stand before
-- the node that they belong to. The words of nodes that are no part of the expression are free too.
pub data Stored (ns : List ℕ) : ℕ → Expression → Type 0 where
  stored_epsilon : {n : ℕ} → node_at ns n ≡ Epsilon → Stored ns n epsilon
  stored_literal : {n k : ℕ} {s : Sign} → node_at ns n ≡ Literal s k → Stored ns n (literal s k)
  stored_join : {n i k : ℕ} {j : Join} {e f : Expression}
      → node_at ns n ≡ Infix j i k → i < n → k < n → Stored ns i e → Stored ns k f → Stored ns n (join j e f)
  stored_unary : {n i : ℕ} {u : Unary} {e : Expression} → node_at ns n ≡ Applied u i → i < n → Stored ns i e → Stored ns n (unary u e)

-- the first m words are as they were
pub record FrontKept (m : ℕ) (before after : List ℕ) : Type 0 where
  pub kept : (k : ℕ) → k < m → get_or after k 0 ≡ get_or before k 0

-- What writing node n leaves: all words outside it are as they were. Its own four words are free, as long as they stand for the node.
pub record Placed (n : ℕ) (node : Node) (before after : List ℕ) : Type 0 where
  pub placed : node_at after n ≡ node
  pub front : FrontKept (n * 4) before after
  pub behind : (k : ℕ) → n * 4 + 4 ≤ k → get_or after k 0 ≡ get_or before k 0
