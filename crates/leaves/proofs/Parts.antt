-- What a node adds to a part that is read: one account for the levels that join or apply, and for leaves.
use mathlib.Core.Path.{◌≡◌, refl, sym, ◌∙◌}
use mathlib.Core.Bool.{true, false}
use mathlib.Core.List.{List}
use Prim.Native.Nat.{ℕ, suc, ◌+◌, ◌*◌, ◌<◌, ◌≤◌}
use native.Mathlib.Omega.{arith}
use lib.ListN.{length, drop}
use Rattle.trees.specs.declared.Tree.{Tree}
use Rattle.expression.specs.declared.Node.{Node}
use Rattle.expression.specs.declared.Node.TheVariants.{Epsilon, Literal}
use Rattle.expression.specs.declared.Sign.{Sign}
use Rattle.expression.specs.Expression.{Expression, epsilon, literal, depth}
use Rattle.expression.specs.Stored.{node_at, Stored, stored_epsilon, stored_literal, FrontKept, Placed}
use Rattle.tokens.specs.Tokens.{Got, yes, branch, starts, lettered, Letter-at}
use Rattle.descent.specs.Descent.{Rank, single, descent}
use Rattle.trees.specs.Trees.{over, nothing}
use Rattle.leaves.specs.Reading.{capped, width, wrong, Reached}
use Rattle.tokens.proofs.Text.{rest_drop}
use Rattle.descent.proofs.Steps.{single_is}
use Rattle.expression.proofs.Nodes.{kept_refl, kept_trans}

-- a node at the free place, over what `under` sums up
pub adds : {k : Rank} {after : Expression → List ℕ → Got Expression} {text before ns ns' : List ℕ} {at used : ℕ} {new : Tree} {node : Node} (under : Tree) (e : Expression)
    → at < under.at → under.at ≤ length text → under.used + at + 1 ≤ under.at + used → used ≤ under.used → under.depth ≤ under.used
    → FrontKept (used * 4) before ns → Placed under.used node ns ns'
    → Stored ns' under.used (capped e) → depth e ≡ suc under.depth → width e ≡ under.width → wrong e ≡ under.wrong
    → descent k (drop at text) ≡ after e (drop under.at text)
    → new ≡ over under → Reached k after text at used before ns' new
adds under e a i f g s k p st de wi wr re is =
    rw is
    (record {
      ahead = a;
      inside = i;
      few = omega arith;
      grown = omega arith;
      rooted = omega arith;
      shallow = omega arith;
      kept = kept_trans (omega arith) k p.front;
      e = e;
      stored = st;
      depth_is = omega (arith, de);
      width_is = sym wi;
      wrong_is = sym wr;
      read = re;
    })

-- the same part, seen from another level, with another rest, or from words before it
pub again : {k k' : Rank} {after after' : Expression → List ℕ → Got Expression} {text before before' ns : List ℕ} {at used : ℕ} {tree : Tree}
    → (s : Reached k after text at used before ns tree) → FrontKept (used * 4) before' ns → descent k' (drop at text) ≡ after' s.e (drop tree.at text)
    → Reached k' after' text at used before' ns tree
again s k h =
    record {
      ahead = s.ahead;
      inside = s.inside;
      few = s.few;
      grown = s.grown;
      rooted = s.rooted;
      shallow = s.shallow;
      kept = k;
      e = s.e;
      stored = s.stored;
      depth_is = s.depth_is;
      width_is = s.width_is;
      wrong_is = s.wrong_is;
      read = h;
    }

-- LEAVES

-- no bracket
module _ (text : List ℕ) (at : ℕ) (m : starts 40 (drop at text) ≡ false) where
  -- no `_`: what is left is a letter
  pub plain : starts 95 (drop at text) ≡ false → descent single (drop at text) ≡ lettered (drop at text)
  unfolding branch
  plain m' = single_is (drop at text) ∙ rw (m, m')

  module _ (used : ℕ) {ns ns' : List ℕ} where
    -- a node without operands
    leaves : {node : Node} {b w : ℕ} (e : Expression) → at < b → b ≤ length text → Placed used node ns ns'
        → (node_at ns' used ≡ node → Stored ns' used (capped e)) → depth e ≡ 1 → width e ≡ w → wrong e ≡ false
        → descent single (drop at text) ≡ yes e (drop b text) → Reached single yes text at used ns ns' (over (nothing b used w))
    leaves {b = b} {w = w} e a i p st de wi wr re =
        adds (nothing b used w) e a i (omega arith) (omega arith) (omega arith) (kept_refl _ _) p (st p.placed) de wi wr re refl

    pub leaf_epsilon : starts 95 (drop at text) ≡ true → at < length text → Placed used Epsilon ns ns'
        → Reached single yes text at used ns ns' (over (nothing (at + 1) used 0))
    unfolding capped depth width wrong branch
    leaf_epsilon m' l p = leaves epsilon (omega arith) (omega arith) p stored_epsilon refl refl refl (single_is (drop at text) ∙ rw (m, m', rest_drop text at l))

    pub leaf_letter : {a k : ℕ} {s : Sign} → starts 95 (drop at text) ≡ false → Letter-at text at a s k
        → Placed used (Literal s k) ns ns' → Reached single yes text at used ns ns' (over (nothing a used (k + 1)))
    unfolding capped depth width wrong
    leaf_letter {k = k} {s = s} m' o p =
        leaves (literal s k) o.ahead o.inside p stored_literal refl (omega arith) refl (plain m' ∙ o.read)
