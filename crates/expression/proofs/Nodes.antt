-- The node buffer: what a written node leaves as it was, and that what is stored before it stays.
use mathlib.Core.Path.{◌≡◌, refl, ◌∙◌}
use mathlib.Core.List.{List}
use Prim.Native.Nat.{ℕ, ◌+◌, ◌*◌, ◌<◌, ◌≤◌}
use native.Mathlib.Omega.{arith}
use lib.ListN.{get_or}
use Rattle.expression.specs.declared.Node.{Node}
use Rattle.expression.specs.Expression.{Expression}
use Rattle.expression.specs.Stored.{
  node_at,
  Stored,
  stored_epsilon,
  stored_literal,
  stored_join,
  stored_unary,
  FrontKept,
  Placed,
}

pub kept_refl : (m : ℕ) (ns : List ℕ) → FrontKept m ns ns
kept_refl m ns = record { kept = λ k l. refl }

pub kept_trans : {m m' : ℕ} {a b c : List ℕ} → m ≤ m' → FrontKept m a b → FrontKept m' b c → FrontKept m a c
kept_trans h p q = record { kept = λ k l. q.kept k (omega arith) ∙ p.kept k l }

node_keep : {m : ℕ} {ns ns' : List ℕ} (n : ℕ) → n * 4 + 4 ≤ m → FrontKept m ns ns' → node_at ns' n ≡ node_at ns n
unfolding node_at
node_keep n h k = rw (k.kept (n * 4) (omega arith), k.kept (n * 4 + 1) (omega arith), k.kept (n * 4 + 2) (omega arith), k.kept (n * 4 + 3) (omega arith))

-- what is stored stays, as long as the words up to its root do
pub stored_keep : {m : ℕ} {ns ns' : List ℕ} {n : ℕ} {e : Expression} → n * 4 + 4 ≤ m → FrontKept m ns ns' → Stored ns n e → Stored ns' n e
stored_keep h k (stored_epsilon w) = stored_epsilon (node_keep _ h k ∙ w)
stored_keep h k (stored_literal w) = stored_literal (node_keep _ h k ∙ w)
stored_keep h k (stored_join w a b x y) = stored_join (node_keep _ h k ∙ w) a b (stored_keep (omega arith) k x) (stored_keep (omega arith) k y)
stored_keep h k (stored_unary w a x) = stored_unary (node_keep _ h k ∙ w) a (stored_keep (omega arith) k x)

-- four words that stand where node n does, and nowhere else
pub stores : (ns vs ws : List ℕ) (n : ℕ) {node : Node} → node_at ws 0 ≡ node
    → get_or vs (n * 4) 0 ≡ get_or ws 0 0 → get_or vs (n * 4 + 1) 0 ≡ get_or ws 1 0 → get_or vs (n * 4 + 2) 0 ≡ get_or ws 2 0 → get_or vs (n * 4 + 3) 0 ≡ get_or ws 3 0
    → ((i : ℕ) → i < n * 4 → get_or vs i 0 ≡ get_or ns i 0) → ((i : ℕ) → n * 4 + 4 ≤ i → get_or vs i 0 ≡ get_or ns i 0)
    → Placed n node ns vs
unfolding node_at
stores ns vs ws n d w0 w1 w2 w3 below above = record { placed = rw (w0, w1, w2, w3) d; front = record { kept = below }; behind = above }
