-- What a node adds to a part that is read, of the joins and of the operators with one operand; and what brackets add.
use Rattle.std.proofs.Common.{Option, Some, None}
use mathlib.Core.Path.{◌≡◌, refl, sym, ap, ◌∙◌}
use mathlib.Core.Bool.{Bool, true, false}
use mathlib.Core.List.{List}
use Prim.Native.Nat.{ℕ, ◌+◌, ◌*◌, ◌<◌, ◌≤◌}
use native.Mathlib.Omega.{arith}
use lib.ListN.{length, drop}
use Rattle.trees.specs.declared.Tree.{Tree}
use Rattle.expression.specs.declared.Node.TheVariants.{Infix, Applied}
use Rattle.expression.specs.declared.Join.{Join}
use Rattle.expression.specs.declared.Join.TheVariants.{Union}
use Rattle.expression.specs.declared.Unary.{Unary}
use Rattle.expression.specs.declared.Unary.TheVariants.{Absence}
use Rattle.expression.specs.Expression.{Expression, join, unary, depth}
use Rattle.expression.specs.Stored.{stored_join, stored_unary, FrontKept, Placed}
use Rattle.tokens.specs.Tokens.{Got, no, yes, branch, bind, starts, expect, postfix, capped_unary, Got-at}
use Rattle.descent.specs.Descent.{symbol, Rank, joining, factoring, repeating, single, below, descent}
use Rattle.trees.specs.Trees.{over, beside, around}
use Rattle.leaves.specs.Reading.{capped, is_wrong_unary, width, wrong, Reached, ReadAs}
use Rattle.parser.specs.Readers.{ClosedAs}
use Rattle.tokens.proofs.Text.{rest_drop}
use Rattle.descent.proofs.Steps.{joins_after, postfixes_after, joining_is, factoring_is, repeating_is, single_is, joins_on, joins_off, postfixes_on, postfixes_off}
use Rattle.expression.proofs.Nodes.{kept_refl, kept_trans, stored_keep}
use Rattle.leaves.proofs.Parts.{adds, again}

-- The node of an operator with one operand, over a part that begins at `from`. The operator has some text: from `at` on before the part, or up to b
-- after it.
applies : {k k' : Rank} {after after' : Expression → List ℕ → Got Expression} {text before ns ns' : List ℕ} {at from used : ℕ} {tree new : Tree} {u : Unary} {w : Bool}
    (b : ℕ) (x : Unary) (s : Reached k' after' text from used before ns tree)
    → at ≤ from → tree.at ≤ b → tree.at + at < b + from → b ≤ length text
    → u ≡ capped_unary x → w ≡ is_wrong_unary x → new ≡ over (around tree b w) → Placed tree.used (Applied u tree.root) ns ns'
    → descent k (drop at text) ≡ after (unary x s.e) (drop b text) → Reached k after text at used before ns' new
unfolding capped depth width wrong
applies {tree = tree} {w = w} b x s a e t i u-is w-is is p re =
    let low : tree.root * 4 + 4 ≤ tree.used * 4 = omega (arith, s.rooted) in
    adds (around tree b w) (unary x s.e) (omega (arith, s.ahead)) i (omega (arith, s.few)) s.grown s.shallow s.kept p
    (stored_unary (p.placed ∙ ap (λ (v : Unary). Applied v tree.root) u-is) s.rooted (stored_keep low p.front s.stored))
    (rw s.depth_is) (sym s.width_is) (rw (w-is, s.wrong_is))
    re is

-- JOINS

module _ (j : Join) where
  pub joins_begin : {text before ns : List ℕ} {at used : ℕ} {tree : Tree}
      → Reached (below j) yes text at used before ns tree → Reached (joining j) (joins_after j) text at used ns ns tree
  unfolding bind
  joins_begin r = again r (kept_refl _ _) (joining_is j _ ∙ rw r.read)

  pub joins_none : (s : List ℕ) → descent (below j) s ≡ no → descent (joining j) s ≡ no
  unfolding bind
  joins_none s e = joining_is j s ∙ rw e

  module _ {text before ns : List ℕ} {at used : ℕ} {tree : Tree} (s : Reached (joining j) (joins_after j) text at used before ns tree) where
    pub joins_end : {entry : List ℕ} → FrontKept (used * 4) entry before → starts (symbol j) (drop tree.at text) ≡ false → Reached (joining j) yes text at used entry ns tree
    joins_end k e = again s (kept_trans (omega arith) k s.kept) (s.read ∙ joins_off j s.e (drop tree.at text) e)

    -- the symbol of the join follows
    module _ (m : starts (symbol j) (drop tree.at text) ≡ true) (l : tree.at < length text) where
      goes : descent (joining j) (drop at text) ≡ bind (descent (below j) (drop (tree.at + 1) text)) (λ f r. joins_after j (join j s.e f) r)
      goes = s.read ∙ joins_on j s.e (drop tree.at text) m ∙ rw (rest_drop text tree.at l)

      pub joins_stop : descent (below j) (drop (tree.at + 1) text) ≡ no → descent (joining j) (drop at text) ≡ no
      unfolding bind
      joins_stop e = goes ∙ rw e

      -- one more operand, and the node over both
      pub joins_on_to : {ns' ns'' : List ℕ} {right new : Tree}
          → Reached (below j) yes text (tree.at + 1) tree.used ns ns' right
          → new ≡ over (beside tree right) → Placed right.used (Infix j tree.root right.root) ns' ns''
          → Reached (joining j) (joins_after j) text at used before ns'' new
      unfolding bind capped depth width wrong
      joins_on_to {right = right} r is p =
          let left : tree.root * 4 + 4 ≤ tree.used * 4 = omega (arith, s.rooted) in
          let rightly : right.root * 4 + 4 ≤ right.used * 4 = omega (arith, r.rooted) in
          let between : tree.used * 4 ≤ right.used * 4 = omega (arith, r.grown) in
          adds (beside tree right) (join j s.e r.e) (omega (arith, s.ahead, r.ahead)) r.inside (omega (arith, s.few, r.few))
          (omega (arith, s.grown, r.grown)) (omega (arith, s.shallow, r.shallow, r.grown))
          (kept_trans (omega (arith, s.grown)) s.kept r.kept)
          p
          (stored_join p.placed (omega (arith, s.rooted, r.grown)) r.rooted
          (stored_keep left (kept_trans between r.kept p.front) s.stored)
          (stored_keep rightly p.front r.stored))
          (rw (s.depth_is, r.depth_is))
          (rw (s.width_is, r.width_is))
          (rw (s.wrong_is, r.wrong_is))
          (goes ∙ rw r.read)
          is

-- FACTORS

module _ (text : List ℕ) (at : ℕ) where
  -- no `~`: a factor is its repeat
  pub untilded_as : (used : ℕ) (before ns : List ℕ) → starts 126 (drop at text) ≡ false
      → (r : Option Tree) → ReadAs repeating text at used before ns r → ReadAs factoring text at used before ns r
  unfolding branch
  untilded_as used before ns m None e = factoring_is (drop at text) ∙ rw m e
  untilded_as used before ns m (Some t) s = again s s.kept (factoring_is (drop at text) ∙ rw m s.read)

  -- a `~`
  module _ (m : starts 126 (drop at text) ≡ true) (l : at < length text) where
    tilded : descent factoring (drop at text) ≡ bind (descent repeating (drop (at + 1) text)) (λ e r. yes (unary Absence e) r)
    unfolding branch
    tilded = factoring_is (drop at text) ∙ rw (m, rest_drop text at l)

    pub tilded_stop : descent repeating (drop (at + 1) text) ≡ no → descent factoring (drop at text) ≡ no
    unfolding bind
    tilded_stop e = tilded ∙ rw e

    -- the node over the repeat
    pub tilded_on : {used : ℕ} {before ns ns' : List ℕ} {inner new : Tree} → Reached repeating yes text (at + 1) used before ns inner
        → new ≡ over (around inner inner.at false) → Placed inner.used (Applied Absence inner.root) ns ns'
        → Reached factoring yes text at used before ns' new
    unfolding bind
    tilded_on {inner = inner} s is p =
        applies inner.at Absence s (omega arith) (omega arith) (omega arith) s.inside refl refl is p (tilded ∙ rw s.read)

-- `*` AND BANDS

pub postfixes_begin : {text before ns : List ℕ} {at used : ℕ} {tree : Tree}
    → Reached single yes text at used before ns tree → Reached repeating postfixes_after text at used ns ns tree
unfolding bind
postfixes_begin r = again r (kept_refl _ _) (repeating_is _ ∙ rw r.read)

pub postfixes_none : (s : List ℕ) → descent single s ≡ no → descent repeating s ≡ no
unfolding bind
postfixes_none s e = repeating_is s ∙ rw e

module _ {text before ns : List ℕ} {at used : ℕ} {tree : Tree} (s : Reached repeating postfixes_after text at used before ns tree) where
  pub postfixes_end : {entry : List ℕ} → FrontKept (used * 4) entry before → postfix (drop tree.at text) ≡ no → Reached repeating yes text at used entry ns tree
  postfixes_end k e = again s (kept_trans (omega arith) k s.kept) (s.read ∙ postfixes_off s.e (drop tree.at text) e)

  -- one more operator, whose text ends before b
  pub postfixes_on_to : {ns' : List ℕ} {new : Tree} {b : ℕ} {u : Unary} {w : Bool} → (x : Got-at postfix capped_unary text tree.at b u)
      → w ≡ is_wrong_unary x.x → new ≡ over (around tree b w) → Placed tree.used (Applied u tree.root) ns ns'
      → Reached repeating postfixes_after text at used before ns' new
  postfixes_on_to {b = b} x w-is is p =
      applies b x.x s (omega arith) (omega (arith, x.ahead)) (omega (arith, x.ahead)) x.inside x.is w-is is p
      (s.read ∙ postfixes_on s.e (drop tree.at text) x.read)

-- BRACKETS

module _ (text : List ℕ) (at : ℕ) (m : starts 40 (drop at text) ≡ true) (l : at < length text) where
  bracketed : descent single (drop at text) ≡ bind (descent (joining Union) (drop (at + 1) text)) (λ e r. expect 41 e r)
  unfolding branch
  bracketed = single_is (drop at text) ∙ rw (m, rest_drop text at l)

  pub bracketed_stop : descent (joining Union) (drop (at + 1) text) ≡ no → descent single (drop at text) ≡ no
  unfolding bind
  bracketed_stop e = bracketed ∙ rw e

  -- what follows the inner part decides
  pub bracketed_as : {used : ℕ} {before ns : List ℕ} {inner : Tree} → Reached (joining Union) yes text (at + 1) used before ns inner
      → (r : Option Tree) → ClosedAs text inner r → ReadAs single text at used before ns r
  unfolding bind expect branch
  bracketed_as {inner = inner} s None e = bracketed ∙ rw s.read (rw e)
  bracketed_as {inner = inner} s (Some t) (e, h, is) =
      rw is
      (record {
        ahead = omega (arith, s.ahead);
        inside = omega arith;
        few = omega (arith, s.few);
        grown = s.grown;
        rooted = s.rooted;
        shallow = s.shallow;
        kept = s.kept;
        e = s.e;
        stored = s.stored;
        depth_is = s.depth_is;
        width_is = s.width_is;
        wrong_is = s.wrong_is;
        read = bracketed ∙ rw s.read (rw (e, rest_drop text inner.at h));
      })
