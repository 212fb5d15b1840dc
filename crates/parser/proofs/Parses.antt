-- Which answer a text has: from what descent comes to, and from the readers' part, to the first cause that holds.
use Rattle.std.proofs.Common.{Ok, Err}
use mathlib.Core.Path.{◌≡◌, refl, sym, ap, ◌∙◌}
use mathlib.Core.Bool.{Bool, true, false, cond}
use mathlib.Core.List.{List, [], ◌∷◌}
use mathlib.Core.Logic.{◌⊎◌, inl, inr, ⊎_elim}
use Prim.Native.Nat.{ℕ, ◌+◌, ◌<◌, ◌≤◌}
use native.Mathlib.Omega.{arith}
use lib.Dec.{ltb}
use lib.ListN.{length, drop, drop_of_length-le, length-drop}
use borrow.Author.Tests.{ltb-true, ltb-false}
use Rattle.trees.specs.declared.Tree.{Tree}
use Rattle.parser.specs.declared.Fault.TheVariants.{NoForm, WrongLetter, WrongRange, TooDeep}
use Rattle.expression.specs.declared.Join.TheVariants.{Union}
use Rattle.expression.specs.Expression.{Expression, depth}
use Rattle.expression.specs.Grammar.{Form, alternative}
use Rattle.expression.specs.Refusal.{DrillCause, wrong_length, no_form, wrong_letter, wrong_range, too_deep, DrillRefused, Accepted}
use Rattle.expression.specs.Stored.{Stored}
use Rattle.parser.specs.Parsing.{ParsedAs}
use Rattle.tokens.specs.Tokens.{Got, no, yes}
use Rattle.descent.specs.Descent.{joining, descent}
use Rattle.leaves.specs.Reading.{width, wrong, Reached}
use Rattle.parser.specs.Readers.{verdict}
use Rattle.tokens.proofs.Text.{yes_text}
use Rattle.descent.proofs.Complete.{whole_sound, whole_complete, unique}
use Rattle.parser.proofs.Checks.{letter_below, letter_beyond, range_wrong, range_right, capped_same}

-- the cause of length holds
abbrev pub Long : List ℕ → Type 0
Long text = (length text ≡ 0) ⊎ (255 < length text)

cause_least : {text : List ℕ} {channels n : ℕ} → DrillCause text channels n → 4 ≤ n
cause_least (wrong_length h) = omega arith
cause_least (no_form h) = omega arith
cause_least (wrong_letter f m h) = omega arith
cause_least (wrong_range f m h) = omega arith
cause_least (too_deep f h) = omega arith

pub refused_length : {text : List ℕ} {channels : ℕ} → Long text → DrillRefused text channels 4
refused_length h = record { holds = wrong_length h; first = λ m l c. omega (arith, cause_least c) }

pub right_length : (text : List ℕ) → (length text ≡ 0 → ⊥) → length text ≤ 255 → Long text → ⊥
right_length text a b = ⊎_elim a (λ h. omega arith)

-- the length is right
module _ {text : List ℕ} {channels : ℕ} (right : Long text → ⊥) where
  refused_form : ((e : Expression) → Form alternative text e → ⊥) → DrillRefused text channels 5
  refused_form h = record { holds = no_form h; first = earlier }
    where
      earlier : (m : ℕ) → m < 5 → DrillCause text channels m → ⊥
      earlier m l (wrong_length w) = right w
      earlier m l (no_form w) = omega arith
      earlier m l (wrong_letter f i w) = omega arith
      earlier m l (wrong_range f i w) = omega arith
      earlier m l (too_deep f w) = omega arith

  -- descent comes to nothing
  pub refused_stop : descent (joining Union) text ≡ no → DrillRefused text channels 5
  refused_stop h = refused_form (λ e f. cc (h, whole_complete f))

  -- or to a part of the text
  pub refused_part : {e : Expression} {r : List ℕ} → descent (joining Union) text ≡ yes e r → 0 < length r → DrillRefused text channels 5
  refused_part h l = refused_form (λ e f. omega (arith, ap length (yes_text (sym h ∙ whole_complete f))))

  -- the text is the expression e
  module _ {e : Expression} (form : Form alternative text e) where
    -- no cause below n, if each of these checks that is below n was passed
    none_below : (n : ℕ) → (6 < n → width e ≤ channels) → (7 < n → wrong e ≡ false) → (8 < n → depth e ≤ 16) → (m : ℕ) → m < n → DrillCause text channels m → ⊥
    none_below n six seven eight m l (wrong_length w) = right w
    none_below n six seven eight m l (no_form w) = w e form
    none_below n six seven eight m l (wrong_letter f i w) = omega (arith, six l, letter_below e (rw (unique f form) at i))
    none_below n six seven eight m l (wrong_range f i w) = range_right e (seven l) (rw (unique f form) at i) w
    none_below n six seven eight m l (too_deep f w) = omega (arith, eight l, ap depth (unique f form))

    pub refused_letter : channels < width e → DrillRefused text channels 6
    refused_letter h =
        let b = letter_beyond e channels h in
        record {
          holds = wrong_letter form b.1 b.2;
          first = none_below 6 (λ l. absurd (omega arith)) (λ l. absurd (omega arith)) (λ l. absurd (omega arith));
        }

    module _ (six : width e ≤ channels) where
      pub refused_range : wrong e ≡ true → DrillRefused text channels 7
      refused_range h =
          let b = range_wrong e h in
          record { holds = wrong_range form b.1 b.2; first = none_below 7 (λ l. six) (λ l. absurd (omega arith)) (λ l. absurd (omega arith)) }

      module _ (seven : wrong e ≡ false) where
        pub refused_depth : 16 < depth e → DrillRefused text channels 8
        refused_depth h = record { holds = too_deep form h; first = none_below 8 (λ l. six) (λ l. seven) (λ l. absurd (omega arith)) }

        pub accepted : depth e ≤ 16 → Accepted text channels e
        accepted h = record { form = form; none = λ n c. none_below (n + 9) (λ l. six) (λ l. seven) (λ l. h) n (omega arith) c }

-- THE READERS' PART

module _ {text before ns : List ℕ} {tree : Tree} (s : Reached (joining Union) yes text 0 0 before ns tree) where
  -- it is not the whole text
  leaves_some : tree.at < length text → 0 < length (drop tree.at text)
  leaves_some h = omega (arith, length-drop tree.at text)

  -- it is the whole text
  whole_form : length text ≤ tree.at → Form alternative text s.e
  whole_form all = whole_sound text s.e (s.read ∙ ap (yes s.e) (drop_of_length-le text all))

  -- nothing of its expression was capped
  stored_exact : tree.wrong ≡ false → Stored ns tree.root s.e
  stored_exact h = rw (capped_same s.e (sym s.wrong_is ∙ h)) at s.stored

  -- the checks decide
  pub judged_as : (channels : ℕ) → (Long text → ⊥) → ParsedAs text channels ns (verdict (length text) channels tree)
  judged_as channels right = go (ltb tree.at (length text)) (ltb channels tree.width) tree.wrong (ltb 16 tree.depth) refl refl refl refl
    where
      whole : ltb tree.at (length text) ≡ false → Form alternative text s.e
      whole p = whole_form (ltb-false tree.at (length text) p)

      six : ltb channels tree.width ≡ false → width s.e ≤ channels
      six q = omega (arith, ltb-false channels tree.width q, s.width_is)

      go : (a b c d : Bool) → ltb tree.at (length text) ≡ a → ltb channels tree.width ≡ b → tree.wrong ≡ c → ltb 16 tree.depth ≡ d
          → ParsedAs text channels ns (cond a (Err NoForm) (cond b (Err WrongLetter) (cond c (Err WrongRange) (cond d (Err TooDeep) (Ok tree.root)))))
      go true b c d p q r t = refused_part right s.read (leaves_some (ltb-true _ _ p))
      go false true c d p q r t = refused_letter right (whole p) (omega (arith, ltb-true channels tree.width q, s.width_is))
      go false false true d p q r t = refused_range right (whole p) (six q) (sym s.wrong_is ∙ r)
      go false false false true p q r t = refused_depth right (whole p) (six q) (sym s.wrong_is ∙ r) (omega (arith, s.depth_is, ltb-true 16 tree.depth t))
      go false false false false p q r t =
          (s.e, accepted right (whole p) (six q) (sym s.wrong_is ∙ r) (omega (arith, s.depth_is, ltb-false 16 tree.depth t)), stored_exact r)

-- EVERY TEXT HAS AN ANSWER

-- A text is accepted as some expression, or refused by some number.
pub answered : (text : List ℕ) (channels : ℕ) → ((e : Expression) × Accepted text channels e) ⊎ ((n : ℕ) × DrillRefused text channels n)
answered text channels = by_length (ltb 0 (length text)) (ltb 255 (length text)) refl refl
  where
    Answer : Type 0
    Answer = ((e : Expression) × Accepted text channels e) ⊎ ((n : ℕ) × DrillRefused text channels n)

    by_checks : (Long text → ⊥) → (e : Expression) → Form alternative text e → (a b c : Bool) → ltb channels (width e) ≡ a → wrong e ≡ b → ltb 16 (depth e) ≡ c → Answer
    by_checks right e f true b c p q r = inr (6, refused_letter right f (ltb-true _ _ p))
    by_checks right e f false true c p q r = inr (7, refused_range right f (ltb-false channels (width e) p) q)
    by_checks right e f false false true p q r = inr (8, refused_depth right f (ltb-false channels (width e) p) q (ltb-true _ _ r))
    by_checks right e f false false false p q r = inl (e, accepted right f (ltb-false channels (width e) p) q (ltb-false 16 (depth e) r))

    by_descent : (Long text → ⊥) → (g : Got Expression) → descent (joining Union) text ≡ g → Answer
    by_descent right no h = inr (5, refused_stop right h)
    by_descent right (yes e (c ∷ r)) h = inr (5, refused_part right h (omega arith))
    by_descent right (yes e []) h = by_checks right e (whole_sound text e h) (ltb channels (width e)) (wrong e) (ltb 16 (depth e)) refl refl refl

    by_length : (a b : Bool) → ltb 0 (length text) ≡ a → ltb 255 (length text) ≡ b → Answer
    by_length false b p q = let h = ltb-false 0 (length text) p in inr (4, refused_length (inl (omega arith)))
    by_length true true p q = inr (4, refused_length (inr (ltb-true _ _ q)))
    by_length true false p q =
        let h = ltb-true 0 (length text) p in
        let l = ltb-false 255 (length text) q in
        by_descent (right_length text (λ a. omega arith) l) (descent (joining Union) text) refl

-- AND NO OTHER

-- No text is refused by two numbers.
pub one_refusal : {text : List ℕ} {channels m n : ℕ} → DrillRefused text channels m → DrillRefused text channels n → m ≡ n
one_refusal {m = m} {n = n} p q =
    let a : m < n → ⊥ = λ h. q.first m h p.holds in
    let b : n < m → ⊥ = λ h. p.first n h q.holds in
    omega arith

-- An accepted text is not refused.
pub accepted_stands : {text : List ℕ} {channels n : ℕ} {e : Expression} → Accepted text channels e → DrillRefused text channels n → ⊥
accepted_stands p q = p.none _ q.holds

-- A text is accepted as one expression.
pub one_expression : {text : List ℕ} {channels : ℕ} {e f : Expression} → Accepted text channels e → Accepted text channels f → e ≡ f
one_expression p q = unique p.form q.form
