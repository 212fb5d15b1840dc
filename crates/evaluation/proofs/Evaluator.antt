-- One step of the evaluator: what a node says of its expression, and how the values of its operands make its own.
use Rattle.std.specs.Prelude.{Result, Err}
use mathlib.Core.Path.{◌≡◌, refl, sym, subst, ◌∙◌}
use mathlib.Core.List.{List}
use mathlib.Core.Logic.{inl}
use Prim.Native.Nat.{ℕ, ◌+◌, ◌-◌, ◌*◌, ◌≤◌, ◌<◌}
use native.Mathlib.Omega.{arith}
use lib.IntN.{ℤ}
use lib.ListN.{length}
use Rattle.zone.specs.declared.Zone.{Zone}
use Rattle.zone.proofs.Laws.{proper_within}
use Rattle.list.specs.Slots.{slot_words, list_at, Kept, Sound, Source}
use Rattle.list.proofs.Slots.{kept_within, list_at_kept}
use Rattle.runs.specs.Levels.{Shows}
use Rattle.expression.specs.declared.Node.{Node}
use Rattle.expression.specs.declared.Join.{Join}
use Rattle.expression.specs.declared.Unary.{Unary}
use Rattle.expression.specs.Expression.{Expression, join, unary}
use Rattle.expression.specs.Stored.{node_at}
use Rattle.expression.specs.Planted.{Planted}
use Rattle.expression.proofs.Laws.{Operands, operands}
use Rattle.meaning.specs.Lists.{Value, ended, Then, join_list, applied, Evaluates}
use Rattle.primaries.specs.declared.Window.{Window}
use Rattle.values.specs.Values.{OperandAt}
use Rattle.purse.specs.declared.Listed.{Listed}
use Rattle.purse.specs.declared.Stopped.{Stopped}
use Rattle.purse.specs.Purse.{Standing, EvaluatedAs}
use Rattle.meaning.proofs.Evaluation.{One, HasValue, then_some, evaluates_well, evaluates_unique, evaluates_exists}
use Rattle.evaluation.proofs.Operands.{then_goes, then_stops}
use Rattle.meaning.proofs.Finite.{recording_finite}
use Rattle.primaries.proofs.Windows.{window_forward, window_small}

-- what node i says of its expression, as the code finds the node
pub node_is : {ns : List ℕ} {channels i d : ℕ} {e : Expression} {n : Node} (t : Node) → n ≡ node_at ns i → n ≡ t → Planted ns channels i d e → Operands ns channels (d - 1) e t
node_is {ns} {channels} {i} {d} {e} t a h p = subst (Operands ns channels (d - 1) e) (sym a ∙ h) (operands p)

-- ---- slots of operands: the left one's are the first of all, the right one's begin one slot later

pub roomy : {a base size : ℕ} {ws vs : List ℤ} → Kept base size ws vs → a ≤ length ws → a ≤ length vs
roomy k h = omega (arith, k.same_length)

-- the depth that is left falls
pub rest_falls : {d t : ℕ} → 0 < d → d ≡ t → d - 1 < t
rest_falls some e = omega arith

pub rest_few : {d : ℕ} → d ≤ 16 → d - 1 ≤ 16
rest_few h = omega arith

module _ {d : ℕ} (some : 0 < d) (base : ℕ) where
  module _ {len : ℕ} (room : base + (d + 2) * slot_words ≤ len) where
    pub room_left : base + (d - 1 + 2) * slot_words ≤ len
    room_left = omega arith

    pub room_right : base + slot_words + (d - 1 + 2) * slot_words ≤ len
    room_right = omega arith

    pub room_three : base + 3 * slot_words ≤ len
    room_three = omega arith

    pub room_second : base + slot_words + slot_words ≤ len
    room_second = omega arith

  module _ {ws vs : List ℤ} where
    pub kept_left : Kept base ((d - 1 + 2) * slot_words) ws vs → Kept base ((d + 2) * slot_words) ws vs
    kept_left k = kept_within (omega arith) (omega arith) k

    pub kept_right : Kept (base + slot_words) ((d - 1 + 2) * slot_words) ws vs → Kept base ((d + 2) * slot_words) ws vs
    kept_right k = kept_within (omega arith) (omega arith) k

    pub kept_three : Kept base (3 * slot_words) ws vs → Kept base ((d + 2) * slot_words) ws vs
    kept_three k = kept_within (omega arith) (omega arith) k

    pub kept_one : Kept base slot_words ws vs → Kept base ((d + 2) * slot_words) ws vs
    kept_one k = kept_within (omega arith) (omega arith) k

-- ---- values of operands

module _ (window : Window) where
  -- the expression comes to the value in this window
  abbrev pub Comes : Expression → Value → Type 0
  Comes e v = Evaluates (Shows window.recording.bytes.now) window.from window.to e v

  -- to one value, and to some value
  one : (e : Expression) → One (Comes e)
  one e = evaluates_unique (Shows window.recording.bytes.now) window.from window.to e

  some : (e : Expression) → HasValue (Comes e)
  some e = evaluates_exists (recording_finite window.recording.bytes.now window.from window.to) window.some e

  module _ (f : Expression) {told : ℕ} {ws : List ℤ} {base n left : ℕ} (s : Standing (Comes f) told ws base n left) where
    -- the zones of its list may be combined ..
    operand_sound : Sound (list_at ws base n)
    operand_sound =
        subst Sound (sym s.holds.zones)
        (λ z m. proper_within (omega arith) (window_small window) ((evaluates_well (Shows window.recording.bytes.now) (window_forward window) f s.rounds s.means).proper z m))

    -- .. as the operators with one operand ask for it, and those with two for the right one ..
    pub only_operand : base + 3 * slot_words ≤ length ws → OperandAt ws base n
    only_operand room = record { few = s.holds.few; room = room; sound = operand_sound }

    pub right_operand : base + slot_words ≤ length ws → Source ws base n
    right_operand room = record { few = s.holds.few; room = room; sound = operand_sound }

    -- .. and for the left one: it is still there when the right one is finished
    module _ (vs : List ℤ) {size : ℕ} (k : Kept (base + slot_words) size ws vs) where
      pub left_there : list_at vs base n ≡ s.list
      left_there = list_at_kept base n k (inl (omega (arith, s.holds.few))) ∙ s.holds.zones

      pub left_operand : base + 3 * slot_words ≤ length ws → OperandAt vs base n
      left_operand room = record { few = s.holds.few; room = roomy k room; sound = subst Sound (sym (left_there ∙ sym s.holds.zones)) operand_sound }

  -- ---- no operand

  pub leaf_done : {e f : Expression} → e ≡ f → (told : ℕ) (ws : List ℤ) (base : ℕ) (r : Result Listed Stopped) → EvaluatedAs (Comes f) told ws base r → EvaluatedAs (Comes e) told ws base r
  leaf_done is told ws base r a = subst (λ (x : Expression). EvaluatedAs (Comes x) told ws base r) (sym is) a

  -- ---- an operator with one operand

  module _ {e : Expression} (f : Expression) (op : Unary) (is : e ≡ unary op f) (told : ℕ) (ws : List ℤ) (base : ℕ) where
    whole_one : (r : Result Listed Stopped) → EvaluatedAs (Comes (unary op f)) told ws base r → EvaluatedAs (Comes e) told ws base r
    whole_one r = subst (λ (x : Expression). EvaluatedAs (Comes x) told ws base r) (sym is)

    -- without a list
    pub one_stops : (us : List ℤ) (at : ℕ) (s : Stopped) → EvaluatedAs (Comes f) told us at (Err s) → EvaluatedAs (Comes e) told ws base (Err s)
    one_stops us at s a = whole_one (Err s) (then_stops (Comes f) (applied window.from window.to op) told (one f) (some (unary op f)) us ws at base s a)

    -- with one
    pub one_done : (r : Result Listed Stopped) {us : List ℤ} {at n left : ℕ} → Standing (Comes f) told us at n left → EvaluatedAs (applied window.from window.to op (list_at us at n)) left ws base r → EvaluatedAs (Comes e) told ws base r
    one_done r {left = left} s a = whole_one r (then_goes (Comes f) (applied window.from window.to op) told s.list s.rounds left s.means s.spends ws base r (subst (λ (A : List Zone). EvaluatedAs (applied window.from window.to op A) left ws base r) s.holds.zones a))

  -- ---- an operator with two operands

  module _ {e : Expression} (f g : Expression) (op : Join) (is : e ≡ join op f g) (told : ℕ) (ws : List ℤ) (base : ℕ) where
    whole_two : (r : Result Listed Stopped) → EvaluatedAs (Comes (join op f g)) told ws base r → EvaluatedAs (Comes e) told ws base r
    whole_two r = subst (λ (x : Expression). EvaluatedAs (Comes x) told ws base r) (sym is)

    -- the left one without a list
    pub left_stops : (us : List ℤ) (at : ℕ) (s : Stopped) → EvaluatedAs (Comes f) told us at (Err s) → EvaluatedAs (Comes e) told ws base (Err s)
    left_stops us at s a = whole_two (Err s) (then_stops (Comes f) (λ A. Then (Comes g) (λ B v. v ≡ ended (join_list op A B))) told (one f) (some (join op f g)) us ws at base s a)

    module _ {us : List ℤ} {at n left : ℕ} (s : Standing (Comes f) told us at n left) where
      -- what comes of the right one, the left list being there
      abbrev Next : List Zone → Value → Type 0
      Next B v = v ≡ ended (join_list op s.list B)

      after_left : (r : Result Listed Stopped) → EvaluatedAs (Then (Comes g) Next) left ws base r → EvaluatedAs (Comes e) told ws base r
      after_left r a = whole_two r (then_goes (Comes f) (λ A. Then (Comes g) (λ B v. v ≡ ended (join_list op A B))) told s.list s.rounds left s.means s.spends ws base r a)

      -- the right one without a list
      pub right_stops : (vs : List ℤ) (next : ℕ) (t : Stopped) → EvaluatedAs (Comes g) left vs next (Err t) → EvaluatedAs (Comes e) told ws base (Err t)
      right_stops vs next t a = after_left (Err t) (then_stops (Comes g) Next left (one g) (then_some (some g) (λ B q _. (ended (join_list op s.list B), refl))) vs ws next base t a)

      -- both with one
      pub two_done : (r : Result Listed Stopped) {vs : List ℤ} {next m end : ℕ} → Standing (Comes g) left vs next m end → {A : List Zone} → A ≡ s.list
          → EvaluatedAs (λ v. v ≡ ended (join_list op A (list_at vs next m))) end ws base r → EvaluatedAs (Comes e) told ws base r
      two_done r {vs} {next} {m} {end} t p a =
          after_left r (then_goes (Comes g) Next left t.list t.rounds end t.means t.spends ws base r
          (subst (λ (B : List Zone). EvaluatedAs (Next B) end ws base r) t.holds.zones
          (subst (λ (A : List Zone). EvaluatedAs (λ v. v ≡ ended (join_list op A (list_at vs next m))) end ws base r) p a)))
