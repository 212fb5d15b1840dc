-- The loop of a star's rounds, which go from one of two slots to the other.
use Rattle.std.specs.Prelude.{Err}
use mathlib.Core.Path.{◌≡◌, refl, sym, subst, ◌∙◌}
use mathlib.Core.Logic.{◌⊎◌, inl, inr}
use mathlib.Core.List.{List}
use Prim.Native.Nat.{ℕ, suc, ◌+◌, ◌*◌, ◌≤◌, ◌<◌}
use native.Mathlib.Omega.{arith}
use native.Mathlib.Numerals.{add-one}
use lib.IntN.{ℤ}
use Rattle.zone.specs.declared.Zone.{Zone}
use Rattle.words.specs.Words.{word}
use Rattle.list.specs.Insert.{listed, overflow}
use Rattle.purse.specs.Purse.{Exceeding}
use Rattle.star.specs.Star.{value, Rounds, round}
use Rattle.list.specs.Slots.{list_at, Free, Slot, Holds, Kept, KeptBoth, Disjoint, Sound}
use Rattle.pairs.specs.Operands.{Operands}
use Rattle.operators.specs.Listing.{Workspace}
use Rattle.star.specs.Steps.{Changes, Ending, EndsAs}
use Rattle.purse.specs.declared.Stopped.TheVariants.{Overflow, Spent}
use Rattle.star.proofs.Rounds.{After, After.begin as begin, After.turn as turn, after_proper, after_last, after_overflow, after_more}
use Rattle.star.proofs.Bound.{after_exists}
use Rattle.list.proofs.Slots.{list_at_same, list_there}
use Rattle.list.proofs.Puts.{holds_same}
use Rattle.list.proofs.Copies.{kept_neither, disjoint_swap}

-- the list stands in one of the two slots, and the next round goes to the other
abbrev pub Facing : ℕ → ℕ → ℕ → ℕ → Type 0
Facing first second list copy = ((list ≡ first) × (copy ≡ second)) ⊎ ((list ≡ second) × (copy ≡ first))

-- `made` rounds have changed the inner list into the n zones at `list`
pub record Turning (inner m first second : ℕ) (ws₀ ws : List ℤ) (list copy n made : ℕ) : Type 0 where
  pub few : n ≤ 128
  pub place : Facing first second list copy
  pub frame : KeptBoth first second ws₀ ws
  pub after : After (list_at ws₀ inner m) made (list_at ws list n)

turned : {first second list copy : ℕ} → Facing first second list copy → Facing first second copy list
turned (inl p) = inr (p.1, p.0)
turned (inr p) = inl (p.1, p.0)

at_list : {first second list copy : ℕ} (P : ℕ → ℕ → Type 0) → Facing first second list copy → P first second → P second first → P list copy
at_list {first} {copy = copy} P (inl p) x y = subst (λ (k : ℕ). P k copy) (sym p.0) (subst (λ (j : ℕ). P first j) (sym p.1) x)
at_list {second = second} {copy = copy} P (inr p) x y = subst (λ (k : ℕ). P k copy) (sym p.0) (subst (λ (j : ℕ). P second j) (sym p.1) y)

module _ {inner m first second : ℕ} {ws₀ : List ℤ} (work : Workspace ws₀ inner m first second) where
  pub turn_start : list_at ws₀ first m ≡ list_at ws₀ inner m → Turning inner m first second ws₀ ws₀ first second m 0
  turn_start e = record { few = work.list.few; place = inl (refl, refl); frame = kept_neither first second ws₀; after = subst (After (list_at ws₀ inner m) 0) (sym e) begin }

  module _ {ws : List ℤ} {list copy n made : ℕ} (t : Turning inner m first second ws₀ ws list copy n made) where
    turn_apart : Disjoint list copy
    turn_apart = at_list Disjoint t.place work.both_apart (disjoint_swap work.both_apart)

    first_free : Free ws first
    first_free = omega (arith, work.target_free, t.frame.same_length)

    second_free : Free ws second
    second_free = omega (arith, work.scratch_free, t.frame.same_length)

    -- the inner list is where it was
    pub inner_same : list_at ws inner m ≡ list_at ws₀ inner m
    inner_same = list_at_same ws₀ ws inner inner m (λ k h. t.frame.others (inner + k) (clear work.target_apart h work.list.few) (clear work.scratch_apart h work.list.few))
      where
        clear : {a k : ℕ} → Disjoint inner a → k < m * 6 → m ≤ 128 → (inner + k < a) ⊎ (a + 768 ≤ inner + k)
        clear (inl h) l f = inl (omega arith)
        clear (inr h) l f = inr (omega arith)

    -- both lists can be combined, and the copy is free
    pub turn_operands : Operands ws list n inner m copy 0
    turn_operands =
        record {
          lefts =
              record {
                list = record { few = t.few; room = at_list (λ k j. Free ws k) t.place first_free second_free; sound = after_proper work.list.sound t.after };
                slot = copy_slot;
                apart = turn_apart;
              };
          rights =
              record {
                list = record { few = work.list.few; room = omega (arith, work.list.room, t.frame.same_length); sound = subst Sound (sym inner_same) work.list.sound };
                slot = copy_slot;
                apart = at_list (λ k j. Disjoint inner j) t.place work.scratch_apart work.target_apart;
              };
        }
      where
        copy_slot : Slot ws copy 0
        copy_slot = record { few = omega arith; room = at_list (λ k j. Free ws j) t.place second_free first_free }

    pub turn_kept : {vs : List ℤ} → Kept copy 768 ws vs → KeptBoth first second ws₀ vs
    turn_kept {vs} k =
        record {
          same_length = k.same_length ∙ t.frame.same_length;
          others = λ i a b. at_list (λ l c. Kept c 768 ws vs → word vs i ≡ word ws i) t.place (outside b) (outside a) k ∙ t.frame.others i a b;
        }
      where
        outside : {c i : ℕ} → (i < c) ⊎ (c + 768 ≤ i) → Kept c 768 ws vs → word vs i ≡ word ws i
        outside (inl h) w = w.below _ h
        outside (inr h) w = w.above _ h

    -- both slots are free after a round too
    turn_frees : {vs : List ℤ} → Kept copy 768 ws vs → Free vs first × Free vs second
    turn_frees k = (omega (arith, first_free, k.same_length), omega (arith, second_free, k.same_length))

    at_home : (r : List Zone → Type 0) → r (list_at ws inner m) → r (list_at ws₀ inner m)
    at_home r = subst r inner_same

    -- a round that changed something
    pub turn_next : {vs : List ℤ} {k : ℕ} → Changes (list_at ws inner m) (list_at ws list n) vs copy k → Kept copy 768 ws vs → Turning inner m first second ws₀ vs copy list k (made + 1)
    turn_next {vs} {k} c f =
        record {
          few = c.holds.few;
          place = turned t.place;
          frame = turn_kept f;
          after =
              subst (λ (L : List Zone). After (list_at ws₀ inner m) (made + 1) L) (sym c.holds.zones)
              (subst (λ (j : ℕ). After (list_at ws₀ inner m) j c.list) (sym (add-one made))
              (turn t.after (at_home (λ I. round I (list_at ws list n) ≡ listed c.list) c.value) c.new));
        }

    -- the last round
    pub turn_end : {vs : List ℤ} {told left : ℕ} → (made + 1) + left ≡ told → round (list_at ws inner m) (list_at ws list n) ≡ listed (list_at ws list n) → Kept copy 768 ws vs → Ending (list_at ws₀ inner m) told first second vs list n left
    turn_end {vs} q e f =
        record {
          standing =
              record {
                list = list_at ws list n;
                rounds = made + 1;
                means = subst (λ (j : ℕ). Rounds (list_at ws₀ inner m) (list_at ws₀ inner m) (value (list_at ws list n) j)) (sym (add-one made)) (after_last t.after (at_home (λ I. round I (list_at ws list n) ≡ listed (list_at ws list n)) e));
                spends = q;
                holds = subst (Holds vs list n) (list_there list n f turn_apart t.few) (holds_same vs list n t.few);
              };
          sound = subst Sound (sym (list_there list n f turn_apart t.few)) (after_proper work.list.sound t.after);
          place = at_list (λ l c. (l ≡ first) ⊎ (l ≡ second)) t.place (inl refl) (inr refl);
          first_free = (turn_frees f).0;
          second_free = (turn_frees f).1;
        }

    -- a put of this round would leave 129 zones: the round is begun, and not finished
    pub turn_overflow : {vs : List ℤ} {told left : ℕ} → made + left ≡ told → 0 < left → (round (list_at ws inner m) (list_at ws list n) ≡ overflow) × Free vs copy → Kept copy 768 ws vs → EndsAs (list_at ws₀ inner m) told first second vs (Err (Overflow left))
    turn_overflow q s (e, _) f = (
      record {
        overflowing = record { opened = suc made; done = made; means = after_overflow t.after (at_home (λ I. round I (list_at ws list n) ≡ overflow) e); within = omega arith };
        spends = q;
      },
      (turn_frees f).0,
      (turn_frees f).1,
    )

    -- all rounds told are made, and there is one more to be begun
    pub turn_stop : {told : ℕ} → made ≡ told → EndsAs (list_at ws₀ inner m) told first second ws (Err Spent)
    turn_stop q = (
      subst (Exceeding (Rounds (list_at ws₀ inner m) (list_at ws₀ inner m))) q (after_more t.after (after_exists work.list.sound (omega arith) t.after).1),
      first_free,
      second_free,
    )
