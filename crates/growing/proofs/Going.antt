-- The loops that put zones into a growing list: what has been put, and what is still to come.
use Rattle.std.specs.Prelude.{Option, None}
use mathlib.Core.Path.{◌≡◌, refl, sym, ap, subst, ◌∙◌}
use mathlib.Core.Logic.{◌⊎◌}
use mathlib.Core.List.{List, [], ◌∷◌, ◌++◌}
use Prim.Native.Nat.{ℕ, ◌+◌, ◌≤◌}
use native.Mathlib.Omega.{arith}
use lib.IntN.{ℤ}
use Rattle.zone.specs.declared.Zone.{Zone}
use Rattle.words.specs.Words.{zone_at}
use Rattle.words.proofs.Words.{same_zone}
use Rattle.list.specs.Insert.{Built, overflow, insert_each, then}
use Rattle.list.specs.Slots.{Slot, list_at, Sound, Kept}
use Rattle.growing.specs.declared.Growing.{Growing}
use Rattle.growing.specs.Growth.{Alters, NoLater, Unsurpassed, Stands, Begins, Growth}
use Rattle.list.proofs.Slots.{kept_refl, kept_trans, kept_apart, still_slot}
use Rattle.list.proofs.Puts.{holds_same}
use Rattle.growing.proofs.Loops.{insert_each_append}
use Rattle.growing.proofs.Late.{none_later}

-- a zone outside the slot that is written, read from the words as they are now
pub zone_kept : {ws vs : List ℤ} {target : ℕ} (at : ℕ) → Kept target 768 ws vs → (at + 6 ≤ target) ⊎ (target + 768 ≤ at) → zone_at vs at ≡ zone_at ws at
zone_kept {ws} {vs} at k h = same_zone vs ws at at (kept_apart k h)

-- the list L₀ that stood as g₀ has grown into the one that stands as g, and with `todo` put it comes to `whole`
pub record Going (todo : List (Option Zone)) (whole : Built) (g₀ : Growing) (L₀ : List Zone) (target : ℕ) (ws₀ ws : List ℤ) (g : Growing) : Type 0 where
  pub stands : Stands ws target g
  pub frame : Kept target 768 ws₀ ws
  pub value : insert_each todo (list_at ws target g.count) ≡ whole
  pub alters : (S : List Zone) → Alters g₀.changed S L₀ → Alters g.changed S (list_at ws target g.count)

-- what has grown stands there
pub grown_stands : {built : Built} {Counts : ℕ → Type 0} {g h : Growing} {L : List Zone} {ws vs : List ℤ} {target n : ℕ} → Slot ws target n → Kept target 768 ws vs → Growth built Counts g L vs target h → Stands vs target h
grown_stands {h = h} s k b = record { slot = still_slot s k b.holds.few; late = subst (NoLater h.latest) (sym b.holds.zones) b.late }

pub going_start : (todo : List (Option Zone)) (target : ℕ) (ws : List ℤ) (g : Growing) → Stands ws target g → Going todo (insert_each todo (list_at ws target g.count)) g (list_at ws target g.count) target ws ws g
going_start todo target ws g s = record { stands = s; frame = kept_refl target 768 ws; value = refl; alters = λ S m. m }

module _ {whole : Built} {g₀ : Growing} {L₀ : List Zone} {target : ℕ} {ws₀ ws : List ℤ} {g : Growing} where
  pub going_same : {todo other : List (Option Zone)} → todo ≡ other → Going todo whole g₀ L₀ target ws₀ ws g → Going other whole g₀ L₀ target ws₀ ws g
  going_same e w = subst (λ (t : List (Option Zone)). Going t whole g₀ L₀ target ws₀ ws g) e w

  -- an empty answer is passed over
  pub going_past : {todo : List (Option Zone)} → Going (None ∷ todo) whole g₀ L₀ target ws₀ ws g → Going todo whole g₀ L₀ target ws₀ ws g
  unfolding insert_each
  going_past w = record { stands = w.stands; frame = w.frame; value = w.value; alters = w.alters }

  module _ (rs todo : List (Option Zone)) (w : Going (rs ++ todo) whole g₀ L₀ target ws₀ ws g) where
    both : then (insert_each rs (list_at ws target g.count)) (insert_each todo) ≡ whole
    both = sym (insert_each_append rs todo (list_at ws target g.count)) ∙ w.value

    -- the first puts were made
    pub going_on : {Counts : ℕ → Type 0} {vs : List ℤ} {h : Growing} → Growth (insert_each rs (list_at ws target g.count)) Counts g (list_at ws target g.count) vs target h → Kept target 768 ws vs → Going todo whole g₀ L₀ target ws₀ vs h
    going_on {vs = vs} {h = h} b f =
        record {
          stands = grown_stands w.stands.slot f b;
          frame = kept_trans w.frame f;
          value = ap (insert_each todo) b.holds.zones ∙ ap (λ (r : Built). then r (insert_each todo)) (sym b.value) ∙ both;
          alters = λ S m. subst (Alters h.changed S) (sym b.holds.zones) (b.alters S (w.alters S m));
        }

    -- one of them would have left 129 zones; what else is known stays
    pub going_overflow : {P : Type 0} → (insert_each rs (list_at ws target g.count) ≡ overflow) × P → (whole ≡ overflow) × P
    going_overflow o = (sym both ∙ ap (λ (r : Built). then r (insert_each todo)) o.0, o.1)

  -- nothing is left to put
  pub going_end : {todo : List (Option Zone)} → todo ≡ [] → Going todo whole g₀ L₀ target ws₀ ws g → {Counts : ℕ → Type 0} (n : ℕ) → Counts n → g.pairs ≡ g₀.pairs + n → Growth whole Counts g₀ L₀ ws target g
  unfolding insert_each
  going_end e w n c p =
      record {
        list = list_at ws target g.count;
        value = sym w.value ∙ ap (λ (t : List (Option Zone)). insert_each t (list_at ws target g.count)) e;
        holds = holds_same ws target g.count w.stands.slot.few;
        alters = w.alters;
        composed = n;
        counted = c;
        pairs = p;
        late = w.stands.late;
      }

-- ---- where a list begins to grow

pub begun_stands : {ws : List ℤ} {target : ℕ} {g : Growing} → Begins 0 g → Slot ws target 0 → Stands ws target g
unfolding list_at
begun_stands {ws} {target} {g} b s = record { slot = subst (Slot ws target) (sym b.count) s; late = subst (λ (n : ℕ). NoLater g.latest (list_at ws target n)) (sym b.count) (none_later g.latest) }

pub standing_stands : {ws : List ℤ} {target n : ℕ} {g : Growing} → Begins n g → Unsurpassed g.latest → Slot ws target n → Sound (list_at ws target n) → Stands ws target g
standing_stands {ws} {target} {n} {g} b u s p = record { slot = subst (Slot ws target) (sym b.count) s; late = subst (λ (k : ℕ). NoLater g.latest (list_at ws target k)) (sym b.count) (u (list_at ws target n) p) }

-- all pairs composed are those of its puts
pub begun_pairs : {built : Built} {Counts : ℕ → Type 0} {g h : Growing} {L : List Zone} {vs : List ℤ} {target n : ℕ} → Begins n g → Growth built Counts g L vs target h → Counts h.pairs
begun_pairs {Counts = Counts} b w = subst Counts (omega (arith, b.pairs, w.pairs)) w.counted
