-- The lists that stand to and fro: the last list made, and the operand's zones still to come.
use Rattle.std.specs.Prelude.{Some, Result}
use mathlib.Core.Path.{◌≡◌, refl, sym, ap, subst, ◌∙◌}
use mathlib.Core.Logic.{◌⊎◌, inl, inr}
use mathlib.Core.List.{List, [], ◌∷◌, map, append-nil}
use Prim.Native.Nat.{ℕ, ◌+◌, ◌-◌, ◌*◌, ◌≤◌, ◌<◌}
use native.Mathlib.Omega.{arith}
use lib.IntN.{ℤ}
use lib.ListN.{length}
use Rattle.zone.specs.declared.Zone.{Zone}
use Rattle.zone.specs.Zone.{everything}
use Rattle.zone.proofs.Laws.{proper_within, proper_everything}
use Rattle.words.specs.Words.{zone_at, codes, overwrite}
use Rattle.words.proofs.Words.{same_zone}
use Rattle.list.specs.Insert.{Built, listed, overflow, then}
use Rattle.list.specs.Slots.{list_at, Kept, Source, Free, Disjoint, Sound}
use Rattle.parts.specs.Shares.{ShareNone}
use Rattle.list.proofs.Coverage.{puts}
use Rattle.list.proofs.Copies.{disjoint_swap, brought}
use Rattle.list.proofs.Puts.{holds_same}
use Rattle.list.proofs.Scan.{nothing_left}
use Rattle.list.proofs.Slots.{kept_refl, kept_trans, kept_within, kept_apart, list_at_kept, list_there, still_source, list_at_next}
use Rattle.pairs.specs.Operands.{Supply}
use Rattle.pairs.specs.Row.{Zones}
use Rattle.pairs.proofs.Zones.{one_there}
use Rattle.list.specs.declared.Overflow.{Overflow}
use Rattle.operators.specs.Listing.{Listing, BuiltAs}
use Rattle.operators.proofs.Listings.{written_kept, written_alone, sound_one}
use Rattle.absence.specs.Absence.{parts_each, without, without_each, absent}
use Rattle.absence.specs.Steps.{Operand}
use Rattle.absence.proofs.Theorems.{without_well}
use Rattle.absence.proofs.Sharing.{share_one, share_puts, parts_each_share}

-- the two slots behind the operand's, either way round
pub record Behind (base here there : ℕ) : Type 0 where
  pub here_from : base + 768 ≤ here
  pub here_to : here + 768 ≤ base + 2304
  pub there_from : base + 768 ≤ there
  pub there_to : there + 768 ≤ base + 2304
  pub apart : Disjoint here there

behind_swap : {base here there : ℕ} → Behind base here there → Behind base there here
behind_swap b = record { here_from = b.there_from; here_to = b.there_to; there_from = b.here_from; there_to = b.here_to; apart = disjoint_swap b.apart }

-- what the rule comes to
abbrev pub whole : List ℤ → ℕ → ℕ → Built
whole ws base n = without_each (list_at ws base n) (list_at ws (base + 768) 1)

-- the list of `count` zones at `here` stands for the first i zones of the operand
pub record Alternating (ws₀ : List ℤ) (base n i : ℕ) (ws : List ℤ) (here there count : ℕ) : Type 0 where
  pub most : i ≤ n
  pub behind : Behind base here there
  pub list : Source ws here count
  pub shared : ShareNone (map Some (list_at ws here count))
  pub frame : Kept (base + 768) 1536 ws₀ ws
  pub value : without_each (list_at ws₀ (base + i * 6) (n - i)) (list_at ws here count) ≡ whole ws₀ base n

-- one zone alone shares nothing, and neither do the zones of a new list
one_shared : (ws : List ℤ) (at : ℕ) → ShareNone (map Some (list_at ws at 1))
unfolding list_at
one_shared ws at = share_one (zone_at ws at)

without_share : (w : Zone) (L : List Zone) {M : List Zone} → without w L ≡ listed M → ShareNone (map Some L) → ShareNone (map Some M)
unfolding without
without_share w L {M} e h =
    subst ShareNone (append-nil (map Some M)) (share_puts [] (puts (parts_each w L) [] e) (subst ShareNone (sym (append-nil (parts_each w L))) (parts_each_share w L h)))

pub alternating_start : {ws : List ℤ} {base n : ℕ} → Operand ws base n → Alternating ws base n 0 ws (base + 768) (base + 1536) 1
alternating_start {ws} {base} {n} o =
    let e : base + 0 * 6 ≡ base = omega arith in
    let f : n - 0 ≡ n = omega arith in
    record {
      most = omega arith;
      behind = record { here_from = omega arith; here_to = omega arith; there_from = omega arith; there_to = omega arith; apart = inl (omega arith) };
      list = o.first;
      shared = one_shared ws (base + 768);
      frame = kept_refl (base + 768) 1536 ws;
      value = rw (e, f);
    }

-- a new list at `there` is kept within the two slots
within : {ws vs : List ℤ} {base here there : ℕ} → Behind base here there → Kept there 768 ws vs → Kept (base + 768) 1536 ws vs
within b k = kept_within b.there_from (omega (arith, b.there_to)) k

module _ {ws₀ : List ℤ} {base n i : ℕ} {ws : List ℤ} {here there count : ℕ} (o : Operand ws₀ base n) (a : Alternating ws₀ base n i ws here there count) where
  enough : base + 2304 ≤ length ws
  enough = omega (arith, o.room, a.frame.same_length)

  -- the operand's list, as it is read now
  operand : Zones ws base n there
  operand =
      record {
        room = omega (arith, enough, o.list.few);
        sound = subst Sound (sym (list_at_kept base n a.frame (inl (omega (arith, o.list.few))))) o.list.sound;
        apart = inl (omega (arith, o.list.few, a.behind.there_from));
      }

  module _ (l : i < n) where
    -- what the next list is made from
    pub next_ready : Supply ws here count there 0 × Zones ws (base + i * 6) 1 there × ShareNone (map Some (list_at ws here count))
    next_ready = (
      record { list = a.list; slot = record { few = omega arith; room = omega (arith, enough, a.behind.there_to) }; apart = a.behind.apart },
      one_there operand i l,
      a.shared,
    )

    abbrev rest : List Zone
    rest = list_at ws₀ (base + (i + 1) * 6) (n - (i + 1))

    step : then (without (zone_at ws (base + i * 6)) (list_at ws here count)) (without_each rest) ≡ whole ws₀ base n
    step =
        let e = same_zone ws ws₀ (base + i * 6) (base + i * 6) (kept_apart a.frame (inl (omega (arith, o.list.few)))) in
        ap (λ (w : Zone). then (without w (list_at ws here count)) (without_each rest)) e
        ∙ each_next (zone_at ws₀ (base + i * 6)) ∙ ap (λ (W : List Zone). without_each W (list_at ws here count)) (sym (list_at_next ws₀ base n i l)) ∙ a.value
      where
        each_next : (w : Zone) → then (without w (list_at ws here count)) (without_each rest) ≡ without_each (w ∷ rest) (list_at ws here count)
        each_next w = unfold without_each in refl

    module _ {vs : List ℤ} (k : Kept there 768 ws vs) where
      pub alternating_kept : Kept base 2304 ws₀ vs
      alternating_kept = kept_within (omega arith) (omega arith) (kept_trans a.frame (within a.behind k))

      pub alternating_overflow : {P : Type 0} → (without (zone_at ws (base + i * 6)) (list_at ws here count) ≡ overflow) × P → (whole ws₀ base n ≡ overflow) × Free vs base
      alternating_overflow h = (sym step ∙ ap (λ (r : Built). then r (without_each rest)) h.0, omega (arith, o.room, alternating_kept.same_length))

      pub alternating_on : {m : ℕ} → Listing (without (zone_at ws (base + i * 6)) (list_at ws here count)) vs there m → Alternating ws₀ base n (i + 1) vs there here m
      alternating_on {m} h =
          record {
            most = omega arith;
            behind = behind_swap a.behind;
            list = record {
              few = h.holds.few;
              room = omega (arith, enough, k.same_length, a.behind.there_to);
              sound = subst Sound (sym h.holds.zones) (without_well (zone_at ws (base + i * 6)) (list_at ws here count) h.value a.list.sound).proper;
            };
            shared = subst (λ (L : List Zone). ShareNone (map Some L)) (sym h.holds.zones) (without_share (zone_at ws (base + i * 6)) (list_at ws here count) h.value a.shared);
            frame = kept_trans a.frame (within a.behind k);
            value = ap (without_each rest) h.holds.zones ∙ ap (λ (r : Built). then r (without_each rest)) (sym h.value) ∙ step;
          }

  -- no zone of the operand is left: the last list is brought to its place
  pub bring_ready : (count ≤ 128) × (here + 768 ≤ length ws) × (base + 768 ≤ length ws) × ((here ≡ base) ⊎ Disjoint here base)
  bring_ready = (a.list.few, omega (arith, enough, a.behind.here_to), omega (arith, enough), inr (inr a.behind.here_from))

  pub alternating_end : n ≤ i → {vs : List ℤ} → list_at vs base count ≡ list_at ws here count → Kept base 768 ws vs → Listing (whole ws₀ base n) vs base count × Kept base 2304 ws₀ vs
  alternating_end h e k = (
    record { list = list_at ws here count; value = sym a.value ∙ ends; holds = brought (holds_same ws here count a.list.few) e },
    kept_trans (kept_within (omega arith) (omega arith) a.frame) (kept_within (omega arith) (omega arith) k),
  )
    where
      none : without_each [] (list_at ws here count) ≡ listed (list_at ws here count)
      none = unfold without_each in refl

      ends : without_each (list_at ws₀ (base + i * 6) (n - i)) (list_at ws here count) ≡ listed (list_at ws here count)
      ends = ap (λ (W : List Zone). without_each W (list_at ws here count)) (nothing_left ws₀ (base + i * 6) n i h) ∙ none

-- ---- all stretches, written behind the operand's list

module _ {ws : List ℤ} {base n : ℕ} (s : Source ws base n) (room : base + 2304 ≤ length ws) (from to : ℕ) {us : List ℤ} (e : us ≡ overwrite ws (base + 768) (codes (everything from to))) where
  written : Kept (base + 768) 768 ws us
  written = written_kept (everything from to) ws (base + 768) (omega arith) e

  alone : list_at us (base + 768) 1 ≡ everything from to ∷ []
  alone = written_alone (everything from to) ws (base + 768) (omega arith) e

  pub everything_ready : from ≤ to → to ≤ 1_000_000 → Operand us base n
  everything_ready h k =
      record {
        list = still_source base n s written (inl (omega arith));
        first = record { few = omega arith; room = omega (arith, written.same_length); sound = subst Sound (sym alone) (sound_one (proper_within (omega arith) k (proper_everything from to h))) };
        room = omega (arith, written.same_length);
      }

  -- the rule begins with it
  pub everything_same : {vs : List ℤ} (r : Result ℕ Overflow) → BuiltAs (whole us base n) vs base r × Kept base 2304 us vs → BuiltAs (absent from to (list_at ws base n)) vs base r × Kept base 2304 ws vs
  unfolding absent
  everything_same {vs} r h = (
    subst (λ (b : Built). BuiltAs b vs base r) (λ i. without_each (list_there base n written (inl (omega arith)) s.few i) (alone i)) h.0,
    kept_trans (kept_within (omega arith) (omega arith) written) h.1,
  )
