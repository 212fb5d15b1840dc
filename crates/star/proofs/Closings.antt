-- What the loops have put together, as the answers of a round and of a star.
use Rattle.std.specs.Prelude.{Some, Err}
use mathlib.Core.Path.{◌≡◌, refl, sym, ap, subst, ◌∙◌}
use mathlib.Core.Logic.{◌⊎◌, inl, inr}
use mathlib.Core.List.{List, [], ◌∷◌}
use Prim.Native.Nat.{ℕ, ◌+◌, ◌*◌, ◌≤◌, ◌<◌}
use native.Mathlib.Omega.{arith}
use lib.IntN.{ℤ}
use Rattle.zone.specs.declared.Zone.{Zone}
use Rattle.list.specs.Insert as puts
use Rattle.list.specs.Insert.{Built, listed, insert_each}
use Rattle.pairs.specs.declared.Operation.TheVariants.{Compose}
use Rattle.pairs.specs.Counted.{Counted}
use Rattle.pairs.specs.Pairs.{pairs, Touching, crossed}
use Rattle.purse.specs.declared.Stopped.{Stopped}
use Rattle.purse.specs.declared.Stopped.TheVariants.{Overflow, Spent}
use Rattle.purse.specs.Purse.{Standing, Overflowed, Exceeding, EvaluatedAs}
use Rattle.star.specs.Star.{Value, value, overflow, begun, Rounds, Star, closed, diagonal_overflows, round_overflows, round}
use Rattle.list.specs.Slots.{list_at, Free, Sound, Kept, Copied, Disjoint}
use Rattle.pairs.specs.Operands.{Operands}
use Rattle.operators.specs.Listing.{Workspace, Listing}
use Rattle.growing.specs.declared.Growing.{Growing}
use Rattle.growing.specs.Growth.{Alters, Unsurpassed, Stands, Begins, Growth}
use Rattle.star.specs.Steps.{Changes, Ending, EndsAs}
use Rattle.list.proofs.Slots.{list_at_copied, list_there, still_source, still_slot}
use Rattle.growing.proofs.Loops.{alters_changed}
use Rattle.growing.proofs.Going.{standing_stands, begun_pairs}
use Rattle.pairs.proofs.Zones.{still_supply}
use Rattle.list.proofs.Copies.{copy_kept}

module _ {ws us : List ℤ} {list n inner m copy : ℕ} (o : Operands ws list n inner m copy 0) (c : Copied list copy (n * 6) ws us) where
  pub round_kept : Kept copy 768 ws us
  round_kept = copy_kept o.lefts.list.few c

  same_list : list_at us list n ≡ list_at ws list n
  same_list = list_there list n round_kept o.lefts.apart o.lefts.list.few

  same_inner : list_at us inner m ≡ list_at ws inner m
  same_inner = list_there inner m round_kept o.rights.apart o.rights.list.few

  same_copy : list_at us copy n ≡ list_at ws list n
  same_copy = list_at_copied n c

  -- the lists after the copy can be combined still, and the copy has the list's zones
  module _ {g : Growing} (b : Begins n g) where
    pub round_operands : Unsurpassed g.latest → Operands us list n inner m copy g.count × Stands us copy g × (g.pairs ≡ 0)
    round_operands u =
        let few = o.lefts.list.few in
        let ready : Operands us list n inner m copy n = record { lefts = still_supply o.lefts round_kept few; rights = still_supply o.rights round_kept few } in
        (subst (Operands us list n inner m copy) (sym b.count) ready, standing_stands b u (still_slot o.lefts.slot round_kept few) (subst Sound (sym same_copy) o.lefts.list.sound), b.pairs)

    copied : list_at us copy g.count ≡ list_at ws list n
    copied = ap (list_at us copy) b.count ∙ same_copy

    round_is : insert_each (pairs Compose (list_at us list n) (list_at us inner m)) (list_at us copy g.count) ≡ round (list_at ws inner m) (list_at ws list n)
    unfolding round
    round_is = rw (same_list, same_inner, copied)

    pub round_overflow : {P : Type 0} → (insert_each (pairs Compose (list_at us list n) (list_at us inner m)) (list_at us copy g.count) ≡ puts.overflow) × P → (round (list_at ws inner m) (list_at ws list n) ≡ puts.overflow) × P
    round_overflow e = (sym round_is ∙ e.0, e.1)

    module _ {vs : List ℤ} {h : Growing} (w : Growth (insert_each (pairs Compose (list_at us list n) (list_at us inner m)) (list_at us copy g.count)) (Counted Touching (crossed (list_at us list n) (list_at us inner m))) g (list_at us copy g.count) vs copy h) where
      altered : Alters h.changed (list_at ws list n) w.list
      altered = w.alters (list_at ws list n) (subst (λ (t : ℕ). Alters t (list_at ws list n) (list_at us copy g.count)) (sym b.changed) copied)

      pub round_pairs : Counted Touching (crossed (list_at ws list n) (list_at ws inner m)) h.pairs
      round_pairs = rw (same_list, same_inner) at (begun_pairs b w)

      pub round_changes : ¬ (h.changed ≡ 0) → Changes (list_at ws inner m) (list_at ws list n) vs copy h.count
      round_changes e = record { list = w.list; value = sym round_is ∙ w.value; new = alters_changed h.changed e altered; holds = w.holds }

      pub round_same : Kept copy 768 us vs → h.changed ≡ 0 → (round (list_at ws inner m) (list_at ws list n) ≡ listed (list_at ws list n)) × Counted Touching (crossed (list_at ws list n) (list_at ws inner m)) h.pairs × Free vs copy
      round_same f e = (sym round_is ∙ w.value ∙ ap listed (subst (λ (t : ℕ). Alters t (list_at ws list n) w.list) e altered), round_pairs, omega (arith, o.lefts.slot.room, round_kept.same_length, f.same_length))

-- ---- a star: the inner list copied, the rounds, then the diagonal

module _ {ws us : List ℤ} {inner m target scratch : ℕ} (work : Workspace ws inner m target scratch) (c : Copied inner target (m * 6) ws us) where
  pub begun_kept : Kept target 768 ws us
  begun_kept = copy_kept work.list.few c

  begun_inner : list_at us inner m ≡ list_at ws inner m
  begun_inner = list_there inner m begun_kept work.target_apart work.list.few

  pub begun_work : Workspace us inner m target scratch
  begun_work =
      record {
        list = still_source inner m work.list begun_kept work.target_apart;
        target_free = omega (arith, work.target_free, begun_kept.same_length);
        scratch_free = omega (arith, work.scratch_free, begun_kept.same_length);
        target_apart = work.target_apart;
        scratch_apart = work.scratch_apart;
        both_apart = work.both_apart;
      }

  pub begun_list : list_at us target m ≡ list_at us inner m
  begun_list = list_at_copied m c ∙ sym begun_inner

  -- what all rounds from the copy come to is what those of the inner list come to
  pub begun_rounds : (P : (Value → Type 0) → Type 0) → P (Rounds (list_at us inner m) (list_at us inner m)) → P (Rounds (list_at ws inner m) (list_at ws inner m))
  begun_rounds P = subst (λ (I : List Zone). P (Rounds I I)) begun_inner

  pub begun_ending : {told : ℕ} {vs : List ℤ} {at n left : ℕ} → Ending (list_at us inner m) told target scratch vs at n left → Ending (list_at ws inner m) told target scratch vs at n left
  begun_ending {told} {vs} {at} {n} {left} w = record { standing = begun_rounds (λ R. Standing R told vs at n left) w.standing; sound = w.sound; place = w.place; first_free = w.first_free; second_free = w.second_free }

-- the last list stands in one of the two slots
pub ending_room : {at a b size : ℕ} → (at ≡ a) ⊎ (at ≡ b) → a + 768 ≤ size → b + 768 ≤ size → at + 768 ≤ size
ending_room (inl e) h g = omega arith
ending_room (inr e) h g = omega arith

pub ending_apart : {at a b : ℕ} → (at ≡ a) ⊎ (at ≡ b) → Disjoint a b → (at ≡ a) ⊎ Disjoint at a
ending_apart (inl e) d = inl e
ending_apart (inr e) (inl h) = inr (inr (omega arith))
ending_apart (inr e) (inr h) = inr (inl (omega arith))

-- the diagonal put into the last list where that was brought
module _ (diag : Zone) {L : List Zone} (us : List ℤ) (target n : ℕ) {g : Growing} (b : Begins n g) (e : list_at us target n ≡ L) where
  brought : list_at us target g.count ≡ L
  brought = ap (list_at us target) b.count ∙ e

  pub put_overflow : {P : Type 0} → (insert_each (Some diag ∷ []) (list_at us target g.count) ≡ puts.overflow) × P → (insert_each (Some diag ∷ []) L ≡ puts.overflow) × P
  put_overflow o = (subst (λ (K : List Zone). insert_each (Some diag ∷ []) K ≡ puts.overflow) brought o.0, o.1)

  pub put_listing : {Counts : ℕ → Type 0} {h : Growing} {vs : List ℤ} → Growth (insert_each (Some diag ∷ []) (list_at us target g.count)) Counts g (list_at us target g.count) vs target h → Listing (insert_each (Some diag ∷ []) L) vs target h.count
  put_listing w = record { list = w.list; value = subst (λ (K : List Zone). insert_each (Some diag ∷ []) K ≡ listed w.list) brought w.value; holds = w.holds }

module _ {inner : List Zone} (diag : Zone) {told first second : ℕ} {us : List ℤ} {at n left : ℕ} (w : Ending inner told first second us at n left) where
  pub star_overflow : {P : Type 0} → (insert_each (Some diag ∷ []) (list_at us at n) ≡ puts.overflow) × P → Overflowed (Star inner diag) told left
  star_overflow (e, _) =
      let s = w.standing.spends in
      record {
        overflowing = record {
          opened = w.standing.rounds;
          done = w.standing.rounds;
          means = diagonal_overflows w.standing.means (subst (λ (L : List Zone). insert_each (Some diag ∷ []) L ≡ puts.overflow) w.standing.holds.zones e);
          within = omega arith;
        };
        spends = s;
      }

  pub star_closed : {vs : List ℤ} {target k : ℕ} → Listing (insert_each (Some diag ∷ []) (list_at us at n)) vs target k → Standing (Star inner diag) told vs target k left
  star_closed l =
      record {
        list = l.list;
        rounds = w.standing.rounds;
        means = closed w.standing.means (subst (λ (L : List Zone). insert_each (Some diag ∷ []) L ≡ listed l.list) w.standing.holds.zones l.value);
        spends = w.standing.spends;
        holds = l.holds;
      }

-- rounds that overflow, and rounds beyond those told, are the star's
pub rounds_overflow : {inner : List Zone} {diag : Zone} {told left : ℕ} → Overflowed (Rounds inner inner) told left → Overflowed (Star inner diag) told left
rounds_overflow b =
    let o = b.overflowing in record { overflowing = record { opened = o.opened; done = o.done; means = round_overflows o.means; within = o.within }; spends = b.spends }

pub rounds_exceed : {inner : List Zone} (diag : Zone) {told : ℕ} → Exceeding (Rounds inner inner) told → Exceeding (Star inner diag) told
rounds_exceed {inner} diag {told} x = go x.whole x.means x.beyond
  where
    put : {r : ℕ} {F : List Zone} → Rounds inner inner (value F r) → told < r → (b : Built) → insert_each (Some diag ∷ []) F ≡ b → Exceeding (Star inner diag) told
    put {r} t h (listed G) e = record { whole = value G r; means = closed t e; beyond = h }
    put {r} t h puts.overflow e = record { whole = overflow r r; means = diagonal_overflows t e; beyond = h }

    go : (v : Value) → Rounds inner inner v → told < begun v → Exceeding (Star inner diag) told
    go (value F r) t h = put t h (insert_each (Some diag ∷ []) F) refl
    go (overflow b f) t h = record { whole = overflow b f; means = round_overflows t; beyond = h }

-- rounds that stop: what the star comes to, and that both slots are free
module _ {ws us : List ℤ} {inner m target scratch : ℕ} (work : Workspace ws inner m target scratch) (c : Copied inner target (m * 6) ws us) (told : ℕ) (vs : List ℤ) where
  pub stopped_star : (diag : Zone) (e : Stopped) → EndsAs (list_at us inner m) told target scratch vs (Err e) → EvaluatedAs (Star (list_at ws inner m) diag) told vs target (Err e)
  stopped_star diag (Overflow left) o = rounds_overflow (begun_rounds work c (λ R. Overflowed R told left) o.0)
  stopped_star diag Spent o = rounds_exceed diag (begun_rounds work c (λ R. Exceeding R told) o.0)

  pub stopped_free : (e : Stopped) → EndsAs (list_at us inner m) told target scratch vs (Err e) → Free vs target × Free vs scratch
  stopped_free (Overflow left) o = (o.1, o.2)
  stopped_free Spent o = (o.1, o.2)
