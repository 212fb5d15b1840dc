-- The loop over the zones: what is seen so far, with the zones that are left.
use Rattle.std.specs.Prelude.{Option, None}
use mathlib.Core.Path.{◌≡◌, refl}
use mathlib.Core.List.Memᴰ.{head}
use mathlib.Core.List.Memᴰ.{tail}
use mathlib.Core.List.{List, ◌∷◌}
use Prim.Native.Nat.{ℕ, ◌+◌, ◌-◌, ◌*◌, ◌≤◌, ◌<◌}
use native.Mathlib.Nat.{zero-add, sub-zero, sub-eq-zero_of_le}
use native.Mathlib.Omega.{arith}
use lib.IntN.{ℤ}
use Rattle.limit.specs.Time.{at_tick}
use Rattle.zone.specs.Zone.{Proper, compose, diagonal}
use Rattle.words.specs.Words.{zone_words, zone_at}
use Rattle.list.specs.Members.{Lies}
use Rattle.list.specs.Slots.{list_at, Sound}
use Rattle.list.proofs.Slots.{list_at_next}
use Rattle.extremes.specs.declared.Seen.{Seen}
use Rattle.extremes.specs.Ends.{EndsAs}
use Rattle.extremes.specs.Steps.{see, told}
use Rattle.extremes.proofs.Each.{see_each}
use Rattle.extremes.proofs.Peaks.{ends_told}

-- of n zones in front of the words, i are seen
pub record Seeing (ws : List ℤ) (n s : ℕ) (seen : Option Seen) (i : ℕ) : Type 0 where
  pub few : i ≤ n
  pub sound : Sound (list_at ws (i * zone_words) (n - i))
  pub whole : see_each s None (list_at ws 0 n) ≡ see_each s seen (list_at ws (i * zone_words) (n - i))

module _ {ws : List ℤ} {n s : ℕ} where
  pub none_seen : Sound (list_at ws 0 n) → Seeing ws n s None 0
  none_seen h = record { few = omega arith; sound = rw sub-zero h; whole = rw sub-zero }

  module _ {seen : Option Seen} {i : ℕ} (h : Seeing ws n s seen i) (more : i < n) where
    next : list_at ws (i * zone_words) (n - i) ≡ zone_at ws (i * zone_words) ∷ list_at ws ((i + 1) * zone_words) (n - (i + 1))
    next = rw (zero-add (i * zone_words), zero-add ((i + 1) * zone_words)) at (list_at_next ws 0 n i more)

    pub proper_next : Proper 0 1_000_000 (zone_at ws (i * zone_words))
    proper_next = (rw next at h.sound) _ (head refl)

    pub one_more : Seeing ws n s (see seen (compose (diagonal s s) (zone_at ws (i * zone_words)))) (i + 1)
    unfolding see_each
    one_more = record { few = omega arith; sound = λ z m. (rw next at h.sound) z (tail m); whole = rw next at h.whole }

  pub all_seen : {seen : Option Seen} {i : ℕ} → Seeing ws n s seen i → n ≤ i → Sound (list_at ws 0 n) → EndsAs (Lies (list_at ws 0 n) (at_tick s)) (told seen)
  unfolding see_each list_at
  all_seen {seen} {i} h done sound =
      let e : see_each s None (list_at ws 0 n) ≡ seen = rw (sub-eq-zero_of_le done) at h.whole in
      rw e at (ends_told s (list_at ws 0 n) (λ z m. (sound z m).tight))
