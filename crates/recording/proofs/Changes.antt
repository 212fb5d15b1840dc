-- Where changes begin: no later one earlier, and none after the end.
use mathlib.Core.Path.{◌≡◌, subst}
use mathlib.Core.List.{List}
use Prim.Native.Nat.{ℕ, zero, suc, ◌+◌, ◌-◌, ◌≤◌, ◌<◌}
use native.Mathlib.Decide.{dec_le, ℕ_discrete}
use native.Mathlib.Nat.{le_trans}
use native.Mathlib.Numerals.{add-one}
use native.Mathlib.Omega.{arith}
use borrow.Author.Tests.{le-leb, lt-leb, ne_eqb}
use Rattle.recording.specs.Reading.{tick, ticks, time, changes, IsRecording}
use Rattle.recording.specs.Changes.{begins}
use Rattle.recording.specs.declared.Dimensions.{Dimensions}
use Rattle.recording.proofs.Rounding.{tick_mono}
use Rattle.recording.proofs.Refusals.{read_changed, read_room, read_time}

module _ (bytes : List ℕ) where
  pub begins_change : (j : ℕ) → 0 < j → j ≤ changes bytes → begins bytes j ≡ tick (time bytes j)
  unfolding begins
  begins_change j h k = rw (ne_eqb j 0 (omega arith), le-leb j (changes bytes) k)

  pub begins_end : (j : ℕ) → changes bytes < j → begins bytes j ≡ ticks bytes
  unfolding begins
  begins_end j h = rw (ne_eqb j 0 (omega arith), lt-leb j (changes bytes) h)

-- where a change of a recording begins, and that its time can be looked up
pub ruleset where_begins = (begins_change, begins_end, read_room, read_time)

-- of bytes that were read as a recording
module _ {bytes : List ℕ} {size : Dimensions} (read : IsRecording bytes size) where
  -- no change holds before the one before it
  begins_next : (j : ℕ) → begins bytes j ≤ begins bytes (j + 1)
  unfolding begins
  begins_next j = elim (dec_le j (changes bytes)) [
    | no h ↦ rw (begins_end bytes j (omega arith), begins_end bytes (j + 1) (omega arith)) (omega arith)
    | yes h ↦ elim (ℕ_discrete j 0) [
      | yes z ↦ rw z (omega arith)
      | no z ↦ elim (dec_le (j + 1) (changes bytes)) [
        | yes k ↦ rw (begins_change bytes j (omega arith) h, begins_change bytes (j + 1) (omega arith) k)
            (tick_mono (omega (arith, rises (omega arith) k)))
        | no k ↦ rw (begins_change bytes j (omega arith) h, begins_end bytes (j + 1) (omega arith)) (tick_mono (omega (arith, (read_changed read j (omega arith) h).below)))
      ]
    ]
  ]
    where
      rises : 0 < j → j + 1 ≤ changes bytes → time bytes j < time bytes (j + 1)
      rises z k =
          let e : j + 1 - 1 ≡ j = omega arith in
          subst (λ (i : ℕ). time bytes i < time bytes (j + 1)) e ((read_changed read (j + 1) (omega arith) k).above (omega arith))

  pub begins_mono : (i j : ℕ) → i ≤ j → begins bytes i ≤ begins bytes j
  begins_mono i zero h = rw (the_same h) (omega arith)
    where
      the_same : i ≤ 0 → i ≡ 0
      the_same a = omega arith
  begins_mono i (suc j) h = elim (ℕ_discrete i (suc j)) [
    | yes e ↦ rw e (omega arith)
    | no e ↦ le_trans (begins_mono i j (omega arith)) (rw add-one at (begins_next j))
  ]

  -- the last of them at or before d
  pub begins_ticks : (j : ℕ) → begins bytes j ≤ ticks bytes
  begins_ticks j = le_trans (begins_mono j (j + changes bytes + 1) (omega arith)) (rw (begins_end bytes (j + changes bytes + 1) (omega arith)) (omega arith))
