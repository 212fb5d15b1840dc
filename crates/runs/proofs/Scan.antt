-- What the search for a change keeps and finds, and that two searches find the next run.
use mathlib.Core.Path.{◌≡◌, refl, sym}
use mathlib.Core.Bool.{Bool, true, false, not, beq}
use mathlib.Core.List.{List}
use mathlib.Core.Logic.{◌↔◌}
use Prim.Native.Nat.{ℕ, ◌+◌, ◌≤◌, ◌<◌, max, min}
use native.Mathlib.Decide.{dec_le}
use native.Mathlib.Omega.{arith}
use Rattle.recording.specs.Reading.{ticks, changes, IsRecording}
use Rattle.runs.specs.Levels.{Shows}
use Rattle.recording.specs.Changes.{begins}
use Rattle.runs.specs.Scan.{NextRun}
use Rattle.runs.specs.Search.{leaves_at, Decides, Sought}
use Rattle.runs.specs.declared.Level.{Level}
use Rattle.recording.specs.declared.Dimensions.{Dimensions}
use Rattle.runs.specs.declared.Cursor.{Cursor}
use Rattle.std.specs.Prelude.{Some, None}
use Rattle.recording.proofs.Changes.{begins_mono, begins_ticks, begins_end}
use Rattle.runs.proofs.Levels.{held}

-- what the search keeps: change i comes next, and no tick from change j up to there has what is wanted
pub record Seeking (bytes : List ℕ) (channel : ℕ) (level : Level) (from to j : ℕ) (wanted : Bool) (i : ℕ) : Type 0 where
  pub ahead : j ≤ i
  pub passed : (k : ℕ) → from ≤ k → k < to → begins bytes j ≤ k → k < begins bytes i → Decides (not wanted) (Shows bytes channel level k)

agreed : (a b : Bool) → beq a b ≡ true → a ≡ b
agreed true true e = refl
agreed false false e = refl
agreed true false e = sym e
agreed false true e = e

other : (a b : Bool) → beq a b ≡ false → a ≡ not b
other true false e = refl
other false true e = refl
other true true e = e
other false false e = sym e

answered : {t : Bool} {A : Type 0} (w : Bool) → (t ≡ true) ↔ A → t ≡ w → Decides w A
answered true h e = h.0 e
answered false h e = λ a. let q = h.1 a in let z : ◌≡◌ {A = ℕ} 0 1 = cc in omega arith

-- a change that begins before the end is one
pub early : (bytes : List ℕ) (i : ℕ) → begins bytes i < ticks bytes → i ≤ changes bytes
early bytes i h = elim (dec_le i (changes bytes)) [ yes k ↦ k | no k ↦ absurd (late (begins_end bytes i (omega arith))) ]
  where
    late : begins bytes i ≡ ticks bytes → ⊥
    late e = omega arith

module _ {bytes : List ℕ} {size : Dimensions} (read : IsRecording bytes size) {channel : ℕ} {level : Level} {from to j : ℕ} {wanted : Bool} where
  -- at change j nothing was passed
  pub seek_start : Seeking bytes channel level from to j wanted j
  seek_start = record { ahead = omega arith; passed = λ k _ _ a b. absurd (empty k a b) }
    where
      empty : (k : ℕ) → begins bytes j ≤ k → k < begins bytes j → ⊥
      empty k a b = omega arith

  -- a change without a tick in from..to, or with another answer there, is passed
  pub seek_on : {i : ℕ} → Seeking bytes channel level from to j wanted i
      → (max from (begins bytes i) < min to (begins bytes (i + 1)) → beq (leaves_at bytes channel level i) wanted ≡ false) → Seeking bytes channel level from to j wanted (i + 1)
  seek_on {i} s n = record {
    ahead = let h = s.ahead in omega arith;
    passed = λ k f t p q. elim (dec_le (begins bytes i) k) [
      | no h ↦ s.passed k f t p (omega arith)
      | yes h ↦ answered (not wanted) (held read channel level i k h q) (other _ wanted (n (omega arith)))
    ];
  }

  -- a change with the wanted answer is found, if it has a tick in from..to or `to` comes first
  pub seek_found : {i : ℕ} → Seeking bytes channel level from to j wanted i → (begins bytes i < to → max from (begins bytes i) < min to (begins bytes (i + 1)))
      → beq (leaves_at bytes channel level i) wanted ≡ true → Sought bytes channel level from to j wanted i
  seek_found s h w = record { ahead = s.ahead; passed = s.passed; fits = h; shown = λ _. agreed _ wanted w }

  -- behind the last change the search is over, wherever there
  pub seek_end : {i r : ℕ} → Seeking bytes channel level from to j wanted i → to ≤ ticks bytes → changes bytes < i → j ≤ r → changes bytes < r
      → Sought bytes channel level from to j wanted r
  seek_end {i} {r} s h l a m =
      record { ahead = a; passed = λ k f t p q. s.passed k f t p (omega (arith, begins_end bytes i l)); fits = λ q. absurd (no_more q); shown = λ q. absurd (no_more q) }
    where
      no_more : begins bytes r < to → ⊥
      no_more q = omega (arith, begins_end bytes r m)

module _ {bytes : List ℕ} {size : Dimensions} (read : IsRecording bytes size) {channel : ℕ} {level : Level} {from to end : ℕ} {cursor : Cursor}
    (cut : end ≡ min to (ticks bytes)) {f : ℕ} (first : Sought bytes channel level from end cursor.change true f) where
  -- no change before the end leaves the channel at the level
  pub next_none : end ≤ begins bytes f → NextRun bytes channel level from to cursor None
  next_none h k p t s = first.passed k (omega arith) (omega (arith, s.inside)) (omega arith) (omega (arith, s.inside)) s

  -- the run is from the change found first to the first one after it that leaves another level
  pub next_found : {p s e : ℕ} → begins bytes f < end → Sought bytes channel level from end (f + 1) false p
      → s ≡ max from (begins bytes f) → e ≡ min end (begins bytes p)
      → NextRun bytes channel level from to cursor (Some (record { start = s; end = e }, record { change = p }))
  next_found {p} {s} {e} h past es ee = (
    record {
      ahead = omega (arith, begins_mono read cursor.change f first.ahead);
      some = omega (arith, start, begins_mono read (f + 1) p past.ahead);
      upper = omega arith;
      silent = λ k a b. first.passed k (omega arith) (omega (arith, start)) (omega (arith, start)) (omega (arith, start));
      holds = λ k a b. elim (dec_le (begins bytes (f + 1)) k) [
        | no q ↦ (held read channel level f k (omega arith) (omega arith)).0 (first.shown h)
        | yes q ↦ past.passed k (omega arith) (omega arith) q (omega arith)
      ];
      right = λ t w. elim (dec_le end (begins bytes p)) [ yes q ↦ over w.inside t q | no q ↦ differs (omega arith) w ];
    },
    omega (arith, start, begins_mono read (f + 1) p past.ahead, begins_ticks read p),
  )
    where
      start : max from (begins bytes f) < min end (begins bytes (f + 1))
      start = first.fits h

      over : e < ticks bytes → e < to → end ≤ begins bytes p → ⊥
      over a b q = omega arith

      differs : begins bytes p < end → Shows bytes channel level e → ⊥
      differs q w =
          let room = past.fits q in
          let on = (held read channel level p e (omega arith) (omega arith)).1 w in
          let off = past.shown q in
          let z : ◌≡◌ {A = ℕ} 0 1 = cc in
          omega arith
