-- The level of a channel in a tick, computed, and told from the change that holds there.
use mathlib.Core.Path.{◌≡◌, refl, sym, ap, subst, ◌∙◌}
use mathlib.Core.Bool.{Bool, true, false, cond, ◌&&◌}
use mathlib.Core.List.{List}
use mathlib.Core.Logic.{◌↔◌, ◌⊎◌, inl, inr, ⊎_map, ⊎_elim}
use Prim.Native.Nat.{ℕ, zero, suc, ◌+◌, ◌≤◌, ◌<◌}
use native.Mathlib.Decide.{dec_le, ℕ_discrete}
use native.Mathlib.Omega.{arith}
use borrow.Author.Tests.{ltb-true, ltb-false, leb-true, leb-false, le-leb, ne_eqb}
use lib.Dec.{leb, ltb}
use Rattle.recording.specs.Reading.{tick, ticks, time, levels, changes, IsRecording}
use Rattle.recording.specs.Changes.{begins}
use Rattle.std.proofs.Common.{lt_of_lt_of_le, pow_mono, ◌/◌, ◌^◌}
use native.Mathlib.Nat.{div-eq_of_lt}
use Rattle.runs.specs.Levels.{level_in, Stands, Shows}
use Rattle.runs.specs.Search.{other, same_level, leaves_at}
use Rattle.runs.specs.declared.Level.{Level}
use Rattle.runs.specs.declared.Level.TheVariants.{High, Low}
use Rattle.recording.specs.declared.Dimensions.{Dimensions}
use Rattle.recording.proofs.Changes.{begins_change, begins_end, begins_mono, begins_ticks}

-- two bytes have no bit from the sixteenth on
pub no_bit : (word channel : ℕ) → word < 65536 → 16 ≤ channel → word / 2 ^ channel ≡ 0
no_bit word channel h k = div-eq_of_lt (lt_of_lt_of_le h (pow_mono k))

-- THE LEVEL, COMPUTED

cannot : false ≡ true → ⊥
cannot e = let z : ◌≡◌ {A = ℕ} 0 1 = cc in omega arith

same_is : (a b : Level) → (same_level a b ≡ true) ↔ (a ≡ b)
same_is High High = (λ _. refl, λ _. refl)
same_is Low Low = (λ _. refl, λ _. refl)
same_is High Low = (λ e. cc, λ e. cc)
same_is Low High = (λ e. cc, λ e. cc)

leaves_is : (bytes : List ℕ) (channel : ℕ) (level : Level) (j : ℕ) → 0 < j
    → (leaves_at bytes channel level j ≡ true) ↔ (level_in (levels bytes j) channel ≡ level)
unfolding leaves_at
leaves_is bytes channel level j h = rw (ne_eqb j 0 (omega arith)) (same_is _ level)

-- of the changes 1 to n, one stands in tick k and leaves the channel at the level
shown_by : List ℕ → ℕ → Level → ℕ → ℕ → Bool
shown_by bytes channel level k zero = false
shown_by bytes channel level k (suc n) =
    cond (leb (tick (time bytes (suc n))) k) (leaves_at bytes channel level (suc n)) (shown_by bytes channel level k n)

-- one change at most stands in a tick
not_later : {bytes : List ℕ} {k i j : ℕ} → Stands bytes k i → Stands bytes k j → j ≤ i
not_later {i = i} {j = j} a b = elim (dec_le j i) [ yes q ↦ q | no q ↦ omega (arith, b.begun, a.last j (omega arith) b.change) ]

stands_one : {bytes : List ℕ} {k i j : ℕ} → Stands bytes k i → Stands bytes k j → i ≡ j
stands_one a b = omega (arith, not_later a b, not_later b a)

-- all changes after the n-th are later than tick k
abbrev LaterThan : List ℕ → ℕ → ℕ → Type 0
LaterThan bytes k n = (i : ℕ) → n < i → i ≤ changes bytes → k < tick (time bytes i)

one_less : (bytes : List ℕ) (k n : ℕ) → LaterThan bytes k (suc n) → k < tick (time bytes (suc n)) → LaterThan bytes k n
one_less bytes k n later now i a b =
    elim (ℕ_discrete i (suc n)) [ yes q ↦ subst (λ (j : ℕ). k < tick (time bytes j)) (sym q) now | no q ↦ later i (omega arith) b ]

module _ (bytes : List ℕ) (channel : ℕ) (level : Level) (k : ℕ) (now : k < ticks bytes) where
  -- with all changes after the n-th later than tick k, the test of the n-th decides
  after : (n : ℕ) → n ≤ changes bytes → LaterThan bytes k n → (shown_by bytes channel level k n ≡ true) ↔ Shows bytes channel level k
  unfolding shown_by
  after zero h later = (λ e. absurd (cannot e), λ s. absurd (none s))
    where
      none : Shows bytes channel level k → ⊥
      none s = omega (arith, s.stands.begun, later s.change s.stands.first s.stands.change)
  after (suc n) h later = go (after n (omega arith)) (leb (tick (time bytes (suc n))) k) refl
    where
      go : (LaterThan bytes k n → (shown_by bytes channel level k n ≡ true) ↔ Shows bytes channel level k)
          → (t : Bool) → leb (tick (time bytes (suc n))) k ≡ t
          → (cond t (leaves_at bytes channel level (suc n)) (shown_by bytes channel level k n) ≡ true) ↔ Shows bytes channel level k
      go before true e =
          let this : Stands bytes k (suc n) = record { first = omega arith; change = h; begun = leb-true _ _ e; last = later } in
          let is = leaves_is bytes channel level (suc n) (omega arith) in (
            λ l. record { inside = now; change = suc n; stands = this; left = is.0 l },
            λ s. is.1 (subst (λ (i : ℕ). level_in (levels bytes i) channel ≡ level) (stands_one s.stands this) s.left),
          )
      go before false e = before (one_less bytes k n later (leb-false _ _ e))

-- the test for a level in a tick
unfoldable pub shown : List ℕ → ℕ → Level → ℕ → Bool
unfolding shown_by
shown bytes channel level k = ltb k (ticks bytes) && shown_by bytes channel level k (changes bytes)

-- it tells what the channel shows
pub shown_is : (bytes : List ℕ) (channel : ℕ) (level : Level) (k : ℕ) → (shown bytes channel level k ≡ true) ↔ Shows bytes channel level k
unfolding shown
shown_is bytes channel level k = go (ltb k (ticks bytes)) refl
  where
    go : (t : Bool) → ltb k (ticks bytes) ≡ t → ((t && shown_by bytes channel level k (changes bytes)) ≡ true) ↔ Shows bytes channel level k
    go true e = after bytes channel level k (ltb-true _ _ e) (changes bytes) (omega arith) (λ i a b. omega arith)
    go false e = (λ h. absurd (cannot h), λ h. absurd (early h))
      where
        early : Shows bytes channel level k → ⊥
        early s = omega (arith, s.inside, ltb-false k (ticks bytes) e)

-- ONE LEVEL OR THE OTHER

differ : (level : Level) → level ≡ other level → ⊥
differ High e = let z : ◌≡◌ {A = ℕ} 0 1 = cc in omega arith
differ Low e = let z : ◌≡◌ {A = ℕ} 0 1 = cc in omega arith

either : (a level : Level) → (a ≡ level) ⊎ (a ≡ other level)
either High High = inl refl
either High Low = inr refl
either Low High = inr refl
either Low Low = inl refl

-- from the tick of a change on, it stands or a later one does
some_stands : (bytes : List ℕ) (k j : ℕ) → 0 < j → tick (time bytes j) ≤ k → (n : ℕ) → j ≤ n → n ≤ changes bytes → LaterThan bytes k n
    → (i : ℕ) × Stands bytes k i
some_stands bytes k j some begun zero a h later = absurd (omega arith)
some_stands bytes k j some begun (suc n) a h later = elim (dec_le (tick (time bytes (suc n))) k) [
  | yes q ↦ (suc n, record { first = omega arith; change = h; begun = q; last = later })
  | no q ↦ some_stands bytes k j some begun n (before q) (omega arith) (one_less bytes k n later (omega arith))
]
  where
    before : ¬ (tick (time bytes (suc n)) ≤ k) → j ≤ n
    before q = elim (ℕ_discrete j (suc n)) [ yes e ↦ absurd (q (subst (λ (i : ℕ). tick (time bytes i) ≤ k) e begun)) | no e ↦ omega arith ]

module _ (bytes : List ℕ) (channel : ℕ) (level : Level) where
  -- a channel has no two levels in a tick
  pub shows_one : (k : ℕ) → Shows bytes channel level k → Shows bytes channel (other level) k → ⊥
  shows_one k s t =
      differ level (sym s.left ∙ ap (λ (j : ℕ). level_in (levels bytes j) channel) (stands_one s.stands t.stands) ∙ t.left)

  -- from the tick of a change on it has one
  shows_some : (k j : ℕ) → 0 < j → j ≤ changes bytes → tick (time bytes j) ≤ k → k < ticks bytes
      → Shows bytes channel level k ⊎ Shows bytes channel (other level) k
  shows_some k j some one begun now =
      let i = some_stands bytes k j some begun (changes bytes) one (omega arith) (λ i a b. omega arith) in
      ⊎_map (λ e. record { inside = now; change = i.0; stands = i.1; left = e }) (λ e. record { inside = now; change = i.0; stands = i.1; left = e })
      (either (level_in (levels bytes i.0) channel) level)

  -- where it has a level, it has one in the next tick too
  pub shows_next : (k : ℕ) → Shows bytes channel level k → suc k < ticks bytes
      → Shows bytes channel level (suc k) ⊎ Shows bytes channel (other level) (suc k)
  shows_next k s now = shows_some (suc k) s.change s.stands.first s.stands.change (omega (arith, s.stands.begun)) now

-- THE CHANGES DIVIDE THE TICKS

by_change : (bytes : List ℕ) (channel : ℕ) (level : Level) (k j : ℕ) → j ≤ changes bytes → begins bytes j ≤ k
    → shown_by bytes channel level k j ≡ leaves_at bytes channel level j
unfolding shown_by leaves_at
by_change bytes channel level k zero h b = refl
by_change bytes channel level k (suc j) h b = rw (le-leb _ _ (rw (begins_change bytes (suc j) (omega arith) h) at b))

-- of bytes that were read as a recording
module _ {bytes : List ℕ} {size : Dimensions} (read : IsRecording bytes size) where
  -- from a change's tick to the next one's the channel has the level that the change leaves
  pub held : (channel : ℕ) (level : Level) (j k : ℕ) → begins bytes j ≤ k → k < begins bytes (j + 1)
      → (leaves_at bytes channel level j ≡ true) ↔ Shows bytes channel level k
  held channel level j k h b =
      let d = after bytes channel level k (omega (arith, begins_ticks read (j + 1))) j few later in
      let e = by_change bytes channel level k j few h in
      (λ q. d.0 (e ∙ q), λ q. sym e ∙ d.1 q)
    where
      few : j ≤ changes bytes
      few = elim (dec_le j (changes bytes)) [ yes q ↦ q | no q ↦ absurd (past (rw (begins_end bytes j (omega arith)) at h) (begins_ticks read (j + 1))) ]
        where
          past : ticks bytes ≤ k → begins bytes (j + 1) ≤ ticks bytes → ⊥
          past p q = omega arith

      later : LaterThan bytes k j
      later i p q = omega (arith, begins_mono read (j + 1) i (omega arith), begins_change bytes i (omega arith) q)

  -- what shows is reported: the first change is not later
  pub since : {channel : ℕ} {level : Level} {k : ℕ} → Shows bytes channel level k → (begins bytes 1 ≤ k) × (k < ticks bytes)
  since s =
      let j = s.stands in
      (omega (arith, j.begun, begins_mono read 1 s.change j.first, begins_change bytes s.change j.first j.change), s.inside)

  -- A channel has a level exactly in the ticks from that of the first change on. Without a change, or with the first one on tick d, there are none.
  pub reported : (channel k : ℕ) → (Shows bytes channel High k ⊎ Shows bytes channel Low k) ↔ ((begins bytes 1 ≤ k) × (k < ticks bytes))
  reported channel k = (⊎_elim since since, λ h. some h.0 h.1)
    where
      some : begins bytes 1 ≤ k → k < ticks bytes → Shows bytes channel High k ⊎ Shows bytes channel Low k
      some h now = elim (dec_le 1 (changes bytes)) [
        | yes q ↦ shows_some bytes channel High k 1 (omega arith) q (omega (arith, begins_change bytes 1 (omega arith) q)) now
        | no q ↦ absurd (omega (arith, begins_end bytes 1 (omega arith)))
      ]
