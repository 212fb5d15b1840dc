-- Events are where runs end: an event is the end of a maximal run of what was before it.
use mathlib.Core.Path.{◌≡◌, refl, sym, subst}
use mathlib.Core.Bool.{Bool, true, false, cond}
use mathlib.Core.List.Memᴰ
use mathlib.Core.List.{List, [], ◌∷◌, Memᴰ}
use mathlib.Core.Logic.{◌⊎◌, ⊎_elim}
use Prim.Native.Nat.{ℕ, suc, ◌+◌, ◌-◌, ◌≤◌, ◌<◌, min}
use native.Mathlib.Decide.{dec_le}
use native.Mathlib.Omega.{arith}
use borrow.Author.Tests.{ltb-true, ltb-false}
use lib.Dec.{ltb}
use Rattle.recording.specs.Reading.{ticks, IsRecording}
use Rattle.recording.specs.Changes.{begins}
use Rattle.recording.specs.declared.Dimensions.{Dimensions}
use Rattle.runs.specs.Levels.{Shows}
use Rattle.runs.specs.Search.{other}
use Rattle.runs.specs.Runs.{Maximal, Rising, none, next, Runs}
use Rattle.runs.specs.Events.{Event, Events}
use Rattle.runs.specs.declared.Level.{Level}
use Rattle.runs.specs.declared.Run.{Run}
use Rattle.runs.proofs.Levels.{shows_one, shows_next, since}
use Rattle.runs.proofs.Rising.{same_members}
use Rattle.runs.proofs.Runs.{Complete, apart}
use Rattle.runs.proofs.Handed.{shows_held}

-- the events are one list
pub events_unique : {P Q : ℕ → Type 0} {from to : ℕ} {ss ts : List ℕ} → Events P Q from to ss → Events P Q from to ts → ss ≡ ts
events_unique {ss = ss} {ts = ts} a b =
    same_members ss ts a.rising b.rising (λ s m. let e = a.each s m in b.all s e.0 e.1 e.2) (λ s m. let e = b.each s m in a.all s e.0 e.1 e.2)

-- ---- the ends of runs

-- the ends that come before a tick
unfoldable pub ends_before : ℕ → List Run → List ℕ
ends_before to [] = []
ends_before to (r ∷ rs) = cond (ltb r.end to) (r.end ∷ ends_before to rs) (ends_before to rs)

-- s is the end of a run, before a tick
abbrev End : ℕ → List Run → ℕ → Type 0
End to rs s = (r : Run) × Memᴰ r rs × (s ≡ r.end) × (s < to)

-- each is the end of a run, and the end of each run that comes before the tick is one
end_of : (to : ℕ) (rs : List Run) {s : ℕ} → Memᴰ s (ends_before to rs) → End to rs s
unfolding ends_before
end_of to [] m = absurd (Memᴰ.not-nil m)
end_of to (r ∷ rs) {s} m = go (λ n. end_of to rs n) (ltb r.end to) refl m
  where
    later : End to rs s → End to (r ∷ rs) s
    later k = (k.0, Memᴰ.tail k.1, k.2, k.3)

    go : (Memᴰ s (ends_before to rs) → End to rs s) → (t : Bool) → ltb r.end to ≡ t
        → Memᴰ s (cond t (r.end ∷ ends_before to rs) (ends_before to rs)) → End to (r ∷ rs) s
    go rest true e n = ⊎_elim (λ q. (r, Memᴰ.head refl, q, subst (λ (k : ℕ). k < to) (sym q) (ltb-true _ _ e))) (λ k. later (rest k)) (Memᴰ.cases_cons n)
    go rest false e n = later (rest n)

end_in : (to : ℕ) (rs : List Run) {r : Run} → Memᴰ r rs → r.end < to → Memᴰ r.end (ends_before to rs)
unfolding ends_before
end_in to [] m h = absurd (Memᴰ.not-nil m)
end_in to (x ∷ rs) {r} m h = ⊎_elim (λ (q : r ≡ x). here q (ltb x.end to) refl) (λ n. there (ltb x.end to) (end_in to rs n h)) (Memᴰ.cases_cons m)
  where
    no : r ≡ x → to ≤ x.end → ⊥
    no q k = let g : x.end < to = subst (λ (y : Run). y.end < to) q h in omega arith

    here : r ≡ x → (t : Bool) → ltb x.end to ≡ t → Memᴰ r.end (cond t (x.end ∷ ends_before to rs) (ends_before to rs))
    here q true e = Memᴰ.head (λ i. (q i).end)
    here q false e = absurd (no q (ltb-false _ _ e))

    there : (t : Bool) → Memᴰ r.end (ends_before to rs) → Memᴰ r.end (cond t (x.end ∷ ends_before to rs) (ends_before to rs))
    there true n = Memᴰ.tail n
    there false n = n

-- the ends of maximal runs rise as their starts do
ends_rise : {P : ℕ → Type 0} {from last : ℕ} (to : ℕ) (rs : List Run) → ((r : Run) → Memᴰ r rs → Maximal P from last r.start r.end)
    → Rising (λ (r : Run). r.start) rs → Rising (λ (s : ℕ). s) (ends_before to rs)
unfolding ends_before
ends_rise to [] each rising = none
ends_rise to (r ∷ rs) each (next before rising) = go (ltb r.end to) (ends_rise to rs (λ x m. each x (Memᴰ.tail m)) rising)
  where
    first : (s : ℕ) → Memᴰ s (ends_before to rs) → r.end < s
    first s m =
        let k = end_of to rs m in
        let x = each k.0 (Memᴰ.tail k.1) in
        omega (arith, apart (each r (Memᴰ.head refl)) x (before k.0 k.1), x.some, k.2)

    go : (t : Bool) → Rising (λ (s : ℕ). s) (ends_before to rs) → Rising (λ (s : ℕ). s) (cond t (r.end ∷ ends_before to rs) (ends_before to rs))
    go true q = next first q
    go false q = q

-- ---- the events

-- P goes over to Q: no tick has both, P goes on or goes over up to tick d, and nothing is Q from there on
module _ {P Q : ℕ → Type 0} {d : ℕ} (one : (n : ℕ) → P n → Q n → ⊥) (goes : (n : ℕ) → P n → suc n < d → P (suc n) ⊎ Q (suc n)) (inside : (n : ℕ) → Q n → n < d) where
  -- The events from..to are the ends of the maximal runs of P, looked for one tick further on both sides, but for an end that is the last tick looked at.
  pub run_ends : {from to : ℕ} {rs : List Run} → Complete P (from - 1) (min (to + 1) d) rs → Events P Q from to (ends_before (min (to + 1) d) rs)
  run_ends {from} {to} {rs} c = record {
    each = each;
    all = λ s a b e. ends_at s a b e;
    rising = ends_rise (min (to + 1) d) rs c.runs.each c.runs.rising;
  }
    where
      end_event : (r : Run) → Maximal P (from - 1) (min (to + 1) d) r.start r.end → r.end < min (to + 1) d → Event P Q r.end
      end_event r m h = record {
        some = omega (arith, m.some);
        was = held;
        is = ⊎_elim (λ p. absurd (m.right h (subst P back p))) (λ q. subst Q back q) (goes (r.end - 1) held (omega (arith, m.some)));
      }
        where
          held : P (r.end - 1)
          held = m.holds (r.end - 1) (omega (arith, m.some)) (omega (arith, m.some))

          back : suc (r.end - 1) ≡ r.end
          back = omega (arith, m.some)

      each : (s : ℕ) → Memᴰ s (ends_before (min (to + 1) d) rs) → (from ≤ s) × (s ≤ to) × Event P Q s
      each s n =
          let k = end_of (min (to + 1) d) rs n in
          let m = c.runs.each k.0 k.1 in
          (omega (arith, m.lower, m.some, k.2), omega (arith, k.3), subst (Event P Q) (sym k.2) (end_event k.0 m (omega (arith, k.2, k.3))))

      ends_at : (s : ℕ) → from ≤ s → s ≤ to → Event P Q s → Memᴰ s (ends_before (min (to + 1) d) rs)
      ends_at s a b e =
          let h = c.covers (s - 1) (omega arith) (omega (arith, e.some, inside s e.is)) e.was in
          let m = c.runs.each h.holder h.listed in
          let short : h.holder.end ≤ s = elim (dec_le h.holder.end s) [ yes k ↦ k | no k ↦ absurd (one s (m.holds s (omega (arith, h.after)) (omega arith)) e.is) ] in
          let same : h.holder.end ≡ s = omega (arith, h.before, e.some) in
          subst (λ (k : ℕ). Memᴰ k (ends_before (min (to + 1) d) rs)) same (end_in (min (to + 1) d) rs h.listed (omega (arith, inside s e.is)))

-- ---- of a recording

module _ (bytes : List ℕ) (channel : ℕ) (level : Level) where
  -- An event lies inside the drive, since nothing shows outside it: 0 < s < d.
  pub event_inside : {after : Level} {s : ℕ} → Event (Shows bytes channel level) (Shows bytes channel after) s → (0 < s) × (s < ticks bytes)
  event_inside e = (e.some, e.is.inside)

  -- It "needs both of its ticks reported", so that the first report is none.
  pub event_reported : {size : Dimensions} → IsRecording bytes size → {after : Level} {s : ℕ} → Event (Shows bytes channel level) (Shows bytes channel after) s → begins bytes 1 < s
  event_reported read {s = s} e = omega (arith, e.some, (since read e.was).0)

  -- the events where the channel leaves the level
  pub shows_events : (from to : ℕ) {rs : List Run} → Runs (Shows bytes channel level) (from - 1) (min (to + 1) (ticks bytes)) rs
      → Events (Shows bytes channel level) (Shows bytes channel (other level)) from to (ends_before (min (to + 1) (ticks bytes)) rs)
  shows_events from to rs =
      run_ends (shows_one bytes channel level) (shows_next bytes channel level) (λ n q. q.inside)
      (record { runs = rs; covers = λ k a b p. (shows_held bytes channel level (from - 1) (min (to + 1) (ticks bytes)) rs k a b).0 p })
