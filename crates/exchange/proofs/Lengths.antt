-- A call leaves both buffers as long as they were.
use mathlib.Core.Path.{◌≡◌, refl, sym, ap, subst, ◌∙◌}
use mathlib.Core.Logic.{⊎_elim}
use mathlib.Core.List.Memᴰ.{append_right}
use mathlib.Core.List.{List, [], ◌∷◌, ◌++◌, Memᴰ}
use Prim.Native.Nat.{ℕ, ◌*◌, ◌≤◌, ◌<◌}
use native.Mathlib.Decide.{dec_le}
use native.Mathlib.Omega.{arith}
use lib.IntN.{ℤ, pos}
use lib.ListN.{length, replicate, length-replicate}
use Rattle.words.specs.Words.{zone_words}
use Rattle.delivery.specs.Buffers.{zeroed, cleared}
use Rattle.calls.specs.Causes.{CallAs.refused, CallAs.accepted}
use Rattle.calls.specs.Outcome.{Err, Outcome, WorkShort, Overflow, RoundsSpent, AnswerShort, returned, Left, both, answer-buffer, leaves, room, Comes, LeftAs, BuffersAs}
use Rattle.outcome.proofs.Listing.{listing}
use Rattle.calls.specs.Within.{CauseWithin, CallWithin, WithinAs}
use Rattle.calls.proofs.Causes.{none, ◌also◌, none_of, Alike, nothing, both as Alike-both, first_split, call_unique}
use Rattle.calls.proofs.Comes.{finishes_once}
use Rattle.calls.proofs.Outcomes.{recordings, drills, call_exists}
use Rattle.finder.proofs.Answered.{words_length, fronted_length}
use Rattle.finder.proofs.Unstopped.{nine}

-- a cause is itself
same_causes : {Cause : Outcome → Type 0} (os : List Outcome) → Alike Cause Cause os
same_causes [] = nothing
same_causes (o ∷ os) = Alike-both (λ h. h) (λ h. h) (same_causes os)

-- two entries of the column
no_clash : ¬ (both ≡ answer-buffer)
no_clash e = let z : ◌≡◌ {A = ℕ} 0 1 = cc in omega arith

-- causes 1 to 9 leave both buffers as they were
nine_keep : {o : Outcome} → Memᴰ o nine → ¬ (leaves o ≡ answer-buffer)
nine_keep {o} m =
    none_of {Cause = λ p. leaves p ≡ answer-buffer}
    (no_clash also no_clash also no_clash also no_clash also no_clash also no_clash also no_clash also no_clash also no_clash also none) o m

module _ {bytes text : List ℕ} {told answer work : ℕ} where
  -- a work buffer that was used is long enough
  long_enough : {o : Outcome} → CallWithin bytes text told answer work o → leaves o ≡ answer-buffer → room ≤ work
  long_enough {o} (refused f) e = elim (dec_le room work) [
    | yes h ↦ h
    | no h ↦ absurd (⊎_elim
        (λ g. let k = g [] in nine_keep (subst (Memᴰ o) (sym k.place) (append_right k.earlier (Memᴰ.head refl))) e)
        (λ g. none_of g.0 (Err WorkShort) (append_right (recordings ++ drills) (Memᴰ.head refl)) (omega arith))
        (first_split (CauseWithin bytes text told answer work) (CauseWithin bytes text told answer work) {A = nine} {B = Err Overflow ∷ Err RoundsSpent ∷ Err AnswerShort ∷ []} (same_causes nine) f))
  ]
  long_enough (accepted n f) e = let z : ◌≡◌ {A = ℕ} 0 1 = cc in absurd (omega arith)

cleared_length : (ws : List ℤ) → room ≤ length ws → length (cleared ws) ≡ length ws
unfolding zeroed
cleared_length ws h = fronted_length (replicate room (pos 0)) ws (omega (arith, length-replicate room (pos 0)))

-- Both lengths stay, whatever the outcome.
pub lengths_kept : {bytes text : List ℕ} {told left : ℕ} {answer work answer' work' : List ℤ} {o : Outcome} → WithinAs bytes text told answer work o left answer' work'
    → (length answer' ≡ length answer) × (length work' ≡ length work)
lengths_kept {bytes} {text} {told} {left} {answer} {work} {answer'} {work'} {o} h =
    let c = call_exists bytes text told (length answer) (length work) in
    let e = call_unique finishes_once c.1 h.outcome in
    ⊎_elim (λ k. kept (sym (ap leaves e) ∙ k)) (⊎_elim (λ k. used (sym (ap leaves e) ∙ k.0)) (λ k. finished (sym e ∙ k.2))) c.3
  where
    left_as : (l : Left) → leaves o ≡ l → LeftAs (Comes bytes text) (returned o) l answer work answer' work'
    left_as l e = subst (λ (k : Left). LeftAs (Comes bytes text) (returned o) k answer work answer' work') e h.buffers

    kept : leaves o ≡ both → (length answer' ≡ length answer) × (length work' ≡ length work)
    kept e = let b = left_as both e in (ap length b.answer_kept, ap length b.work_kept)

    used : leaves o ≡ answer-buffer → (length answer' ≡ length answer) × (length work' ≡ length work)
    used e = let b = left_as answer-buffer e in (ap length b.answer_kept, ap length b.work_cleared ∙ cleared_length work (long_enough h.outcome e))

    listed : {z r : ℕ} → CallWithin bytes text told (length answer) (length work) (listing z r) → BuffersAs bytes text (listing z r) answer work answer' work'
        → (length answer' ≡ length answer) × (length work' ≡ length work)
    listed (refused f) b = absurd f.holds
    listed {z} {r} (accepted n f) b =
        let room_for : ¬ (length answer < length b.finishes.list * zone_words) = λ q. n (Err AnswerShort) (append_right (nine ++ (Err Overflow ∷ Err RoundsSpent ∷ [])) (Memᴰ.head refl)) (b.finishes.list, r, b.finishes.means, q) in
        let enough : ¬ (length work < room) = n (Err WorkShort) (append_right (recordings ++ drills) (Memᴰ.head refl)) in
        (ap length b.answer_filled ∙ fronted_length _ answer (omega (arith, words_length b.finishes.list)), ap length b.work_cleared ∙ cleared_length work (omega arith))

    finished : {z r : ℕ} → o ≡ listing z r → (length answer' ≡ length answer) × (length work' ≡ length work)
    finished e = listed (subst (CallWithin bytes text told (length answer) (length work)) e h.outcome) (subst (λ (p : Outcome). BuffersAs bytes text p answer work answer' work') e h.buffers)
