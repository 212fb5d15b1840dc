-- A call that is told the rounds left and is not stopped has the outcome that `find` has: "A drill not stopped lists exactly what it lists when
-- run by itself".
use mathlib.Core.Path.{◌≡◌, refl, sym, ap, subst, ◌∙◌}
use mathlib.Core.Logic.{⊎_elim}
use mathlib.Core.List.Memᴰ.{append_left}
use mathlib.Core.List.Memᴰ.{append_right}
use mathlib.Core.List.{List, [], ◌∷◌, ◌++◌, Memᴰ}
use Prim.Native.Nat.{ℕ, ◌+◌, ◌<◌, ◌≤◌}
use native.Mathlib.Decide.{dec_le}
use native.Mathlib.Omega.{arith}
use lib.IntN.{ℤ}
use lib.ListN.{length, length-append}
use Rattle.recording.specs.Reading.{ticks}
use Rattle.runs.specs.Levels.{Shows}
use Rattle.meaning.specs.Lists.{value, overflow, begun, spent}
use Rattle.meaning.proofs.Totals.{begun_almost}
use Rattle.outcome.proofs.Numbers.{same_number}
use Rattle.purse.specs.Purse.{Exceeding}
use Rattle.calls.specs.Causes as calls
use Rattle.calls.specs.Causes.{CallAs.refused, CallAs.accepted}
use Rattle.calls.specs.Outcome.{Err, Outcome, WorkShort, Overflow, AnswerShort, RoundsSpent, returned, leaves, Comes, Cause, refusals, CallAs, FindAs}
use Rattle.outcome.proofs.Listing.{listing}
use Rattle.calls.specs.Within.{CauseWithin, refusals_within, CallWithin, LeftAfter, WithinAs}
use Rattle.calls.proofs.Causes.{NoneOf, none, ◌also◌, none_of, none_append, refused_at, Alike, nothing, both, none_alike, first_split, call_unique}
use Rattle.calls.proofs.Comes.{comes_unique, finishes_once}
use Rattle.calls.proofs.Outcomes.{recordings, drills, call_exists}
use Rattle.calls.proofs.Rounds.{most_rounds}

-- the causes that both calls begin with, 1 to 9
abbrev pub nine : List Outcome
nine = recordings ++ (drills ++ (Err WorkShort ∷ []))

module _ (bytes text : List ℕ) (left answer work : ℕ) where
  alike : Alike (CauseWithin bytes text left answer work) (Cause bytes text answer work) nine
  alike = both (λ h. h) (λ h. h) (both (λ h. h) (λ h. h) (both (λ h. h) (λ h. h) (both (λ h. h) (λ h. h) (both (λ h. h) (λ h. h) (both (λ h. h) (λ h. h) (both (λ h. h) (λ h. h) (both (λ h. h) (λ h. h) (both (λ h. h) (λ h. h) nothing))))))))

  -- 10 of `find` is 10 or 13 here
  not_ten : ¬ CauseWithin bytes text left answer work (Err Overflow) → ¬ CauseWithin bytes text left answer work (Err RoundsSpent) → ¬ Cause bytes text answer work (Err Overflow)
  not_ten m n (b, f, c) = elim (dec_le b left) [
    | yes h ↦ m (record { opened = b; done = f; means = c; within = h })
    | no h ↦ n (record { whole = overflow b f; means = c; beyond = omega arith })
  ]

  -- The first cause here is the first of `find`, but for 13 ..
  first_find : {o : Outcome} → calls.First refusals_within (CauseWithin bytes text left answer work) o → ¬ ((returned o).number ≡ 13) → CallAs bytes text answer work o
  first_find {o} f unstopped =
      ⊎_elim (λ g. refused (g (Err Overflow ∷ Err AnswerShort ∷ []))) (λ g. rest g.0 g.1.earlier g.1.later g.1.place g.1.holds g.1.none)
      (first_split (CauseWithin bytes text left answer work) (Cause bytes text answer work) {A = nine} {B = Err Overflow ∷ Err RoundsSpent ∷ Err AnswerShort ∷ []} alike f)
    where
      rest : NoneOf (Cause bytes text answer work) nine → (us vs : List Outcome) → Err Overflow ∷ Err RoundsSpent ∷ Err AnswerShort ∷ [] ≡ us ++ (o ∷ vs)
          → CauseWithin bytes text left answer work o → ((p : Outcome) → Memᴰ p us → ¬ CauseWithin bytes text left answer work p) → CallAs bytes text answer work o
      rest n [] vs e h m =
          let q : Err Overflow ≡ o = cc in
          let t = subst (CauseWithin bytes text left answer work) (sym q) h in
          subst (CallAs bytes text answer work) q (refused_at nine (Err AnswerShort ∷ []) (Err Overflow) refl n (t.opened, t.done, t.means))
      rest n (a ∷ []) vs e h m = let q : Err RoundsSpent ≡ o = cc in absurd (unstopped (ap (λ (p : Outcome). (returned p).number) (sym q)))
      rest n (a ∷ b ∷ []) vs e h m =
          let q : Err AnswerShort ≡ o = cc in
          let i : Err Overflow ≡ a = cc in
          let j : Err RoundsSpent ≡ b = cc in
          let t = subst (CauseWithin bytes text left answer work) (sym q) h in
          subst (CallAs bytes text answer work) q
          (refused_at (nine ++ (Err Overflow ∷ [])) [] (Err AnswerShort) refl
          (none_append n (not_ten (m (Err Overflow) (Memᴰ.head i)) (m (Err RoundsSpent) (Memᴰ.tail (Memᴰ.head j))) also none)) t)
      rest n (a ∷ b ∷ c ∷ us) vs e h m = let q = ap length e in absurd (omega (arith, length-append us (o ∷ vs)))

  -- .. and where none holds here none of `find` does,
  none_find : calls.NoCause refusals_within (CauseWithin bytes text left answer work) → calls.NoCause refusals (Cause bytes text answer work)
  none_find n =
      none_of (none_append (none_alike alike (λ p m. n p (append_left (Err Overflow ∷ Err RoundsSpent ∷ Err AnswerShort ∷ []) m)))
      (not_ten (n (Err Overflow) (append_right nine (Memᴰ.head refl))) (n (Err RoundsSpent) (append_right (nine ++ (Err Overflow ∷ [])) (Memᴰ.head refl)))
      also n (Err AnswerShort) (append_right (nine ++ (Err Overflow ∷ Err RoundsSpent ∷ [])) (Memᴰ.head refl)) also none))

  -- so its outcome is that of `find`.
  pub call_find : {o : Outcome} → CallWithin bytes text left answer work o → ¬ ((returned o).number ≡ 13) → CallAs bytes text answer work o
  call_find (refused f) unstopped = first_find f unstopped
  call_find (accepted n f) unstopped = accepted (none_find n) f

-- Theorem: a call that is not stopped has the outcome, and leaves the buffers, that `find` has and leaves.
pub not_stopped : {bytes text : List ℕ} {left left' : ℕ} {answer work answer' work' : List ℤ} {o : Outcome} → WithinAs bytes text left answer work o left' answer' work'
    → ¬ ((returned o).number ≡ 13) → FindAs bytes text answer work o answer' work'
not_stopped {bytes} {text} {left} {answer = answer} {work = work} h unstopped =
    record { outcome = call_find bytes text left (length answer) (length work) h.outcome unstopped; buffers = h.buffers }

-- Theorem: a call that is told as many rounds as any drill begins is not stopped.
pub never_stopped : {bytes text : List ℕ} {left left' : ℕ} {answer work answer' work' : List ℤ} {o : Outcome} → most_rounds ≤ left
    → WithinAs bytes text left answer work o left' answer' work' → ¬ ((returned o).number ≡ 13)
never_stopped {bytes} {text} {left} {answer = answer} {work = work} many h e =
    let c = call_exists bytes text left (length answer) (length work) in
    let q = ap (λ (p : Outcome). (returned p).number) (call_unique finishes_once h.outcome c.1) in
    let l = c.2 (sym q ∙ e) in
    omega arith

-- ---- the rounds left

-- Theorem: after a call that is stopped no round is left: all that were told are finished.
pub stopped_leaves_none : {bytes text : List ℕ} {left left' : ℕ} {answer work answer' work' : List ℤ} {o : Outcome} → WithinAs bytes text left answer work o left' answer' work'
    → (returned o).number ≡ 13 → left' ≡ 0
stopped_leaves_none {bytes} {text} {left} {left'} {answer} {work} {o = o} h e =
    let q : o ≡ Err RoundsSpent = same_number o (Err RoundsSpent) (omega arith) e in
    let s = subst (λ (p : Outcome). LeftAfter (Comes bytes text) left left' (leaves p)) q h.rounds in
    let x = exceeds (subst (CallWithin bytes text left (length answer) (length work)) q h.outcome) in
    let u = ap begun (comes_unique x.means s.means) in
    omega (arith, s.left_is, x.beyond, begun_almost (Shows bytes) 0 (ticks bytes) s.means.drill s.whole s.means.evaluates)
  where
    exceeds : {n m : ℕ} → CallWithin bytes text left n m (Err RoundsSpent) → Exceeding (Comes bytes text) left
    exceeds (refused f) = f.holds

-- Theorem: an accepted call spends the rounds that it reports, and there were as many.
pub accepted_spends : {bytes text : List ℕ} {left left' : ℕ} {answer work answer' work' : List ℤ} {zones rounds : ℕ}
    → WithinAs bytes text left answer work (listing zones rounds) left' answer' work' → rounds + left' ≡ left
accepted_spends {bytes} {text} {left} {answer = answer} {work} {zones = zones} {rounds} h =
    let f = h.buffers.finishes in
    let u = ap spent (comes_unique f.means h.rounds.means) in
    let few : ¬ (left < rounds) = λ l. none_spent h.outcome (record { whole = value f.list rounds; means = f.means; beyond = l }) in
    omega (arith, h.rounds.left_is)
  where
    none_spent : {n m : ℕ} → CallWithin bytes text left n m (listing zones rounds) → ¬ Exceeding (Comes bytes text) left
    none_spent (refused f) = absurd f.holds
    none_spent (accepted n f) = n (Err RoundsSpent) (append_right (nine ++ (Err Overflow ∷ [])) (Memᴰ.head refl))
