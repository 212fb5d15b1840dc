-- What the answers of the lower layers, the rounds left and the lengths of the buffers make of a call that is told the rounds left; so every
-- such call has an outcome.
use mathlib.Core.Path.{◌≡◌, refl, sym, subst, ap, ◌∙◌}
use mathlib.Core.Logic.{◌⊎◌, inl, inr, ⊎_elim}
use mathlib.Core.List.{List, [], ◌∷◌, ◌++◌, map}
use Prim.Native.Nat.{ℕ, ◌*◌, ◌≤◌, ◌<◌}
use native.Mathlib.Decide.{dec_le}
use native.Mathlib.Omega.{arith}
use lib.ListN.{length}
use Rattle.zone.specs.declared.Zone.{Zone}
use Rattle.recording.specs.declared.Dimensions.{Dimensions}
use Rattle.recording.specs.declared.Fault.{Fault}
use Rattle.recording.specs.declared.Fault.TheVariants.{Length, Head, Change}
use Rattle.std.specs.Prelude.{Result, Ok, Err}
use Rattle.recording.specs.Reading.{ticks, channels, ReadingAs}
use Rattle.recording.proofs.Refusals.{reading_exists}
use Rattle.recording.proofs.Rounding.{tick_range}
use Rattle.expression.specs.Expression.{Expression}
use Rattle.expression.specs.Refusal.{Accepted, DrillRefused, DrillCause, wrong_length, no_form, wrong_letter, wrong_range, too_deep}
use Rattle.parser.proofs.Parses.{answered}
use Rattle.meaning.specs.Lists.{Value, value, overflow, begun}
use Rattle.meaning.proofs.Evaluation.{clash, evaluates_exists}
use Rattle.words.specs.Words.{zone_words}
use Rattle.outcome.proofs.Numbers.{same_number}
use Rattle.calls.specs.Causes.{CallAs.accepted}
use Rattle.calls.specs.Outcome.{Err, Outcome, RecordingLength, RecordingHead, RecordingChange, DrillLength, DrillForm, DrillLetter, DrillRange, DrillDepth, WorkShort, Overflow, AnswerShort, RoundsSpent, returned, both, answer-buffer, leaves, Comes, largest, room, NoRoom, refusals}
use Rattle.outcome.proofs.Listing.{listing}
use Rattle.calls.specs.Refusals.{recording_refusal}
use Rattle.calls.specs.Within.{CauseWithin, refusals_within, CallWithin}
use Rattle.purse.specs.Purse.{Overflowing, Exceeding}
use Rattle.calls.proofs.Causes.{NoneOf, none, ◌also◌, none_of, none_append, refused_at}
use Rattle.calls.proofs.Comes.{comes_unique}
use Rattle.calls.proofs.Rounds.{most_rounds, comes_few}
use Rattle.meaning.proofs.Finite.{recording_finite}

-- The causes of `find` stand in the order of their numbers, 1 to 11 ..
pub in_order : map (λ (o : Outcome). (returned o).number) refusals ≡ 1 ∷ 2 ∷ 3 ∷ 4 ∷ 5 ∷ 6 ∷ 7 ∷ 8 ∷ 9 ∷ 10 ∷ 11 ∷ []
in_order = refl

-- .. and those of a call that is told the rounds left as they come.
pub in_order_within : map (λ (o : Outcome). (returned o).number) refusals_within ≡ 1 ∷ 2 ∷ 3 ∷ 4 ∷ 5 ∷ 6 ∷ 7 ∷ 8 ∷ 9 ∷ 10 ∷ 13 ∷ 11 ∷ []
in_order_within = refl

-- the causes of a recording, 1 to 3, and of a drill, 4 to 8
abbrev pub recordings : List Outcome
recordings = Err RecordingLength ∷ Err RecordingHead ∷ Err RecordingChange ∷ []

abbrev pub drills : List Outcome
drills = Err DrillLength ∷ Err DrillForm ∷ Err DrillLetter ∷ Err DrillRange ∷ Err DrillDepth ∷ []

-- a drill's cause has a number up to 8
drill_number : {text : List ℕ} {channels n : ℕ} → DrillCause text channels n → n ≡ 13 → ⊥
drill_number (wrong_length x) e = omega arith
drill_number (no_form x) e = omega arith
drill_number (wrong_letter x y z) e = omega arith
drill_number (wrong_range x y z) e = omega arith
drill_number (too_deep x y) e = omega arith

module _ (bytes text : List ℕ) (left answer work : ℕ) where
  -- none of these causes holds
  abbrev pub Without : List Outcome → Type 0
  Without os = NoneOf (CauseWithin bytes text left answer work) os

  -- ---- the recording

  abbrev pub RecordingCall : Result Dimensions Fault → Type 0
  RecordingCall (Err e) = CallWithin bytes text left answer work (Err (recording_refusal e))
  RecordingCall (Ok size) = Without recordings

  -- What reading the recording answers decides the call, or rules out 1 to 3.
  pub recording_call : (a : Result Dimensions Fault) → ReadingAs largest bytes a → RecordingCall a
  recording_call (Err Length) r = refused_at [] _ (Err RecordingLength) refl none r.holds
  recording_call (Err Head) r = refused_at (Err RecordingLength ∷ []) _ (Err RecordingHead) refl (r.first 1 (omega arith) also none) r.holds
  recording_call (Err Change) r =
      refused_at (Err RecordingLength ∷ Err RecordingHead ∷ []) _ (Err RecordingChange) refl (r.first 1 (omega arith) also r.first 2 (omega arith) also none) r.holds
  recording_call (Ok size) r = r.0 1 also r.0 2 also r.0 3 also none

  -- ---- the drill

  after_recordings : Without recordings → (earlier later : List Outcome) (o : Outcome) → refusals_within ≡ recordings ++ (earlier ++ (o ∷ later)) → Without earlier
      → CauseWithin bytes text left answer work o → CallWithin bytes text left answer work o
  after_recordings n earlier later o e m c = refused_at (recordings ++ earlier) later o e (none_append n m) c

  drill_first : Without recordings → (n : ℕ) → DrillCause text (channels bytes) n → ((m : ℕ) → m < n → ¬ DrillCause text (channels bytes) m)
      → (o : Outcome) × ((returned o).number ≡ n) × (leaves o ≡ both) × CallWithin bytes text left answer work o
  drill_first n _ (wrong_length x) f = (Err DrillLength, refl, refl, after_recordings n [] _ (Err DrillLength) refl none (wrong_length x))
  drill_first n _ (no_form x) f = (Err DrillForm, refl, refl, after_recordings n (Err DrillLength ∷ []) _ (Err DrillForm) refl (f 4 (omega arith) also none) (no_form x))
  drill_first n _ (wrong_letter x y z) f = (
    Err DrillLetter,
    refl,
    refl,
    after_recordings n (Err DrillLength ∷ Err DrillForm ∷ []) _ (Err DrillLetter) refl (f 4 (omega arith) also f 5 (omega arith) also none) (wrong_letter x y z),
  )
  drill_first n _ (wrong_range x y z) f = (
    Err DrillRange,
    refl,
    refl,
    after_recordings n (Err DrillLength ∷ Err DrillForm ∷ Err DrillLetter ∷ []) _ (Err DrillRange) refl (f 4 (omega arith) also f 5 (omega arith) also f 6 (omega arith) also none) (wrong_range x y z),
  )
  drill_first n _ (too_deep x y) f = (
    Err DrillDepth,
    refl,
    refl,
    after_recordings n (Err DrillLength ∷ Err DrillForm ∷ Err DrillLetter ∷ Err DrillRange ∷ []) _ (Err DrillDepth) refl
        (f 4 (omega arith) also f 5 (omega arith) also f 6 (omega arith) also f 7 (omega arith) also none) (too_deep x y),
  )

  -- A drill that is refused decides the call: the outcome with that number.
  pub drill_call : Without recordings → (o : Outcome) → 0 < (returned o).number → DrillRefused text (channels bytes) (returned o).number → CallWithin bytes text left answer work o
  drill_call n o h r =
      let c = drill_first n (returned o).number r.holds r.first in
      subst (CallWithin bytes text left answer work) (same_number c.0 o h c.1) c.3

  -- One that is accepted rules out 4 to 8 too.
  pub drill_none : Without recordings → {e : Expression} → Accepted text (channels bytes) e → Without (recordings ++ drills)
  drill_none n a = none_append n (a.none 4 also a.none 5 also a.none 6 also a.none 7 also a.none 8 also none)

  -- ---- the buffers

  module _ (before : Without (recordings ++ drills)) where
    pub work_call : work < room → CallWithin bytes text left answer work (Err WorkShort)
    work_call h = refused_at (recordings ++ drills) _ (Err WorkShort) refl before h

    module _ (enough : room ≤ work) where
      roomy : Without (recordings ++ (drills ++ (Err WorkShort ∷ [])))
      roomy = none_append before ((λ h. omega arith) also none)

      pub overflow_call : Overflowing (Comes bytes text) left → CallWithin bytes text left answer work (Err Overflow)
      overflow_call o = refused_at (recordings ++ (drills ++ (Err WorkShort ∷ []))) _ (Err Overflow) refl roomy o

      -- 10 and 13 exclude each other
      not_both : Exceeding (Comes bytes text) left → ¬ Overflowing (Comes bytes text) left
      not_both x o = let e = ap begun (comes_unique x.means o.means) in omega (arith, x.beyond, o.within)

      pub spent_call : Exceeding (Comes bytes text) left → CallWithin bytes text left answer work (Err RoundsSpent)
      spent_call x = refused_at (recordings ++ (drills ++ (Err WorkShort ∷ Err Overflow ∷ []))) _ (Err RoundsSpent) refl (none_append roomy (not_both x also none)) x

      module _ {L : List Zone} {r : ℕ} (comes : Comes bytes text (value L r)) (within : r ≤ left) where
        listed : Without (recordings ++ (drills ++ (Err WorkShort ∷ Err Overflow ∷ Err RoundsSpent ∷ [])))
        listed = none_append roomy ((λ o. clash (comes_unique comes o.means)) also (λ x. let e = ap begun (comes_unique comes x.means) in omega (arith, x.beyond)) also none)

        pub answer_call : answer < length L * zone_words → CallWithin bytes text left answer work (Err AnswerShort)
        answer_call h = refused_at (recordings ++ (drills ++ (Err WorkShort ∷ Err Overflow ∷ Err RoundsSpent ∷ []))) _ (Err AnswerShort) refl listed (L, r, comes, h)

        pub accepted_call : length L * zone_words ≤ answer → CallWithin bytes text left answer work (listing (length L) r)
        accepted_call h =
            accepted (none_of (none_append listed (long also none)))
            (record { list = L; means = comes; count = refl })
          where
            long : ¬ NoRoom (Comes bytes text) answer
            long c = let v = comes_unique comes c.2 in let q : L ≡ c.0 = cc in let s = ap length q in let k = c.3 in omega arith

  -- ---- every call

  -- what an outcome rests on: it leaves both buffers, or a value of the drill is known, or it is a finished list
  abbrev Rests : Outcome → Type 0
  Rests o = (leaves o ≡ both) ⊎ (((leaves o ≡ answer-buffer) × (v : Value) × Comes bytes text v) ⊎ ((zones : ℕ) × (rounds : ℕ) × (o ≡ listing zones rounds)))

  -- Every call has an outcome, and one that is told as many rounds as any drill begins is not stopped.
  abbrev pub Some : Type 0
  Some = (o : Outcome) × CallWithin bytes text left answer work o × ((returned o).number ≡ 13 → left < most_rounds) × Rests o

  pub call_exists : Some
  call_exists = let a = reading_exists largest bytes in read a.0 a.1
    where
      finish : Without (recordings ++ drills) → room ≤ work → (v : Value) → begun v ≤ most_rounds → Comes bytes text v → Some
      finish n h (overflow b f) few c = elim (dec_le b left) [
        | yes k ↦ (Err Overflow, overflow_call n h (record { opened = b; done = f; means = c; within = k }), λ e. absurd (omega arith), inr (inl (refl, overflow b f, c)))
        | no k ↦ (Err RoundsSpent, spent_call n h (record { whole = overflow b f; means = c; beyond = omega arith }), λ _. omega arith, inr (inl (refl, overflow b f, c)))
      ]
      finish n h (value L r) few c = elim (dec_le r left) [
        | yes k ↦ elim (dec_le (length L * zone_words) answer) [
          | yes l ↦ (listing (length L) r, accepted_call n h c k l, λ e. absurd (omega arith), inr (inr (length L, r, refl)))
          | no l ↦ (Err AnswerShort, answer_call n h c k (omega arith), λ e. absurd (omega arith), inr (inl (refl, value L r, c)))
        ]
        | no k ↦ (Err RoundsSpent, spent_call n h (record { whole = value L r; means = c; beyond = omega arith }), λ _. omega arith, inr (inl (refl, value L r, c)))
      ]

      given : Without recordings → 0 < ticks bytes → ticks bytes ≤ 1_000_000 → (e : Expression) → Accepted text (channels bytes) e → Some
      given n some short e a = elim (dec_le room work) [
        | yes h ↦
            let v = evaluates_exists (recording_finite bytes 0 (ticks bytes)) some e in
            let c : Comes bytes text v.0 = record { drill = e; form = a.form; evaluates = v.1 } in
            finish (drill_none n a) h v.0 (comes_few some short (a.none 8) c) c
        | no h ↦ (Err WorkShort, work_call (drill_none n a) (omega arith), λ e. absurd (omega arith), inl refl)
      ]

      read : (a : Result Dimensions Fault) → ReadingAs largest bytes a → Some
      read (Err Length) r = (Err RecordingLength, recording_call (Err Length) r, λ e. absurd (omega arith), inl refl)
      read (Err Head) r = (Err RecordingHead, recording_call (Err Head) r, λ e. absurd (omega arith), inl refl)
      read (Err Change) r = (Err RecordingChange, recording_call (Err Change) r, λ e. absurd (omega arith), inl refl)
      read (Ok size) r =
          let n = recording_call (Ok size) r in
          let h = r.1.headed in
          let t = tick_range h.long h.short in
          ⊎_elim (λ a. given n t.0 t.1 a.0 a.1)
          (λ f. let c = drill_first n f.0 f.1.holds f.1.first in (c.0, c.3, λ e. absurd (drill_number f.1.holds (sym c.1 ∙ e)), inl c.2))
          (answered text (channels bytes))
