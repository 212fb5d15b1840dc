-- From what the steps of a call answer to the whole call.
use mathlib.Core.Path.{◌≡◌, refl, ap, subst}
use mathlib.Core.List.{List, ◌++◌}
use Prim.Native.Nat.{ℕ}
use native.Mathlib.Omega.{arith}
use lib.IntN.{ℤ}
use lib.ListN.{length}
use Rattle.recording.specs.Reading.{channels, IsRecording, ReadingAs}
use Rattle.runs.specs.Levels.{Shows}
use Rattle.recording.specs.declared.Dimensions.{Dimensions}
use Rattle.recording.specs.declared.Fault as recording
use Rattle.recording.specs.declared.Fault.TheVariants.{Length, Head, Change}
use Rattle.recording.proofs.Refusals.{read_numbers, read_end}
use Rattle.expression.specs.Expression.{Expression}
use Rattle.expression.specs.Refusal.{Accepted, DrillRefused}
use Rattle.parser.specs.declared.Fault.{Fault}
use Rattle.parser.specs.declared.Fault.TheVariants.{WrongLength, NoForm, WrongLetter, WrongRange, TooDeep}
use Rattle.parser.specs.Parsing.{ParsedAs}
use Rattle.meaning.specs.Lists.{Value, value, Evaluates}
use Rattle.std.specs.Prelude.{Result}
use Rattle.delivery.specs.declared.Shortage.{Shortage}
use Rattle.delivery.specs.declared.Shortage.TheVariants as shortage
use Rattle.calls.specs.Outcome.{Outcome, Ok, Err, Finished, Refusal, DrillLength, DrillForm, DrillLetter, DrillRange, DrillDepth, largest, both, number_of, leaves, Comes}
use Rattle.calls.specs.Within.{CallWithin, WithinAs}
use Rattle.outcome.proofs.Numbers.{number_range}
use Rattle.purse.specs.Purse.{Overflowing, Exceeding, Spending}
use Rattle.delivery.specs.Working.{refusal_of, WorkedAs}
use Rattle.calls.specs.Refusals.{recording_refusal}
use Rattle.calls.specs.Steps.{drill_refusal}
use Rattle.calls.proofs.Outcomes.{Without, recordings, drills, recording_call, drill_call, drill_none, work_call, overflow_call, spent_call, answer_call, accepted_call}

-- A call whose outcome leaves both buffers as they were.
pub untouched : {bytes text : List ℕ} {left : ℕ} {answer work : List ℤ} {o : Outcome} → leaves o ≡ both → CallWithin bytes text left (length answer) (length work) o
    → WithinAs bytes text left answer work o left answer work
untouched {bytes} {text} {left} {answer} {work} {o} e c =
    record { outcome = c; buffers = rw e (record { answer_kept = refl; work_kept = refl }); rounds = rw e refl }

-- what a stored drill that was worked out comes to
abbrev pub outcome_of : Result Finished Shortage → Outcome
outcome_of (Ok f) = Ok f
outcome_of (Err s) = Err (refusal_of s)

-- A recording that is refused decides the call.
pub recording_read : (bytes text : List ℕ) (left : ℕ) (answer work : List ℤ) (e : recording.Fault) → ReadingAs largest bytes (Err e)
    → WithinAs bytes text left answer work (Err (recording_refusal e)) left answer work
recording_read bytes text left answer work Length h = untouched refl (recording_call bytes text left _ _ (Err Length) h)
recording_read bytes text left answer work Head h = untouched refl (recording_call bytes text left _ _ (Err Head) h)
recording_read bytes text left answer work Change h = untouched refl (recording_call bytes text left _ _ (Err Change) h)

-- ---- on a recording that was read

module _ (bytes : List ℕ) (size : Dimensions) (read : ReadingAs largest bytes (Ok size)) where
  pub was_read : IsRecording bytes size
  was_read = read.1

  same_channels : size.channels ≡ channels bytes
  same_channels = ap (λ (q : Dimensions). q.channels) (read_numbers was_read)

  module _ (text : List ℕ) (left : ℕ) (answer work : List ℤ) where
    none : Without bytes text left (length answer) (length work) recordings
    none = recording_call bytes text left (length answer) (length work) (Ok size) read

    -- A drill that is refused decides the call.
    drill_refused : (r : Refusal) → leaves (Err r) ≡ both → DrillRefused text size.channels (number_of r) → WithinAs bytes text left answer work (Err r) left answer work
    drill_refused r e f = untouched e (drill_call bytes text left (length answer) (length work) none (Err r) (number_range r).0 (rw same_channels at f))

    pub drill_read : (nodes : List ℕ) (f : Fault) → ParsedAs text size.channels nodes (Err f) → WithinAs bytes text left answer work (Err (drill_refusal f)) left answer work
    drill_read nodes WrongLength h = drill_refused DrillLength refl h
    drill_read nodes NoForm h = drill_refused DrillForm refl h
    drill_read nodes WrongLetter h = drill_refused DrillLetter refl h
    drill_read nodes WrongRange h = drill_refused DrillRange refl h
    drill_read nodes TooDeep h = drill_refused DrillDepth refl h

    -- A drill that is accepted and worked out.
    module _ {e : Expression} (a : Accepted text size.channels e) where
      ruled_out : Without bytes text left (length answer) (length work) (recordings ++ drills)
      ruled_out = drill_none bytes text left (length answer) (length work) none (subst (λ (c : ℕ). Accepted text c e) same_channels a)

      comes : (v : Value) → Evaluates (Shows bytes) 0 size.ticks e v → Comes bytes text v
      comes v h = record { drill = e; form = a.form; evaluates = subst (λ (d : ℕ). Evaluates (Shows bytes) 0 d e v) (read_end was_read) h }

      -- what is said of the value of its expression is said of the drill
      overflowing : Overflowing (Evaluates (Shows bytes) 0 size.ticks e) left → Overflowing (Comes bytes text) left
      overflowing o = record { opened = o.opened; done = o.done; means = comes _ o.means; within = o.within }

      exceeding : Exceeding (Evaluates (Shows bytes) 0 size.ticks e) left → Exceeding (Comes bytes text) left
      exceeding x = record { whole = x.whole; means = comes _ x.means; beyond = x.beyond }

      spending : {left' : ℕ} → Spending (Evaluates (Shows bytes) 0 size.ticks e) left left' → Spending (Comes bytes text) left left'
      spending s = record { whole = s.whole; means = comes _ s.means; left_is = s.left_is }

      pub found : (w : Result Finished Shortage) {left' : ℕ} {answer' work' : List ℤ} → WorkedAs (Evaluates (Shows bytes) 0 size.ticks e) left w left' answer work answer' work'
          → WithinAs bytes text left answer work (outcome_of w) left' answer' work'
      found (Err shortage.WorkShort) h = record { outcome = work_call bytes text _ _ _ ruled_out h.0; buffers = h.2; rounds = h.1 }
      found (Err shortage.Overflow) h = record { outcome = overflow_call bytes text _ _ _ ruled_out h.0 (overflowing h.1); buffers = h.3; rounds = spending h.2 }
      found (Err shortage.RoundsSpent) h = record { outcome = spent_call bytes text _ _ _ ruled_out h.0 (exceeding h.1); buffers = h.3; rounds = spending h.2 }
      found (Err shortage.AnswerShort) h =
          let s = h.1.0 in
          record {
            outcome = answer_call bytes text _ _ _ ruled_out h.0 (comes (value s.0 s.1) s.2) h.1.1 s.3;
            buffers = h.3;
            rounds = spending h.2;
          }
      found (Ok w) h =
          let f = h.3.finishes in
          let c = comes (value f.list w.rounds) f.means in
          record {
            outcome = subst (λ (k : ℕ). CallWithin bytes text left (length answer) (length work) (Ok (record { zones = k; rounds = w.rounds }))) f.count
                (accepted_call bytes text _ _ _ ruled_out h.0 c h.1.1 (omega (arith, h.1.0, f.count)));
            buffers = record {
              finishes = record { list = f.list; means = c; count = f.count };
              answer_filled = h.3.answer_filled;
              work_cleared = h.3.work_cleared;
            };
            rounds = spending h.2;
          }
