-- What the demands rest on: the zones and the rounds of a finished list, of a recording and a drill, and of a call.
use mathlib.Core.Path.{◌≡◌, refl, sym, ap, subst, ◌∙◌}
use mathlib.Core.Logic.{⊎_elim}
use mathlib.Core.List.Memᴰ.{append_right}
use mathlib.Core.List.{List, [], ◌∷◌, ◌++◌, Memᴰ}
use Prim.Native.Nat.{ℕ, ◌-◌, ◌*◌, ◌≤◌, ◌<◌}
use native.Mathlib.Decide.{dec_le}
use native.Mathlib.Omega.{arith}
use lib.IntN.{ℤ}
use lib.ListN.{length}
use Rattle.zone.specs.declared.Zone.{Zone}
use Rattle.zone.specs.Zone.{Tight, Includes}
use Rattle.zone.proofs.Laws.{tight_member, contains_members}
use Rattle.words.specs.Words.{zone_words}
use Rattle.list.proofs.Antichain.{Antichain}
use Rattle.list.specs.Slots.{list_at}
use Rattle.recording.specs.Reading.{ticks, channels, RecordingCause, wrong_head}
use Rattle.runs.specs.Levels.{Shows}
use Rattle.recording.proofs.Rounding.{tick_range}
use Rattle.expression.specs.Expression.{Expression}
use Rattle.expression.specs.Refusal.{Accepted, DrillCause, wrong_length, no_form, wrong_letter, wrong_range, too_deep}
use Rattle.descent.proofs.Complete.{unique}
use Rattle.parser.proofs.Parses.{answered}
use Rattle.meaning.specs.Lists.{value, overflow, spent, Value, repeated, RoundsOf, Sum}
use Rattle.calls.specs.Causes.{CallAs.refused, CallAs.accepted}
use Rattle.calls.specs.Outcome.{Err, Outcome, RecordingHead, DrillLength, DrillForm, DrillLetter, DrillRange, DrillDepth, WorkShort, Overflow, AnswerShort, Returned, returned, Comes, largest, CallAs, words, fronted, cleared, front_of, Left, both, answer-buffer, delivered, leaves, LeftAs, BuffersAs, FindAs}
use Rattle.outcome.proofs.Listing.{listing}
use Rattle.calls.specs.Within.{CallWithin, LeftAfter, WithinAs}
use Rattle.finder.specs.Demands.{Exact, Total, NoInputCause}
use Rattle.meaning.proofs.Evaluation.{evaluates_well, evaluates_exists}
use Rattle.meaning.proofs.Members.{fits_members}
use Rattle.meaning.proofs.Totals.{evaluates_sum, sum_mem, sum_unique, rounds_of_unique, rounds_of_bound, rounds_of_pieces}
use Rattle.calls.proofs.Causes.{call_unique, number_none}
use Rattle.meaning.proofs.Finite.{recording_finite}
use Rattle.calls.proofs.Comes.{comes_unique, finishes_once}
use Rattle.calls.proofs.Outcomes.{recordings, drills, call_exists}
use Rattle.calls.proofs.Finding.{untouched}
use Rattle.finder.proofs.Answered.{front_words, list_words}

-- ---- zones

-- None of the zones of an antichain lies inside another, by their members.
includes_none : {z w : Zone} (A B C : List Zone) → ((v : Zone) → Memᴰ v (A ++ (z ∷ (B ++ (w ∷ C)))) → Tight v) → Antichain (A ++ (z ∷ (B ++ (w ∷ C))))
    → (¬ Includes z w) × (¬ Includes w z)
includes_none (a ∷ A) B C tight h = includes_none A B C (λ v m. tight v (Memᴰ.tail m)) h.1
includes_none {z} {w} [] B C tight h =
    let m = append_right B (Memᴰ.head refl) in
    let n = h.0 w m in
    (λ i. n.1 ((contains_members z (tight w (Memᴰ.tail m))).1 i), λ i. n.0 ((contains_members w (tight z (Memᴰ.head refl))).1 i))

-- In the finished list lie exactly the stretches that fit.
pub comes_exact : {bytes text : List ℕ} {L : List Zone} {rounds : ℕ} → Comes bytes text (value L rounds) → Exact bytes text L
comes_exact {bytes} {rounds = rounds} c =
    let w = evaluates_well (Shows bytes) (omega arith) c.drill rounds c.evaluates in
    record {
      drill = c.drill;
      form = c.form;
      exact = fits_members (Shows bytes) (recording_finite bytes 0 (ticks bytes)) (omega arith) c.drill rounds c.evaluates;
      proper = w.proper;
      some = λ z m. tight_member (w.proper z m).tight;
      apart = λ A B C e. includes_none A B C (λ v m. (w.proper v (rw e m)).tight) (rw e at w.antichain);
    }

module _ {bytes text : List ℕ} {answer work answer' work' : List ℤ} {zones rounds : ℕ} (h : FindAs bytes text answer work (listing zones rounds) answer' work') where
  roomy : length h.buffers.finishes.list * zone_words ≤ length answer
  roomy =
      let f = h.buffers.finishes in
      let none = (number_none (λ _ _ c. c) h.outcome).0 refl (Err AnswerShort) (append_right (recordings ++ (drills ++ (Err WorkShort ∷ Err Overflow ∷ []))) (Memᴰ.head refl)) in
      let long : ¬ (length answer < length f.list * zone_words) = λ q. none (f.list, rounds, f.means, q) in
      omega arith

  -- After an accepted call, told its number of zones, the front holds exactly the words of the listed zones.
  pub front_call : (L : List Zone) × Comes bytes text (value L rounds) × (length L ≡ zones) × (front_of answer' zones ≡ words L)
  front_call =
      let l = h.buffers.finishes in
      let f = front_words l.list answer roomy in
      let e = l.count in
      let a = h.buffers.answer_filled in
      (l.list, l.means, e, cc)

  -- And in the zones that are read back from that front lie exactly the stretches that fit.
  pub call_exact : Exact bytes text (list_at (front_of answer' zones) 0 zones)
  call_exact =
      let c = front_call in
      let n = c.2 in
      let f = c.3 in
      let g = list_words c.0 in
      let e : c.0 ≡ list_at (front_of answer' zones) 0 zones = cc in
      subst (Exact bytes text) e (comes_exact c.1)

-- ---- rounds

-- some ticks, where the head is not wrong
some_ticks : {bytes : List ℕ} → ¬ RecordingCause largest bytes 2 → 0 < ticks bytes
some_ticks {bytes} n = elim (dec_le 1 (ticks bytes)) [ yes h ↦ h | no h ↦ absurd (n (wrong_head (λ d. h (tick_range d.long d.short).0))) ]

-- The rounds of every `*` written, and their sum.
pub comes_bounded : {bytes text : List ℕ} {L : List Zone} {rounds : ℕ} → 0 < ticks bytes → Comes bytes text (value L rounds) → Total bytes text rounds
comes_bounded {bytes} {L = L} {rounds = rounds} some c =
    let s = evaluates_sum (Shows bytes) c.drill L rounds c.evaluates in
    record {
      drill = c.drill;
      form = c.form;
      each = λ f m. let t = sum_mem s m in
          record {
            rounds = t.0;
            made = t.1;
            few = rounds_of_bound (Shows bytes) some t.1;
            pieces = rounds_of_pieces (Shows bytes) some (recording_finite bytes 0 (ticks bytes)) t.1;
          };
      sum = s;
    }

-- There is one total.
pub total_unique : {bytes text : List ℕ} {m n : ℕ} → Total bytes text m → Total bytes text n → m ≡ n
total_unique {bytes} {m = m} p q =
    let e = unique p.form q.form in
    sum_unique (rounds_of_unique (Shows bytes)) (subst (λ (d : Expression). Sum (RoundsOf (Shows bytes) 0 (ticks bytes)) (repeated d) m) e p.sum) q.sum

-- Of every recording and drill for which none of causes 1 to 8 and 10 holds.
pub inputs_bounded : {bytes text : List ℕ} → NoInputCause bytes text → (total : ℕ) × Total bytes text total
inputs_bounded {bytes} {text} none = ⊎_elim (λ a. given a.0 a.1) (λ r. absurd (ruled r.0 r.1.holds)) (answered text (channels bytes))
  where
    some : 0 < ticks bytes
    some = some_ticks (none (Err RecordingHead) (Memᴰ.tail (Memᴰ.head refl)))

    ruled : (n : ℕ) → ¬ DrillCause text (channels bytes) n
    ruled _ (wrong_length x) = none (Err DrillLength) (append_right recordings (Memᴰ.head refl)) (wrong_length x)
    ruled _ (no_form x) = none (Err DrillForm) (append_right (recordings ++ (Err DrillLength ∷ [])) (Memᴰ.head refl)) (no_form x)
    ruled _ (wrong_letter x y z) = none (Err DrillLetter) (append_right (recordings ++ (Err DrillLength ∷ Err DrillForm ∷ [])) (Memᴰ.head refl)) (wrong_letter x y z)
    ruled _ (wrong_range x y z) =
        none (Err DrillRange) (append_right (recordings ++ (Err DrillLength ∷ Err DrillForm ∷ Err DrillLetter ∷ [])) (Memᴰ.head refl)) (wrong_range x y z)
    ruled _ (too_deep x y) =
        none (Err DrillDepth) (append_right (recordings ++ (Err DrillLength ∷ Err DrillForm ∷ Err DrillLetter ∷ Err DrillRange ∷ [])) (Memᴰ.head refl)) (too_deep x y)

    total : (v : Value) → Comes bytes text v → (n : ℕ) × Total bytes text n
    total (value L r) c = (r, comes_bounded some c)
    total (overflow b f) c = absurd (none (Err Overflow) (append_right (recordings ++ drills) (Memᴰ.head refl)) (b, f, c))

    given : (e : Expression) → Accepted text (channels bytes) e → (n : ℕ) × Total bytes text n
    given e a =
        let v = evaluates_exists (recording_finite bytes 0 (ticks bytes)) some e in total v.0 (record { drill = e; form = a.form; evaluates = v.1 })

-- And what an accepted call reports is that total.
pub call_bounded : {bytes text : List ℕ} {answer work : ℕ} {zones rounds : ℕ} → CallAs bytes text answer work (listing zones rounds) → Total bytes text rounds
call_bounded (accepted none f) = comes_bounded (some_ticks (none (Err RecordingHead) (Memᴰ.tail (Memᴰ.head refl)))) f.means
call_bounded (refused f) = absurd f.holds

-- ---- buffers

-- What is left is one thing, whichever entry of the column it is.
left_unique : (bytes text : List ℕ) (answer work a w b v : List ℤ) (r : Returned) (l : Left)
    → LeftAs (Comes bytes text) r l answer work a w → LeftAs (Comes bytes text) r l answer work b v → (a ≡ b) × (w ≡ v)
left_unique bytes text answer work a w b v r both p q = (p.answer_kept ∙ sym q.answer_kept, p.work_kept ∙ sym q.work_kept)
left_unique bytes text answer work a w b v r answer-buffer p q = (p.answer_kept ∙ sym q.answer_kept, p.work_cleared ∙ sym q.work_cleared)
left_unique bytes text answer work a w b v r delivered p q =
    let c = comes_unique p.finishes.means q.finishes.means in
    let e : p.finishes.list ≡ q.finishes.list = cc in
    (p.answer_filled ∙ ap (λ (L : List Zone). fronted (words L) answer) e ∙ sym q.answer_filled, p.work_cleared ∙ sym q.work_cleared)

-- A call leaves no choice: one outcome, and one thing in each buffer.
pub find_unique : {bytes text : List ℕ} {answer work a w b v : List ℤ} {o p : Outcome} → FindAs bytes text answer work o a w
    → FindAs bytes text answer work p b v → (o ≡ p) × (a ≡ b) × (w ≡ v)
find_unique {bytes} {text} {answer} {work} {a} {w} {b} {v} {p = p} h k =
    let e = call_unique finishes_once h.outcome k.outcome in
    let s = left_unique bytes text answer work a w b v (returned p) (leaves p) (subst (λ (q : Outcome). BuffersAs bytes text q answer work a w) e h.buffers) k.buffers in
    (e, s.0, s.1)

-- ---- the rounds left

-- The rounds left are one number, whichever entry of the column it is.
rounds_unique : (bytes text : List ℕ) (left l m : ℕ) (k : Left) → LeftAfter (Comes bytes text) left l k → LeftAfter (Comes bytes text) left m k → l ≡ m
rounds_unique bytes text left l m both p q = p ∙ sym q
rounds_unique bytes text left l m answer-buffer p q = p.left_is ∙ ap (λ (v : Value). left - spent v) (comes_unique p.means q.means) ∙ sym q.left_is
rounds_unique bytes text left l m delivered p q = p.left_is ∙ ap (λ (v : Value). left - spent v) (comes_unique p.means q.means) ∙ sym q.left_is

-- A call that is told the rounds left leaves no choice either.
pub within_unique : {bytes text : List ℕ} {left l m : ℕ} {answer work a w b v : List ℤ} {o p : Outcome} → WithinAs bytes text left answer work o l a w
    → WithinAs bytes text left answer work p m b v → (o ≡ p) × (l ≡ m) × (a ≡ b) × (w ≡ v)
within_unique {bytes} {text} {left} {l} {m} {answer} {work} {a} {w} {b} {v} {p = p} h k =
    let e = call_unique finishes_once h.outcome k.outcome in
    let s = left_unique bytes text answer work a w b v (returned p) (leaves p) (subst (λ (q : Outcome). BuffersAs bytes text q answer work a w) e h.buffers) k.buffers in
    let r = rounds_unique bytes text left l m (leaves p) (subst (λ (q : Outcome). LeftAfter (Comes bytes text) left l (leaves q)) e h.rounds) k.rounds in
    (e, r, s.0, s.1)

-- And there is one: every call that is told the rounds left has an outcome, with the rounds that it leaves and both buffers.
pub within_exists : (bytes text : List ℕ) (left : ℕ) (answer work : List ℤ)
    → (o : Outcome) × (left' : ℕ) × (answer' : List ℤ) × (work' : List ℤ) × WithinAs bytes text left answer work o left' answer' work'
within_exists bytes text left answer work =
    let c = call_exists bytes text left (length answer) (length work) in
    ⊎_elim (λ e. (c.0, left, answer, work, untouched e c.1)) (⊎_elim (stopped c.0 c.1) (λ f. finished f.0 f.1 (subst (CallWithin bytes text left (length answer) (length work)) f.2 c.1))) c.3
  where
    stopped : (o : Outcome) → CallWithin bytes text left (length answer) (length work) o → (leaves o ≡ answer-buffer) × (v : Value) × Comes bytes text v
        → (o : Outcome) × (left' : ℕ) × (answer' : List ℤ) × (work' : List ℤ) × WithinAs bytes text left answer work o left' answer' work'
    stopped o c (e, v, m) = (
      o,
      left - spent v,
      answer,
      cleared work,
      record { outcome = c; buffers = rw e (record { answer_kept = refl; work_cleared = refl }); rounds = rw e (record { whole = v; means = m; left_is = refl }) },
    )

    finished : (zones rounds : ℕ) → CallWithin bytes text left (length answer) (length work) (listing zones rounds)
        → (o : Outcome) × (left' : ℕ) × (answer' : List ℤ) × (work' : List ℤ) × WithinAs bytes text left answer work o left' answer' work'
    finished zones rounds (refused f) = absurd f.holds
    finished zones rounds (accepted n f) = (
      listing zones rounds,
      left - rounds,
      fronted (words f.list) answer,
      cleared work,
      record {
        outcome = accepted n f;
        buffers = record { finishes = f; answer_filled = refl; work_cleared = refl };
        rounds = record { whole = value f.list rounds; means = f.means; left_is = refl };
      },
    )
