-- The theorems on what a lesson prints: each line has its own result, and two lines that change places change results.
use mathlib.Core.Path.{◌≡◌, refl, sym, subst, ◌∙◌}
use mathlib.Core.Logic.{◌⊎◌, inl, inr, ⊎_elim}
use mathlib.Core.List.Memᴰ.{cases_cons}
use mathlib.Core.List.Memᴰ.{not-nil}
use mathlib.Core.List.{List, [], ◌∷◌, ◌++◌, append-nil, append_cancel_left, Memᴰ}
use Prim.Native.Nat.{ℕ, ◌<◌}
use native.Mathlib.Decide.{dec_le}
use native.Mathlib.Omega.{arith}
use lib.IntN.{ℤ, pos}
use lib.ListN.{length, get_or, replicate, length-replicate}
use Rattle.outcome.specs.Outcome.{Outcome}
use Rattle.outcome.specs.Outcome.{returned}
use Rattle.calls.specs.Causes.{First, NoCause}
use Rattle.calls.specs.Outcome.{room}
use Rattle.marking.specs.Marking.{answer_words}
use Rattle.sheet.specs.Sheet.{refused}
use Rattle.lines.specs.Lines.{terminated, joined, Unbroken, Lined}
use Rattle.lines.proofs.Lined.{at_mem, drill_plain}
use Rattle.results.specs.Results.{purse, Results, Results.none, Results.next, number_line, with_numbers}
use Rattle.results.proofs.Unique.{result_exists, results_exist, results_length}
use Rattle.lessons.specs.Lessons.{LessonCause, recording_length, recording_head, recording_change, sheet_form, lesson_causes, LessonAs, turned_back, held, PrintedAs}
use Rattle.lessons.proofs.Lessons.{one_lesson, promised_lesson}
use Rattle.exchange.specs.Exchange.{ByItself, LineByLine, Exchanged}
use Rattle.exchange.proofs.Alone.{result_same, results_on}

-- ---- sheets over one recording

-- two sheets have the same causes: those of the recording
same_cause : {bytes text text' : List ℕ} {drills : List (List ℕ)} {o : Outcome} → Lined text drills → LessonCause bytes text o → LessonCause bytes text' o
same_cause l (recording_length c) = recording_length c
same_cause l (recording_head c) = recording_head c
same_cause l (recording_change c) = recording_change c
same_cause l (sheet_form u) = absurd (u _ l)

module _ {bytes text text' : List ℕ} {drills drills' : List (List ℕ)} (l : Lined text drills) (m : Lined text' drills') where
  same_none : NoCause lesson_causes (LessonCause bytes text) → NoCause lesson_causes (LessonCause bytes text')
  same_none n o h c = n o h (same_cause m c)

  same_first : {o : Outcome} → First lesson_causes (LessonCause bytes text) o → First lesson_causes (LessonCause bytes text') o
  same_first f = record { earlier = f.earlier; later = f.later; place = f.place; holds = same_cause l f.holds; none = λ p h c. f.none p h (same_cause m c) }

-- each line of a sheet is a sheet by itself
line_lined : {text : List ℕ} {drills : List (List ℕ)} {k : ℕ} → Lined text drills → k < length drills → Lined (terminated (get_or drills k [])) (get_or drills k [] ∷ [])
unfolding joined
line_lined {drills = drills} {k} l h =
    record {
      whole = sym (append-nil _);
      plain = λ d m. ⊎_elim (λ (e : d ≡ get_or drills k []). subst Unbroken (sym e) (drill_plain l h)) (λ n. absurd (not-nil n)) (cases_cons m);
      filled = λ m. ⊎_elim (λ (e : [] ≡ get_or drills k []). l.filled (subst (λ (d : List ℕ). Memᴰ d drills) (sym e) (at_mem drills k [] h))) (λ n. not-nil n) (cases_cons m);
      some = omega arith;
      few = omega arith;
    }

-- ==== 1. "A drill's result therefore depends on the recording and its own text alone"

-- Theorem: what is printed of a lesson that is not refused is, line by line, the result of each line by itself. This holds on any buffers that are
-- lent; since 9 and 11 ask for their lengths, so does the result of a line.
pub line_by_line : {bytes text printed : List ℕ} {answer work answer' work' : List ℤ} {drills : List (List ℕ)} → Lined text drills
    → LessonAs bytes text answer work 0 printed answer' work' → LineByLine bytes (length answer) (length work) drills printed
line_by_line {bytes} {text} {answer = answer} {work} {drills = drills} l h =
    record { results = r.0; text = (one_lesson h (held ruled l r.3)).1; as_many = results_length r.3; each = λ k within. record { lesson = by_itself k within } }
  where
    ruled : NoCause lesson_causes (LessonCause bytes text)
    ruled = (promised_lesson h).accepts.0 refl

    r : (results : List (List ℕ)) × (answer' : List ℤ) × (work' : List ℤ) × Results bytes answer work drills results answer' work'
    r = results_exist bytes answer work drills

    by_itself : (k : ℕ) → k < length drills → (a w : List ℤ) → length a ≡ length answer → length w ≡ length work
        → (a' : List ℤ) × (w' : List ℤ) × LessonAs bytes (terminated (get_or drills k [])) a w 0 (with_numbers 1 (get_or r.0 k [] ∷ [])) a' w'
    by_itself k within a w e f =
        let x = results_on refl refl r.3 k within in
        let y = result_exists bytes (get_or drills k []) purse a w in
        let line = line_lined l within in
        let same = result_same (e ∙ sym x.answer_long) (f ∙ sym x.work_long) y.3 x.means in (
          y.1,
          y.2,
          subst (λ (s : List ℕ). LessonAs bytes (terminated (get_or drills k [])) a w 0 (with_numbers 1 (s ∷ [])) y.1 y.2) same (held (same_none l line ruled) line (next y.3 none)),
        )

one_line : {r s : List ℕ} → with_numbers 1 (r ∷ []) ≡ with_numbers 1 (s ∷ []) → r ≡ s
unfolding with_numbers
one_line {r} {s} e = sym (append-nil r) ∙ append_cancel_left (number_line 1) (r ++ []) (s ++ []) e ∙ append-nil s

-- Theorem: a line has one result by itself.
pub one_result : {bytes drill r s : List ℕ} {n m : ℕ} → ByItself bytes n m drill r → ByItself bytes n m drill s → r ≡ s
one_result {n = n} {m} p q =
    let a = length-replicate n (pos 0) in
    let w = length-replicate m (pos 0) in
    one_line (one_lesson (p.lesson (replicate n (pos 0)) (replicate m (pos 0)) a w).2 (q.lesson (replicate n (pos 0)) (replicate m (pos 0)) a w).2).1

-- ==== 2. "swapping two lines of a sheet only swaps their results"

-- Theorem: of two lessons line by line, where the second has two lines of the first exchanged, it has the two results exchanged; each number stays
-- in its place.
pub results_exchanged : {bytes printed printed' : List ℕ} {n m i j : ℕ} {drills drills' : List (List ℕ)} → i < length drills → j < length drills → Exchanged i j drills drills'
    → (p : LineByLine bytes n m drills printed) (q : LineByLine bytes n m drills' printed') → Exchanged i j p.results q.results
results_exchanged {bytes} {n = n} {m} {i} {j} {drills} {drills'} inside inside' x p q =
    record {
      as_many = q.as_many ∙ x.as_many ∙ sym p.as_many;
      first = same (omega (arith, x.as_many)) inside' x.first;
      second = same (omega (arith, x.as_many)) inside x.second;
      others = λ k h a b. let within : k < length drills = omega (arith, p.as_many) in same (omega (arith, x.as_many)) within (x.others k within a b);
    }
  where
    same : {k l : ℕ} → k < length drills' → l < length drills → get_or drills' k [] ≡ get_or drills l [] → get_or q.results k [] ≡ get_or p.results l []
    same {k} {l} h g e = one_result (subst (λ (d : List ℕ). ByItself bytes n m d (get_or q.results k [])) e (q.each k h)) (p.each l g)

-- ==== 3. What the program `lesson` prints

-- of a sheet over a recording that is refused ..
refused_text : {bytes text printed : List ℕ} {number : ℕ} {answer work answer' work' : List ℤ} → LessonAs bytes text answer work number printed answer' work' → 0 < number
    → (o : Outcome) × First lesson_causes (LessonCause bytes text) o × (printed ≡ refused (returned o).number)
refused_text (turned_back {o} f) h = (o, f, refl)
refused_text (held n l r) h = absurd (omega arith)

-- .. and of one that is not: on the buffers that the program lends
lines_printed : {bytes text printed : List ℕ} {drills : List (List ℕ)} → Lined text drills → (p : PrintedAs bytes text printed) → p.number ≡ 0 → LineByLine bytes answer_words room drills printed
lines_printed {bytes} {text} {printed} {drills} l p e =
    subst (λ (n : ℕ). LineByLine bytes n room drills printed) (length-replicate answer_words (pos 0))
    (subst (λ (m : ℕ). LineByLine bytes (length (replicate answer_words (pos 0))) m drills printed) (length-replicate room (pos 0))
    (line_by_line l (subst (λ (n : ℕ). LessonAs bytes text (replicate answer_words (pos 0)) (replicate room (pos 0)) n printed p.answer p.work) e p.lesson)))

-- Theorem: of two sheets over one recording, of which the second has two lines of the first exchanged, `lesson` prints the refusal of the recording for
-- both, or line by line the result of each line by itself: the two results exchanged, each number in its place.
pub lines_exchanged : {bytes text text' printed printed' : List ℕ} {i j : ℕ} {drills drills' : List (List ℕ)} → Lined text drills → Lined text' drills'
    → i < length drills → j < length drills → Exchanged i j drills drills' → PrintedAs bytes text printed → PrintedAs bytes text' printed'
    → ((o : Outcome) × First lesson_causes (LessonCause bytes text) o × (printed ≡ refused (returned o).number) × (printed' ≡ refused (returned o).number))
    ⊎ ((p : LineByLine bytes answer_words room drills printed) × (q : LineByLine bytes answer_words room drills' printed') × Exchanged i j p.results q.results)
lines_exchanged {bytes} {text} {text'} {printed} {printed'} {i} {j} {drills} {drills'} l m inside inside' x p q = elim (dec_le 1 p.number) [
  | yes h ↦ (let r = refused_text p.lesson h in inl (r.0, r.1, r.2, (one_lesson q.lesson (turned_back (same_first l m r.1))).1))
  | no h ↦ inr (run (omega arith))
]
  where
    run : p.number ≡ 0 → (a : LineByLine bytes answer_words room drills printed) × (b : LineByLine bytes answer_words room drills' printed') × Exchanged i j a.results b.results
    run e =
        let ruled : NoCause lesson_causes (LessonCause bytes text) = (promised_lesson p.lesson).accepts.0 e in
        let a = lines_printed l p e in
        let b = lines_printed m q ((promised_lesson q.lesson).accepts.1 (same_none l m ruled)) in
        (a, b, results_exchanged inside inside' x a b)
