-- Private contracts alone cite this file: a lesson put together step by step.
use Rattle.std.specs.Prelude.{Result, Ok, Err, List, ℕ}
use Rattle.calls.specs.Causes.{First, NoCause}
use Rattle.lines.specs.Taken.{LinesAs}
use Rattle.outcome.specs.declared.Refusal.{Refusal}
use Rattle.lessons.specs.Lessons.{LessonCause, lesson_causes}

-- what is known before any drill
abbrev pub JudgedAs : (bytes text store : List ℕ) → Result ℕ Refusal → Type 0
JudgedAs bytes text store (Err r) = First lesson_causes (LessonCause bytes text) (Err r)
JudgedAs bytes text store (Ok n) = NoCause lesson_causes (LessonCause bytes text) × LinesAs text store n
