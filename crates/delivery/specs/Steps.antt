-- Private contracts alone cite this file: how an evaluated list is delivered.
use Rattle.std.specs.Prelude.{Result, Ok, Err, cond, List, ℕ, ◌-◌, ◌*◌, ◌≤◌, leb, ℤ, length}
use Rattle.words.specs.Words.{zone_words}
use Rattle.list.specs.Slots.{list_at}
use Rattle.purse.specs.declared.Listed.{Listed}
use Rattle.purse.specs.declared.Stopped.{Stopped}
use Rattle.purse.specs.declared.Stopped.TheVariants.{Overflow, Spent}
use Rattle.outcome.specs.declared.Finished.{Finished}
use Rattle.delivery.specs.declared.Shortage.{Shortage}
use Rattle.delivery.specs.declared.Shortage.TheVariants as shortage
use Rattle.delivery.specs.declared.Shortage.TheVariants.{RoundsSpent, AnswerShort}
use Rattle.delivery.specs.Buffers.{words, fronted}

-- the evaluated list stands at the front of so many words, and no more rounds are left than were told
abbrev pub InFront : Result Listed Stopped → (told work : ℕ) → Type 0
InFront (Ok l) told work = (l.count * zone_words ≤ work) × (l.left ≤ told)
InFront (Err (Overflow left)) told work = Unit {0}
InFront (Err Spent) told work = Unit {0}

-- what an evaluated list comes to where so many rounds were told and there are so many answer words ..
abbrev pub comes_to : Result Listed Stopped → (told answer : ℕ) → Result Finished Shortage
comes_to (Ok l) told answer = cond (leb (l.count * zone_words) answer) (Ok (record { zones = l.count; rounds = told - l.left })) (Err AnswerShort)
comes_to (Err (Overflow left)) told answer = Err shortage.Overflow
comes_to (Err Spent) told answer = Err RoundsSpent

-- .. how many rounds it leaves ..
abbrev pub left_of : Result Listed Stopped → ℕ
left_of (Ok l) = l.left
left_of (Err (Overflow left)) = left
left_of (Err Spent) = 0

-- .. and what the answer buffer then holds
abbrev pub answer_after : Result Listed Stopped → (work answer : List ℤ) → List ℤ
answer_after (Ok l) work answer = cond (leb (l.count * zone_words) (length answer)) (fronted (words (list_at work 0 l.count)) answer) answer
answer_after (Err (Overflow left)) work answer = answer
answer_after (Err Spent) work answer = answer
