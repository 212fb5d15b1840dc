-- What `parse` answers.
use Rattle.std.specs.Prelude.{Result, Ok, Err, List, ℕ}
use Rattle.parser.specs.declared.Fault.{Fault}
use Rattle.parser.specs.declared.Fault.TheVariants.{WrongLength, NoForm, WrongLetter, WrongRange, TooDeep}
use Rattle.expression.specs.Expression.{Expression}
use Rattle.expression.specs.Refusal.{DrillRefused, Accepted}
use Rattle.expression.specs.Stored.{Stored}

-- document 01's number of each answer, 0 being that of an accepted drill
abbrev pub number_of : Result ℕ Fault → ℕ
number_of (Ok n) = 0
number_of (Err WrongLength) = 4
number_of (Err NoForm) = 5
number_of (Err WrongLetter) = 6
number_of (Err WrongRange) = 7
number_of (Err TooDeep) = 8

-- The answer for a text and a channel count, with the words ns that the node buffer then holds.
-- Accepted: the text's expression is stored, and node n is its root. Where in the buffer its nodes stand is free; `Stored` says what holds of them.
-- Refused: the number is that of the first cause. All words of the buffer are then free: any words, as many as before.
abbrev pub ParsedAs : List ℕ → ℕ → List ℕ → Result ℕ Fault → Type 0
ParsedAs text channels ns (Ok n) = (e : Expression) × Accepted text channels e × Stored ns n e
ParsedAs text channels ns (Err WrongLength) = DrillRefused text channels (number_of (Err WrongLength))
ParsedAs text channels ns (Err NoForm) = DrillRefused text channels (number_of (Err NoForm))
ParsedAs text channels ns (Err WrongLetter) = DrillRefused text channels (number_of (Err WrongLetter))
ParsedAs text channels ns (Err WrongRange) = DrillRefused text channels (number_of (Err WrongRange))
ParsedAs text channels ns (Err TooDeep) = DrillRefused text channels (number_of (Err TooDeep))
