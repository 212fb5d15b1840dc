-- The filled front of an answer, where the buffer can hold the zones that are told and where it cannot.
use mathlib.Core.Path.{◌≡◌}
use mathlib.Core.List.{List, []}
use Prim.Native.Nat.{ℕ, ◌*◌, ◌≤◌, ◌<◌}
use borrow.Author.Tests.{le-leb, lt-leb}
use lib.IntN.{ℤ}
use lib.ListN.{length, take}
use Rattle.words.specs.Words.{zone_words}
use Rattle.outcome.specs.Outcome.{front_of}

-- Told as many zones as the buffer can hold, the words of that many ..
pub front_filled : (answer : List ℤ) (zones : ℕ) → zones * zone_words ≤ length answer → front_of answer zones ≡ take (zones * zone_words) answer
unfolding front_of
front_filled answer zones h = rw (le-leb (zones * zone_words) (length answer) h)

-- .. and told more, nothing.
pub front_empty : (answer : List ℤ) (zones : ℕ) → length answer < zones * zone_words → front_of answer zones ≡ []
unfolding front_of
front_empty answer zones h = rw (lt-leb (zones * zone_words) (length answer) h)
