-- What `ends_of` requires of the words.
use Rattle.std.specs.Prelude.{List, ℕ, ℤ, ◌*◌, ◌≤◌, length}
use Rattle.limit.specs.Limit.{most_ticks}
use Rattle.words.specs.Words.{zone_words}
use Rattle.list.specs.Slots.{list_at, Sound}

-- n zones stand in front of the words, and with them and tick s the machine's numbers have room
pub record Askable (ws : List ℤ) (n s : ℕ) : Type 0 where
  pub room : n * zone_words ≤ length ws
  pub sound : Sound (list_at ws 0 n)
  pub few : s ≤ most_ticks
