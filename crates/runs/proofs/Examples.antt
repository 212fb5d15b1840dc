-- Worked examples, computed from the bytes of a recording.
use mathlib.Core.Path.{◌≡◌, refl}
use mathlib.Core.List.{List, [], ◌∷◌, ◌++◌}
use Prim.Native.Nat.{ℕ}
use Rattle.recording.specs.Reading.{tick, le16, le32, has_mark, changes, RecordingRefused, ReadingAs}
use Rattle.runs.specs.Levels.{Shows, level_in}
use Rattle.runs.specs.Runs.{Runs}
use Rattle.recording.specs.Tests.{sized, headed, changed, all_changed}
use Rattle.runs.specs.Search.{leaves_at}
use Rattle.runs.specs.declared.Level.TheVariants.{High, Low}
use Rattle.recording.specs.declared.Dimensions.{Dimensions}
use Rattle.recording.specs.declared.Fault.TheVariants.{Change}
use Rattle.std.specs.Prelude.{Ok, Err}
use Rattle.runs.specs.declared.Run.{Run}
use Rattle.recording.proofs.Refusals.{reading, exactly}
use Rattle.runs.proofs.Levels.{shown}
use Rattle.runs.proofs.Runs.{runs_of}
use Rattle.runs.proofs.Handed.{shows_runs}

-- the head of a recording of one channel, and a change of its level, at times below 256 ms
abbrev head : ℕ → List ℕ
head duration = 0x44 ∷ 0x52 ∷ duration ∷ 0 ∷ 0 ∷ 0 ∷ 1 ∷ 0 ∷ []

abbrev high : ℕ → List ℕ
high time = 0x43 ∷ 0x48 ∷ time ∷ 0 ∷ 0 ∷ 0 ∷ 1 ∷ 0 ∷ []

abbrev low : ℕ → List ℕ
low time = 0x43 ∷ 0x48 ∷ time ∷ 0 ∷ 0 ∷ 0 ∷ 0 ∷ 0 ∷ []

abbrev to : ℕ → ℕ → Run
to s e = record { start = s; end = e }

-- d ticks and one channel
abbrev measured : List ℕ → ℕ → Dimensions
measured bytes d = record { ticks = d; channels = 1; changes = changes bytes }

-- the bytes are read as a recording of d ticks, and these are the runs of channel a, high and low
pub record Example (bytes : List ℕ) (d : ℕ) (highs lows : List Run) : Type 0 where
  pub read : ReadingAs 32768 bytes (Ok (measured bytes d))
  pub highs_are : Runs (Shows bytes 0 High) 0 d highs
  pub lows_are : Runs (Shows bytes 0 Low) 0 d lows

computed : (bytes : List ℕ) (d : ℕ) → reading 32768 bytes ≡ Ok (measured bytes d)
    → Example bytes d (runs_of (shown bytes 0 High) 0 d) (runs_of (shown bytes 0 Low) 0 d)
computed bytes d e = record {
  read = (exactly 32768 bytes (Ok (measured bytes d))).0 e;
  highs_are = shows_runs bytes 0 High 0 d;
  lows_are = shows_runs bytes 0 Low 0 d;
}

-- recording R: duration 100 ms, one channel, high at 20, low at 70
pub R : Example (head 100 ++ (high 20 ++ low 70)) 10 (to 2 7 ∷ []) (to 7 10 ∷ [])
unfolding reading sized headed all_changed changed has_mark le32 le16 tick runs_of shown leaves_at level_in
R = computed _ 10 refl

-- two changes on tick 2: the last stands
pub one_tick : Example (head 100 ++ (high 20 ++ (low 24 ++ high 70))) 10 (to 7 10 ∷ []) (to 2 7 ∷ [])
unfolding reading sized headed all_changed changed has_mark le32 le16 tick runs_of shown leaves_at level_in
one_tick = computed _ 10 refl

-- a change on tick d has no effect, and where it is the first, nothing is reported
pub at_the_end : Example (head 100 ++ high 96) 10 [] []
unfolding reading sized headed all_changed changed has_mark le32 le16 tick runs_of shown leaves_at level_in
at_the_end = computed _ 10 refl

-- a duration that rounds up: 95 ms is 10 ticks
pub rounded_up : Example (head 95 ++ high 50) 10 (to 5 10 ∷ []) []
unfolding reading sized headed all_changed changed has_mark le32 le16 tick runs_of shown leaves_at level_in
rounded_up = computed _ 10 refl

-- one that rounds down: 105 ms is 10 ticks, so that a change at 101 ms has no effect
pub rounded_down : Example (head 105 ++ high 101) 10 [] []
unfolding reading sized headed all_changed changed has_mark le32 le16 tick runs_of shown leaves_at level_in
rounded_down = computed _ 10 refl

-- 20 and 25 ms are one tick, 25 and 30 ms are two
pub one_tick_of_two : Example (head 100 ++ (high 20 ++ (low 25 ++ high 30))) 10 (to 3 10 ∷ []) (to 2 3 ∷ [])
unfolding reading sized headed all_changed changed has_mark le32 le16 tick runs_of shown leaves_at level_in
one_tick_of_two = computed _ 10 refl

-- no change at all: nothing is reported
pub no_change : Example (head 100) 10 [] []
unfolding reading sized headed all_changed changed has_mark le32 le16 tick runs_of shown leaves_at level_in
no_change = computed _ 10 refl

-- the first change may be at 0 ms
pub at_once : Example (head 100 ++ high 0) 10 (to 0 10 ∷ []) []
unfolding reading sized headed all_changed changed has_mark le32 le16 tick runs_of shown leaves_at level_in
at_once = computed _ 10 refl

-- .. and is on tick 0 still at 5 ms, and on tick 2 at 15: before it nothing is reported
pub first_at_5 : Example (head 100 ++ low 5) 10 [] (to 0 10 ∷ [])
unfolding reading sized headed all_changed changed has_mark le32 le16 tick runs_of shown leaves_at level_in
first_at_5 = computed _ 10 refl

pub first_at_15 : Example (head 100 ++ low 15) 10 [] (to 2 10 ∷ [])
unfolding reading sized headed all_changed changed has_mark le32 le16 tick runs_of shown leaves_at level_in
first_at_15 = computed _ 10 refl

-- a second head is a wrong change
pub second_head : RecordingRefused 32768 (head 100 ++ head 100) 3
unfolding reading sized headed all_changed changed has_mark le32 le16
second_head = (exactly 32768 (head 100 ++ head 100) (Err Change)).0 refl
