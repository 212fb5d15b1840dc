-- The bytes of a recording: its records, what makes one wrong, and what reading answers.
use Rattle.std.specs.Prelude.{◌≡◌, Bool, true, cond, ◌&&◌, List, [], ◌∷◌, ℕ, ◌+◌, ◌-◌, ◌*◌, ◌/◌, ◌%◌, ◌^◌, ◌≤◌, ◌<◌, eqb, length, get_or, Result, Ok, Err}
use Rattle.recording.specs.declared.Dimensions.{Dimensions}
use Rattle.recording.specs.declared.Fault.{Fault}
use Rattle.recording.specs.declared.Fault.TheVariants.{Length, Head, Change}

-- of tick n and the next one, the even one
abbrev pub even_of : ℕ → ℕ
even_of n = n + n % 2

-- a tick is 10 ms. A time of m ms that is "exactly halfway between two ticks .. goes to the even one"; "all others go to the nearest"
unfoldable pub tick : ℕ → ℕ
tick m = cond (eqb (m % 10) 5) (even_of (m / 10)) ((m + 5) / 10)

-- the byte at a place, 0 past the end
abbrev pub byte_at : List ℕ → ℕ → ℕ
byte_at bytes at = get_or bytes at 0

-- numbers are unsigned, low byte first
unfoldable pub le16 : List ℕ → ℕ → ℕ
le16 bytes at = byte_at bytes at + 256 * byte_at bytes (at + 1)

unfoldable pub le32 : List ℕ → ℕ → ℕ
le32 bytes at = le16 bytes at + 65536 * le16 bytes (at + 2)

-- records of 8 bytes, each after a two-byte mark that is part of the 8: record j starts at byte 8 * j
unfoldable pub has_mark : List ℕ → ℕ → List ℕ → Bool
has_mark bytes j mark = eqb (byte_at bytes (8 * j)) (get_or mark 0 0) && eqb (byte_at bytes (8 * j + 1)) (get_or mark 1 0)

abbrev pub head_mark : List ℕ
head_mark = 0x44 ∷ 0x52 ∷ []

abbrev pub change_mark : List ℕ
change_mark = 0x43 ∷ 0x48 ∷ []

-- the head, record 0: mark, duration in milliseconds (4 bytes), channel count (1 byte), a zero byte
abbrev pub duration : List ℕ → ℕ
duration bytes = le32 bytes 2

abbrev pub channels : List ℕ → ℕ
channels bytes = byte_at bytes 6

-- the changes, records 1 to `changes`: mark, time in milliseconds (4 bytes), levels (2 bytes)
abbrev pub changes : List ℕ → ℕ
changes bytes = length bytes / 8 - 1

abbrev pub time : List ℕ → ℕ → ℕ
time bytes j = le32 bytes (8 * j + 2)

abbrev pub levels : List ℕ → ℕ → ℕ
levels bytes j = le16 bytes (8 * j + 6)

-- the duration gives d the same way
abbrev pub ticks : List ℕ → ℕ
ticks bytes = tick (duration bytes)

-- a right length: not 0, not over the largest, a multiple of 8
pub record Sized (largest : ℕ) (bytes : List ℕ) : Type 0 where
  pub some : 0 < length bytes
  pub within : length bytes ≤ largest
  pub whole : length bytes % 8 ≡ 0

-- a right head: mark 44 52, duration 10 to 10,000,000, channel count 1 to 16, a zero byte
pub record Headed (bytes : List ℕ) : Type 0 where
  pub mark : has_mark bytes 0 head_mark ≡ true
  pub long : 10 ≤ duration bytes
  pub short : duration bytes ≤ 10000000
  pub one : 1 ≤ channels bytes
  pub few : channels bytes ≤ 16
  pub blank : byte_at bytes 7 ≡ 0

-- change j is right: mark 43 48, time below the duration, above the change before, bits at or above the channel count zero
pub record Changed (bytes : List ℕ) (j : ℕ) : Type 0 where
  pub mark : has_mark bytes j change_mark ≡ true
  pub below : time bytes j < duration bytes
  pub above : 1 < j → time bytes (j - 1) < time bytes j
  pub quiet : levels bytes j / 2 ^ channels bytes ≡ 0

-- every change is right
abbrev pub AllChanged : List ℕ → Type 0
AllChanged bytes = (j : ℕ) → 0 < j → j ≤ changes bytes → Changed bytes j

-- ---- which answer is given

-- the cause of each number holds, of the bytes of a recording and the size that it may have at most
pub data RecordingCause (largest : ℕ) (bytes : List ℕ) : ℕ → Type 0 where
  -- "recording of length 0, over 32,768 or not a multiple of 8"
  wrong_length : ¬ Sized largest bytes → RecordingCause largest bytes 1
  -- "head wrong in any field"
  wrong_head : ¬ Headed bytes → RecordingCause largest bytes 2
  -- "a change wrong in any field"
  wrong_change : ¬ AllChanged bytes → RecordingCause largest bytes 3

-- "Each is given when its cause holds and no earlier one does": n is the number of the first cause
pub record RecordingRefused (largest : ℕ) (bytes : List ℕ) (n : ℕ) : Type 0 where
  pub holds : RecordingCause largest bytes n
  pub first : (m : ℕ) → m < n → ¬ RecordingCause largest bytes m

-- what the head and the number of records say
abbrev pub dimensions : List ℕ → Dimensions
dimensions bytes = record { ticks = ticks bytes; channels = channels bytes; changes = changes bytes }

-- the bytes are a recording of these dimensions: whole records and at least one, nothing wrong in them
pub record IsRecording (bytes : List ℕ) (size : Dimensions) : Type 0 where
  pub some : 0 < length bytes
  pub whole : length bytes % 8 ≡ 0
  pub headed : Headed bytes
  pub changed : AllChanged bytes
  pub measured : size ≡ dimensions bytes

-- document 01's number of each answer, 0 being that of a recording that is read
abbrev pub reading_number : Result Dimensions Fault → ℕ
reading_number (Err Length) = 1
reading_number (Err Head) = 2
reading_number (Err Change) = 3
reading_number (Ok size) = 0

-- The answer for bytes of which there may be so many. Refused: the number is that of the first cause. Read: no cause holds, and the dimensions
-- are those of the bytes.
abbrev pub ReadingAs : (largest : ℕ) (bytes : List ℕ) → Result Dimensions Fault → Type 0
ReadingAs largest bytes (Err fault) = RecordingRefused largest bytes (reading_number (Err fault))
ReadingAs largest bytes (Ok size) = ((n : ℕ) → ¬ RecordingCause largest bytes n) × IsRecording bytes size
