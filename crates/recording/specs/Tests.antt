-- For private contracts alone: what is right in a recording, as tests.
use Rattle.std.specs.Prelude.{Bool, true, ◌&&◌, ◌||◌, List, ℕ, zero, suc, ◌-◌, ◌/◌, ◌%◌, ◌^◌, leb, ltb, eqb, length}
use Rattle.recording.specs.Reading.{byte_at, has_mark, head_mark, change_mark, duration, channels, time, levels}

-- `Sized`
unfoldable pub sized : ℕ → List ℕ → Bool
sized largest bytes = ltb 0 (length bytes) && (leb (length bytes) largest && eqb (length bytes % 8) 0)

-- `Headed`
unfoldable pub headed : List ℕ → Bool
headed bytes =
    has_mark bytes 0 head_mark
    && ((leb 10 (duration bytes) && leb (duration bytes) 10000000)
    && ((leb 1 (channels bytes) && leb (channels bytes) 16)
    && eqb (byte_at bytes 7) 0))

-- `Changed`
unfoldable pub changed : List ℕ → ℕ → Bool
changed bytes j =
    has_mark bytes j change_mark
    && (ltb (time bytes j) (duration bytes)
    && ((leb j 1 || ltb (time bytes (j - 1)) (time bytes j))
    && eqb (levels bytes j / 2 ^ channels bytes) 0))

-- .. for the changes 1 to n
unfoldable pub all_changed : List ℕ → ℕ → Bool
all_changed bytes zero = true
all_changed bytes (suc n) = all_changed bytes n && changed bytes (suc n)
