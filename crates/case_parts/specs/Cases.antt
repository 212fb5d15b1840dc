-- The numbers of a case, and the words of its buffers before and after the call.
use Rattle.std.specs.Prelude.{◌≡◌, cond, List, ℕ, ◌+◌, ◌*◌, ◌≤◌, ◌<◌, eqb, ltb, ℤ, pos, length, get_or}
use Rattle.case_parts.specs.declared.Case.{Case}

-- the number of four bytes from a place on, low byte first
unfoldable pub four_bytes : List ℕ → ℕ → ℕ
four_bytes head at = get_or head at 0 + 256 * get_or head (at + 1) 0 + 65_536 * get_or head (at + 2) 0 + 16_777_216 * get_or head (at + 3) 0

-- the largest of these numbers stands for the largest `usize`
unfoldable pub told_zones : ℕ → ℕ
told_zones n = cond (eqb n 4_294_967_295) 18_446_744_073_709_551_615 n

-- the five numbers at the head of a case
abbrev pub case_of : List ℕ → Case
case_of head =
    record {
      recording = four_bytes head 0;
      drill = four_bytes head 4;
      answer = four_bytes head 8;
      work = four_bytes head 12;
      told = told_zones (four_bytes head 16);
    }

-- word i of a buffer before the call: i, as far as buffers reach
abbrev pub word_before : ℕ → ℤ
word_before i = cond (ltb 100_000 i) (pos 0) (pos i)

-- all words from `start` on are so
abbrev pub AsBefore : List ℤ → ℕ → Type 0
AsBefore words start = (i : ℕ) → i < length words → start ≤ i → get_or words i (pos 0) ≡ word_before i
