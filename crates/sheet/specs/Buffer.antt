-- A sheet in a lent buffer, and what is answered of it.
use Rattle.std.specs.Prelude.{cond, List, ℕ, ◌*◌, leb, ℤ, length, Option, Result, Err}
use Rattle.std.specs.Option.{ok_or}
use Rattle.words.specs.Words.{zone_words}
use Rattle.outcome.specs.declared.Returned.{Returned}
use Rattle.text.specs.Buffer.{onto, fitted}
pub use Rattle.sheet.specs.declared.Unprinted.{Unprinted}
pub use Rattle.sheet.specs.declared.Unprinted.TheVariants.{TooSmall, FrontShort}
use Rattle.sheet.specs.Sheet.{sheet}

-- what is answered of a text is answered of the sheet that it is
abbrev pub of_text : Option ℕ → Result ℕ Unprinted
of_text w = ok_or w TooSmall

-- the answer: FrontShort where the words are too few for the zones, else whether the sheet fits
unfoldable pub answer : Returned → List ℤ → ℕ → Result ℕ Unprinted
answer r front room = cond (leb (r.zones * zone_words) (length front)) (of_text (fitted (length (sheet r front)) room)) (Err FrontShort)

-- the buffer afterwards
unfoldable pub left : Returned → List ℤ → List ℕ → List ℕ
left r front out = cond (leb (r.zones * zone_words) (length front)) (onto (sheet r front) out) out
