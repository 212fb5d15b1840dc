-- What is left in the buffers: the words of the listed zones in front of the answer, and cleared work words.
use Rattle.std.specs.Prelude.{◌≡◌, List, [], ◌∷◌, ◌++◌, ℕ, ◌*◌, ◌<◌, ℤ, pos, length, drop, replicate}
use Rattle.zone.specs.declared.Zone.{Zone}
use Rattle.words.specs.Words.{zone_words, codes}
use Rattle.meaning.specs.Lists.{Value, value}

-- the finder needs so many work words
abbrev pub room : ℕ
room = 16384

-- of a drill that comes to a list: so many answer words are too few for it
abbrev pub NoRoom : (comes : Value → Type 0) (answer : ℕ) → Type 0
NoRoom comes answer = (L : List Zone) × (r : ℕ) × comes (value L r) × (answer < length L * zone_words)

-- "it then returns .. the number of zones and the total of rounds": those of the list to which the drill comes
pub record Finishes (comes : Value → Type 0) (zones rounds : ℕ) : Type 0 where
  pub list : List Zone
  pub means : comes (value list rounds)
  pub count : length list ≡ zones

-- the words of the listed zones, six a zone
unfoldable pub words : List Zone → List ℤ
words [] = []
words (z ∷ L) = codes z ++ words L

-- a buffer whose first words are vs, and "later ones untouched"
unfoldable pub fronted : List ℤ → List ℤ → List ℤ
fronted vs ws = vs ++ drop (length vs) ws

-- one whose first n words are zero
unfoldable pub zeroed : ℕ → List ℤ → List ℤ
zeroed n ws = fronted (replicate n (pos 0)) ws

-- "the first 16,384 work words are zero, later ones untouched"
abbrev pub cleared : List ℤ → List ℤ
cleared ws = zeroed room ws

-- both buffers are as they were ..
pub record BothKept (answer work answer' work' : List ℤ) : Type 0 where
  pub answer_kept : answer' ≡ answer
  pub work_kept : work' ≡ work

-- .. or the answer buffer; "After 10, 11 or acceptance the first 16,384 work words are zero, later ones untouched"
pub record AnswerKept (answer work answer' work' : List ℤ) : Type 0 where
  pub answer_kept : answer' ≡ answer
  pub work_cleared : work' ≡ cleared work

-- accepted: the listed zones stand in front of the answer buffer, and "Words after the front are untouched"
pub record Delivered (comes : Value → Type 0) (zones rounds : ℕ) (answer work answer' work' : List ℤ) : Type 0 where
  pub finishes : Finishes comes zones rounds
  pub answer_filled : answer' ≡ fronted (words finishes.list) answer
  pub work_cleared : work' ≡ cleared work
