-- The marked set, "To be proved on R", as one table. Theorem `marked_set` of proofs/Marked.antt is about the whole of it.
use Rattle.std.specs.Prelude.{◌≡◌, List, [], ◌∷◌, ℕ, ◌*◌, ◌≤◌, ℤ, pos, neg_ℤ, length as count}
use Prim.Native.String.{String}
use Rattle.limit.specs.declared.Limit.{Limit}
use Rattle.limit.specs.declared.Limit.TheVariants.{AtMost, Below}
use Rattle.zone.specs.declared.Zone.{Zone}
use Rattle.words.specs.Words.{zone_words}
use Rattle.recording.specs.Reading.{tick}
use Rattle.text.specs.Text.{ascii}
use Rattle.outcome.specs.Outcome.{Outcome}
use Rattle.outcome.specs.Outcome.{returned}
use Rattle.calls.specs.Outcome.{room, words, fronted, cleared, FindAs}

-- ---- the inputs

-- "Recording R: duration 100 ms, one channel, high at 20, low at 70": the head and two changes, byte by byte
abbrev pub R : List ℕ
R =
    0x44 ∷ 0x52 ∷ 100 ∷ 0 ∷ 0 ∷ 0 ∷ 1 ∷ 0
    ∷ 0x43 ∷ 0x48 ∷ 20 ∷ 0 ∷ 0 ∷ 0 ∷ 1 ∷ 0
    ∷ 0x43 ∷ 0x48 ∷ 70 ∷ 0 ∷ 0 ∷ 0 ∷ 0 ∷ 0 ∷ []

-- ---- what a drill gives

-- a call of `find` on R, the text and two buffers has one result: it returns the number, how many zones there are and the rounds, the words
-- of the zones stand in front of the answer buffer, and the work buffer is cleared
pub record Gives (text : List ℕ) (number rounds : ℕ) (zones : List Zone) (answer work : List ℤ) : Type 0 where
  pub outcome : Outcome
  pub returns : returned outcome ≡ record { number = number; zones = count zones; rounds = rounds }
  pub call : FindAs R text answer work outcome (fronted (words zones) answer) (cleared work)
  pub only : (o : Outcome) (answer' work' : List ℤ) → FindAs R text answer work o answer' work'
      → (o ≡ outcome) × (answer' ≡ fronted (words zones) answer) × (work' ≡ cleared work)

-- ---- zones, as they are printed

-- a range by its two limits; "A lower limit is kept as an upper limit on the negated quantity"
pub record Interval : Type 0 where
  pub lower : Limit
  pub upper : Limit

-- "a square bracket is reached, a round one is not": `⟦ 2 ‥ 7 ⟯` is the paper's [2,7), whose brackets antt keeps for itself
infix 80 ⟦◌‥◌⟧ ⟦◌‥◌⟯ ⟮◌‥◌⟧ ⟮◌‥◌⟯
abbrev pub ⟦◌‥◌⟧ : ℕ → ℕ → Interval
⟦ lo ‥ hi ⟧ = record { lower = AtMost (neg_ℤ (pos lo)); upper = AtMost (pos hi) }

abbrev pub ⟦◌‥◌⟯ : ℕ → ℕ → Interval
⟦ lo ‥ hi ⟯ = record { lower = AtMost (neg_ℤ (pos lo)); upper = Below (pos hi) }

abbrev pub ⟮◌‥◌⟧ : ℕ → ℕ → Interval
⟮ lo ‥ hi ⟧ = record { lower = Below (neg_ℤ (pos lo)); upper = AtMost (pos hi) }

abbrev pub ⟮◌‥◌⟯ : ℕ → ℕ → Interval
⟮ lo ‥ hi ⟯ = record { lower = Below (neg_ℤ (pos lo)); upper = Below (pos hi) }

-- "the range of its start, end and length in ticks"
infix 75 start◌end◌length◌
abbrev pub start◌end◌length◌ : Interval → Interval → Interval → Zone
start s end e length l = record { start = s.upper; nstart = s.lower; end = e.upper; nend = e.lower; length = l.upper; nlength = l.lower }

-- ---- the table

infix 70 drill◌number◌rounds◌zones◌ ◌ms_is_tick◌
pub data Row : Type 0 where
  -- the number, the rounds and the zones that a drill gives on R
  drill◌number◌rounds◌zones◌ : String → ℕ → ℕ → List Zone → Row
  -- the rounding
  ◌ms_is_tick◌ : ℕ → ℕ → Row

abbrev pub marked : List Row
marked =
    drill "a" number 0 rounds 0 zones (start ⟦ 2 ‥ 7 ⟯ end ⟮ 2 ‥ 7 ⟧ length ⟮ 0 ‥ 5 ⟧ ∷ [])
    ∷ drill "!a" number 0 rounds 0 zones (start ⟦ 7 ‥ 10 ⟯ end ⟮ 7 ‥ 10 ⟧ length ⟮ 0 ‥ 3 ⟧ ∷ [])
    ∷ drill "a.a" number 0 rounds 0 zones (start ⟦ 2 ‥ 7 ⟯ end ⟮ 2 ‥ 7 ⟧ length ⟮ 0 ‥ 5 ⟧ ∷ [])
    ∷ drill "a|a" number 0 rounds 0 zones (start ⟦ 2 ‥ 7 ⟯ end ⟮ 2 ‥ 7 ⟧ length ⟮ 0 ‥ 5 ⟧ ∷ [])
    ∷ drill "a.!a" number 0 rounds 0 zones (start ⟦ 2 ‥ 7 ⟯ end ⟮ 7 ‥ 10 ⟧ length ⟮ 0 ‥ 8 ⟧ ∷ [])
    ∷ drill "a{5,5}" number 0 rounds 0 zones (start ⟦ 2 ‥ 2 ⟧ end ⟦ 7 ‥ 7 ⟧ length ⟦ 5 ‥ 5 ⟧ ∷ [])
    ∷ drill "a{6,}" number 0 rounds 0 zones []
    ∷ drill "a{0,0}" number 0 rounds 0 zones []
    ∷ drill "a{<2,5}" number 0 rounds 0 zones (start ⟦ 2 ‥ 5 ⟯ end ⟮ 4 ‥ 7 ⟧ length ⟮ 2 ‥ 5 ⟧ ∷ [])
    ∷ drill "a{2,<5}" number 0 rounds 0 zones (start ⟦ 2 ‥ 5 ⟧ end ⟦ 4 ‥ 7 ⟧ length ⟦ 2 ‥ 5 ⟯ ∷ [])
    ∷ drill "a{<0,}" number 0 rounds 0 zones (start ⟦ 2 ‥ 7 ⟯ end ⟮ 2 ‥ 7 ⟧ length ⟮ 0 ‥ 5 ⟧ ∷ [])
    ∷ drill "a{<5,}" number 0 rounds 0 zones []
    ∷ drill "a&!a" number 0 rounds 0 zones []
    ∷ drill "_" number 0 rounds 0 zones (start ⟦ 0 ‥ 10 ⟧ end ⟦ 0 ‥ 10 ⟧ length ⟦ 0 ‥ 0 ⟧ ∷ [])
    ∷ drill "+a" number 0 rounds 0 zones []
    ∷ drill "-a" number 0 rounds 0 zones (start ⟦ 7 ‥ 7 ⟧ end ⟦ 7 ‥ 7 ⟧ length ⟦ 0 ‥ 0 ⟧ ∷ [])
    ∷ drill "+a.a{0,3}" number 0 rounds 0 zones []
    ∷ drill "-a.!a{0,3}" number 0 rounds 0 zones (start ⟦ 7 ‥ 7 ⟧ end ⟮ 7 ‥ 10 ⟧ length ⟮ 0 ‥ 3 ⟧ ∷ [])
    ∷ drill "a.-a" number 0 rounds 0 zones (start ⟦ 2 ‥ 7 ⟯ end ⟦ 7 ‥ 7 ⟧ length ⟮ 0 ‥ 5 ⟧ ∷ [])
    ∷ drill "+a{1,}" number 0 rounds 0 zones []
    ∷ drill "~a" number 0 rounds 0 zones (
    start ⟦ 7 ‥ 10 ⟧ end ⟦ 7 ‥ 10 ⟧ length ⟦ 0 ‥ 3 ⟧
    ∷ start ⟦ 0 ‥ 2 ⟯ end ⟦ 0 ‥ 10 ⟧ length ⟦ 0 ‥ 10 ⟧
    ∷ start ⟦ 2 ‥ 7 ⟯ end ⟮ 7 ‥ 10 ⟧ length ⟮ 0 ‥ 8 ⟧
    ∷ start ⟦ 2 ‥ 2 ⟧ end ⟦ 2 ‥ 2 ⟧ length ⟦ 0 ‥ 0 ⟧
    ∷ start ⟮ 2 ‥ 7 ⟯ end ⟮ 2 ‥ 7 ⟯ length ⟦ 0 ‥ 0 ⟧
    ∷ [])
    ∷ drill "~(a|~a)" number 0 rounds 0 zones []
    ∷ 24 ms_is_tick 2
    ∷ 25 ms_is_tick 2
    ∷ 5 ms_is_tick 0
    ∷ 15 ms_is_tick 2
    ∷ []

-- ---- what a row says

-- of a drill: with enough work words and six answer words a zone, whatever both buffers hold
abbrev pub RowHolds : Row → Type 0
RowHolds (drill text number n rounds r zones L) =
    (answer work : List ℤ) → count L * zone_words ≤ count answer → room ≤ count work → Gives (ascii text) n r L answer work
RowHolds (ms ms_is_tick k) = tick ms ≡ k
