-- The text that document 01 prints, as bytes.
use Rattle.std.specs.Prelude.{cond, List, [], ◌++◌, ℕ, zero, suc, ◌*◌, eqb, ℤ, neg_ℤ}
use Rattle.limit.specs.declared.Limit.{Limit}
use Rattle.limit.specs.declared.Limit.TheVariants.{AtMost, Below}
use Rattle.zone.specs.declared.Zone.{Zone}
use Rattle.limit.specs.Limit.{value}
use Rattle.words.specs.Words.{zone_words, zone_at}
use Rattle.text.specs.Decimal.{decimal, integer}
use Rattle.outcome.specs.declared.Returned.{Returned}
use Rattle.text.specs.Text.{ascii}

-- one text or the other: "a square bracket is reached, a round one is not"
abbrev pub bracket : Limit → List ℕ → List ℕ → List ℕ
bracket (AtMost v) square round = square
bracket (Below v) square round = round

-- `[2,5]`: the range between a lower limit, which is kept as an upper one on the negated quantity, and an upper limit
unfoldable pub range : Limit → Limit → List ℕ
range lower upper =
    bracket lower (ascii "[") (ascii "(") ++ (integer (neg_ℤ (value lower)) ++ (ascii "," ++ (integer (value upper) ++ bracket upper (ascii "]") (ascii ")"))))

-- `start [2,5] end [4,7] length [2,2]`: "each zone .. with the range of its start, end and length in ticks"
unfoldable pub line : Zone → List ℕ
line z =
    ascii "start " ++ (range z.nstart z.start
    ++ (ascii " end " ++ (range z.nend z.end ++ (ascii " length " ++ (range z.nlength z.length ++ ascii "\n")))))

-- the lines of the first n zones in the words, in list order
unfoldable pub lines : List ℤ → ℕ → List ℕ
lines front zero = []
lines front (suc n) = lines front n ++ line (zone_at front (n * zone_words))

-- "Line one: zones listed, total of rounds. Then each zone"
unfoldable pub finished : ℕ → ℕ → List ℤ → List ℕ
finished zones rounds front = ascii "zones " ++ (decimal zones ++ (ascii " rounds " ++ (decimal rounds ++ (ascii "\n" ++ lines front zones))))

-- "A refusal prints only `refused` and its number."
unfoldable pub refused : ℕ → List ℕ
refused n = ascii "refused " ++ (decimal n ++ ascii "\n")

-- the whole output, from what is returned and the words of the listed zones
unfoldable pub sheet : Returned → List ℤ → List ℕ
sheet r front = cond (eqb r.number 0) (finished r.zones r.rounds front) (refused r.number)
