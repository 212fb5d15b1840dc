-- Zones in the words of a buffer.
use Rattle.std.specs.Prelude.{List, [], ◌∷◌, ◌++◌, ℕ, ◌+◌, ℤ, pos, length, get_or, take, drop}
use Rattle.limit.specs.Limit.{code, decode}
use Rattle.zone.specs.declared.Zone.{Zone}

-- "6 words a zone"
abbrev pub zone_words : ℕ
zone_words = 6

-- word k of a buffer
abbrev pub word : List ℤ → ℕ → ℤ
word ws k = get_or ws k (pos 0)

-- the six words of a zone, in the order of its limits
abbrev pub codes : Zone → List ℤ
codes z = code z.start ∷ code z.nstart ∷ code z.end ∷ code z.nend ∷ code z.length ∷ code z.nlength ∷ []

-- the zone whose words stand from `at` on
unfoldable pub zone_at : List ℤ → ℕ → Zone
zone_at ws at =
    record {
      start = decode (word ws at);
      nstart = decode (word ws (at + 1));
      end = decode (word ws (at + 2));
      nend = decode (word ws (at + 3));
      length = decode (word ws (at + 4));
      nlength = decode (word ws (at + 5));
    }

-- the words vs from `at` on, and all others as they were
unfoldable pub overwrite : List ℤ → ℕ → List ℤ → List ℤ
overwrite ws at vs = take at ws ++ (vs ++ drop (at + length vs) ws)
