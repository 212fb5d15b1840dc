-- A list with its rounds, or how far the rounds came.
use Rattle.std.specs.Prelude.{List, ℕ, ◌+◌}
use Rattle.zone.specs.declared.Zone.{Zone}
use Rattle.list.specs.Insert as puts
use Rattle.list.specs.Insert.{Built, listed}

-- what a list comes to: the list and its total of rounds; or that "a put would leave a list of 129 zones", with the rounds begun by then and
-- those of them that were finished
pub data Value : Type 0 where
  value : List Zone → ℕ → Value
  overflow : (begun finished : ℕ) → Value

-- the rounds begun, a round that overflows among them
abbrev pub begun : Value → ℕ
begun (value L r) = r
begun (overflow b f) = b

-- "Finished rounds stay spent, a refused drill's too": a round that overflows is not finished
abbrev pub spent : Value → ℕ
spent (value L r) = r
spent (overflow b f) = f

-- the same, with r finished rounds before it
abbrev pub with_rounds : ℕ → Value → Value
with_rounds r (value L s) = value L (r + s)
with_rounds r (overflow b f) = overflow (r + b) (r + f)

-- a list that is built without rounds
abbrev pub ended : Built → Value
ended (listed L) = value L 0
ended puts.overflow = overflow 0 0
