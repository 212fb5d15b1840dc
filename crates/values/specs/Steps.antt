-- What the private functions ask and answer. No public contract cites it.
use Rattle.std.specs.Prelude.{◌≡◌, List, ℕ, ◌≤◌, ℤ, Result, Ok, Err}
use Rattle.list.specs.declared.Overflow as list_error
use Rattle.list.specs.Insert.{capacity}
use Rattle.list.specs.Slots.{list_at}
use Rattle.purse.specs.declared.Listed.{Listed}
use Rattle.purse.specs.declared.Stopped.{Stopped}
use Rattle.purse.specs.declared.Stopped.TheVariants.{Overflow}

-- a list that is built without rounds, with the rounds left
abbrev pub unspent : Result ℕ list_error.Overflow → ℕ → Result Listed Stopped
unspent (Ok n) left = Ok (record { count = n; left = left })
unspent (Err e) left = Err (Overflow left)

-- a list, if there is one, that a slot has room for
abbrev pub Bringable : Result Listed Stopped → Type 0
Bringable (Ok l) = l.count ≤ capacity
Bringable (Err e) = Unit {0}

-- the list that stands at `at` among the words ws stands at `base` among the words vs; where there is none, that is answered as it was
abbrev pub BroughtAs : List ℤ → ℕ → Result Listed Stopped → List ℤ → ℕ → Result Listed Stopped → Type 0
BroughtAs ws at (Ok l) vs base r = (r ≡ Ok l) × (list_at vs base l.count ≡ list_at ws at l.count)
BroughtAs ws at (Err e) vs base r = r ≡ Err e
