-- The outcome of a call that is accepted.
use Rattle.std.specs.Prelude.{ℕ}
use Rattle.outcome.specs.Outcome.{Outcome, Ok}

-- the finished list of so many zones and rounds
abbrev pub listing : (zones rounds : ℕ) → Outcome
listing zones rounds = Ok (record { zones = zones; rounds = rounds })
