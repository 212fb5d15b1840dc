-- `literal` meets its contract: by its sign, the list of a letter, or that of its moments.
use Rattle.primaries.proofs.literal.Goals as goal

pub returns-in-High-clause-value : goal.returns-in-High-clause-value
returns-in-High-clause-value c = rw c.in-High.is c.letter.ensures.value

pub returns-in-Low-clause-value : goal.returns-in-Low-clause-value
returns-in-Low-clause-value c = rw c.in-Low.is c.letter-in-Low.ensures.value

pub returns-in-Rise-clause-value : goal.returns-in-Rise-clause-value
returns-in-Rise-clause-value c = rw c.in-Rise.is c.moments.ensures.value

pub returns-in-Fall-clause-value : goal.returns-in-Fall-clause-value
returns-in-Fall-clause-value c = rw c.in-Fall.is c.moments-in-Fall.ensures.value
