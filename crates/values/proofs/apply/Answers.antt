-- `apply` meets its contract: the function for each case.
use Rattle.values.proofs.apply.Goals as goal

pub banded-requires : goal.banded-requires
banded-requires c = (c.requires.0, rw c.in-Band.is at c.requires.1)

pub returns-in-Star : goal.returns-in-Star
returns-in-Star c = record {
  value = rw c.in-Star.is c.star.ensures.value;
  kept = c.star.ensures.kept;
}

pub returns-in-Band : goal.returns-in-Band
returns-in-Band c = record {
  value = rw c.in-Band.is c.banded.ensures.value;
  kept = c.banded.ensures.kept;
}

pub returns-in-Absence : goal.returns-in-Absence
returns-in-Absence c = record {
  value = rw c.in-Absence.is c.absent.ensures.value;
  kept = c.absent.ensures.kept;
}
