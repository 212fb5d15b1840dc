-- `letter` meets its contract.
use Rattle.primaries.proofs.Spelling.{spells_letter}
use Rattle.primaries.proofs.letter.Goals as goal

pub returns : goal.returns
returns c = record {
  value = spells_letter _ _ _ _ _ _ _ _ c.spell.result c.spell.ensures.value;
  kept = c.spell.ensures.kept;
}
