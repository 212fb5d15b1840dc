-- `moments` meets its contract: the runs are looked for around the window.
use Rattle.primaries.proofs.Spelling.{spells_moments}
use Rattle.primaries.proofs.moments.Goals as goal

pub returns : goal.returns
returns c = record {
  value = spells_moments _ _ _ _ _ _ _ _ c.spell.result (rw (c.around.ensures.bytes, c.around.ensures.from, c.around.ensures.to) at c.spell.ensures.value);
  kept = c.spell.ensures.kept;
}
