use Rattle.zone.proofs.Laws.{ranged}
use Rattle.pairs.proofs.compose_touching.Goals as goal

pub compose-requires : goal.compose-requires
compose-requires c = (ranged c.requires.0, ranged c.requires.1)

pub returns : goal.returns
returns c = c.compose.ensures.value
