use Rattle.zone.proofs.Laws.{ranged}
use Rattle.pairs.proofs.MeetCombine.combined.Goals as goal

pub meet-requires : goal.meet-requires
meet-requires c = rw (c.read_zone-z.ensures, c.read_zone-w.ensures) (ranged c.requires.2, ranged c.requires.3)
