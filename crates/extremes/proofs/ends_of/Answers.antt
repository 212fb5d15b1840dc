-- `ends_of`: what is seen of the zones so far, together with those left, is what is seen of all.
use Rattle.std.proofs.Common.{arith}
use Rattle.extremes.proofs.Seeing.{none_seen, proper_next, one_more, all_seen}
use Rattle.zone.proofs.Laws.{proper_diagonal, ranged, ranged_more}
use Rattle.extremes.proofs.ends_of.Goals as goal

pub loop-i-init : goal.loop-i-init
loop-i-init c = none_seen c.requires.sound

pub compose-requires : goal.compose-requires
compose-requires c = (
  rw c.diagonal-point.ensures.value (ranged_more c.requires.few (ranged (proper_diagonal _ _ (omega arith)))),
  rw c.read_zone-z.ensures (ranged (proper_next c.loop-i.invariant (omega arith))),
)

pub loop-i-preserved : goal.loop-i-preserved
loop-i-preserved c =
    rw (c.see-seen.ensures, c.compose.ensures.value, c.diagonal-point.ensures.value, c.read_zone-z.ensures)
    (one_more c.loop-i.invariant (omega arith))

pub returns : goal.returns
returns c = rw c.told.ensures (all_seen c.loop-i.invariant (omega arith) c.requires.sound)
