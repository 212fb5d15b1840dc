use Rattle.pairs.proofs.Turns.{apart_empty, touched, untouched}
use Rattle.pairs.proofs.ComposeCombine.combined.Goals as goal

pub returns-then-not-touches : goal.returns-then-not-touches
returns-then-not-touches c = apart_empty c.requires.2 c.requires.3 (untouched c.touches.result c.touches.ensures c.if-not-touches.true)

pub compose_touching-requires : goal.compose_touching-requires
compose_touching-requires c = rw (c.read_zone-z.ensures, c.read_zone-w.ensures) (c.requires.2, c.requires.3, touched c.touches.result c.touches.ensures c.if-not-touches.false)
