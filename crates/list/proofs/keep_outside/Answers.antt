-- `keep_outside` meets its contract.
use Rattle.std.proofs.Common.{arith, refl}
use Rattle.list.proofs.Slots.{copied_there, copied_zone}
use Rattle.list.proofs.keep_outside.Goals as goal

pub returns-then-included : goal.returns-then-included
returns-then-included c = rw (← c.included.ensures.value, c.if-included.true) (refl, refl)

pub returns-then-kept-i : goal.returns-then-kept-i
returns-then-kept-i c = rw (← c.included.ensures.value, c.if-included.false) (refl, copied_there 6 _ (omega (arith, c.if-kept-i.true)))

pub move_zone-requires : goal.move_zone-requires
move_zone-requires c = (omega arith, omega arith)

pub returns : goal.returns
returns c = rw (← c.included.ensures.value, c.if-included.false) (refl, rw c.move_zone.ensures (copied_zone _ _ _ (omega arith)))
