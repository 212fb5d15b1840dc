-- `byte_is` meets its contract.
use Rattle.tokens.proofs.Text.{seen_inside, seen_outside}
use Rattle.std.proofs.Common.{le-ltb}
use Rattle.tokens.proofs.byte_is.Goals as goal

pub returns-then-at-text : goal.returns-then-at-text
returns-then-at-text c = seen_inside _ _ _ c.if-at-text.true

pub returns-else-at-text : goal.returns-else-at-text
returns-else-at-text c = rw (le-ltb _ _ c.if-at-text.false) (seen_outside _ _ _ c.if-at-text.false)
