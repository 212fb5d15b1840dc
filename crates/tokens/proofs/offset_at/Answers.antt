-- `offset_at` meets its contract.
use Rattle.std.proofs.Common.{arith}
use Rattle.tokens.proofs.Text.{offset_end, offset_low, offset_high, offset_by}
use Rattle.tokens.proofs.offset_at.Goals as goal

pub returns-in_err-get : goal.returns-in_err-get
returns-in_err-get c = rw c.from_residual.ensures (offset_end _ _ _ _ c.in_err-get.ensures.lookup.3)

pub returns-in_err-checked_sub : goal.returns-in_err-checked_sub
returns-in_err-checked_sub c =
    let byte = c.in_ok-get.ensures.lookup.3 in
    rw c.from_residual-in_err-checked_sub.ensures (offset_low _ _ _ _ byte.0 (omega (arith, byte.1 0, c.in_err-checked_sub.ensures)))

pub returns-then-offset-count : goal.returns-then-offset-count
returns-then-offset-count c =
    let byte = c.in_ok-get.ensures.lookup.3 in
    let offset = c.in_ok-checked_sub.ensures in
    offset_by _ _ _ _ byte.0 (omega (arith, byte.1 0, offset.0)) (omega (arith, byte.1 0, offset.1, c.from-offset.ensures)) c.if-offset-count.true

pub returns-else-offset-count : goal.returns-else-offset-count
returns-else-offset-count c =
    let byte = c.in_ok-get.ensures.lookup.3 in
    let offset = c.in_ok-checked_sub.ensures in
    offset_high _ _ _ _ byte.0 (omega (arith, byte.1 0, offset.0)) (omega (arith, byte.1 0, offset.1, c.from-offset.ensures)) c.if-offset-count.false
