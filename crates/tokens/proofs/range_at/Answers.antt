-- `range_at` meets its contract.
use Rattle.tokens.proofs.Numbers.{range_none, range_stops, range_open, range_is}
use Rattle.tokens.proofs.range_at.Goals as goal

pub returns-in_err-comma : goal.returns-in_err-comma
returns-in_err-comma c = rw c.from_residual.ensures (range_none _ c.in_err-comma.ensures)

pub returns-in_err-start : goal.returns-in_err-start
returns-in_err-start c = rw c.from_residual-in_err-start.ensures (range_stops c.in_ok-comma.ensures c.in_err-start.ensures)

pub returns-in_err-end : goal.returns-in_err-end
returns-in_err-end c = rw c.from_residual-in_err-end.ensures (range_open c.in_ok-comma.ensures c.in_ok-start.ensures c.in_err-end.ensures)

pub returns : goal.returns
returns c = range_is c.in_ok-comma.ensures c.in_ok-start.ensures c.in_ok-end.ensures
