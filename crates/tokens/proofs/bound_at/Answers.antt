-- `bound_at`: the number behind a `<`, or the number that stands there.
use Rattle.tokens.proofs.Numbers.{open_none, open_is, closed_none, closed_is}
use Rattle.tokens.proofs.bound_at.Goals as goal

pub returns-in_err-end : goal.returns-in_err-end
returns-in_err-end c = rw c.from_residual.ensures (open_none _ _ c.in-Some.ensures c.in_err-end.ensures)

pub returns-in-Some : goal.returns-in-Some
returns-in-Some c = open_is _ _ c.in-Some.ensures c.in_ok-end.ensures

pub returns-in_err-end-2 : goal.returns-in_err-end-2
returns-in_err-end-2 c = rw c.from_residual-in_err-end-2.ensures (closed_none c.args.text.now c.args.at c.in_default.ensures c.in_err-end-2.ensures)

pub returns : goal.returns
returns c = closed_is _ _ c.in_default.ensures c.in_ok-end-2.ensures
