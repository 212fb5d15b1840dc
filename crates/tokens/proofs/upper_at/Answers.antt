-- `upper_at` meets its contract.
use Rattle.tokens.proofs.Numbers.{upper_endless, upper_none, upper_unclosed, upper_closed}
use Rattle.tokens.proofs.upper_at.Goals as goal

pub returns-in-Some : goal.returns-in-Some
returns-in-Some c = upper_endless c.in-Some.ensures

pub returns-in_err-close : goal.returns-in_err-close
returns-in_err-close c = rw c.from_residual.ensures (upper_none c.args.text.now c.args.at c.in_default.ensures c.in_err-close.ensures)

pub returns-in_err-end : goal.returns-in_err-end
returns-in_err-end c = rw c.from_residual-in_err-end.ensures (upper_unclosed _ _ c.in_default.ensures c.in_ok-close.ensures c.in_err-end.ensures)

pub returns : goal.returns
returns c = upper_closed _ _ c.in_default.ensures c.in_ok-close.ensures c.in_ok-end.ensures
