-- `postfix_at` meets its contract.
use Rattle.tokens.proofs.Tokens.{star_is, no_operator, no_band, band_is}
use Rattle.tokens.proofs.postfix_at.Goals as goal

pub returns-in-Some : goal.returns-in-Some
returns-in-Some c = star_is _ _ c.in-Some.ensures

pub returns-in_err-start : goal.returns-in_err-start
returns-in_err-start c = rw c.from_residual.ensures (no_operator c.args.text.now c.args.at c.in_default.ensures c.in_err-start.ensures)

pub returns-in_err-end : goal.returns-in_err-end
returns-in_err-end c = rw c.from_residual-in_err-end.ensures (no_band _ _ c.in_default.ensures c.in_ok-start.ensures c.in_err-end.ensures)

pub returns : goal.returns
returns c = band_is _ _ c.in_default.ensures c.in_ok-start.ensures c.in_ok-end.ensures
