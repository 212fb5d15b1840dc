-- `letter_at` meets its contract: a sign, and then a letter or none.
use Rattle.tokens.proofs.Tokens.{no_letter, letter_is}
use Rattle.tokens.proofs.letter_at.Goals as goal

pub returns-in_err-channel : goal.returns-in_err-channel
returns-in_err-channel c = rw c.from_residual.ensures (no_letter _ _ c.sign_at-letter.ensures c.in_err-channel.ensures)

pub returns : goal.returns
returns c = letter_is _ _ c.sign_at-letter.ensures c.in_ok-channel.ensures
