-- `sign_at` meets its contract: a sign, another byte, or the end of the text.
use Rattle.std.proofs.Common.{sym, ◌∙◌}
use Rattle.tokens.proofs.Text.{byte_there, no_byte}
use Rattle.tokens.proofs.Tokens.{low_is, rise_is, fall_is, unsigned, unsigned_end}
use Rattle.tokens.proofs.sign_at.Goals as goal

pub returns-in-Some-eq33 : goal.returns-in-Some-eq33
returns-in-Some-eq33 c = let byte = byte_there _ _ _ c.get.ensures.lookup.3 c.in-Some-eq33.ensures in low_is _ _ byte.0 byte.1 c.in-Some-eq33.field-0-test

pub returns-in-Some-eq43 : goal.returns-in-Some-eq43
returns-in-Some-eq43 c = let byte = byte_there _ _ _ c.get.ensures.lookup.3 c.in-Some-eq43.ensures in rise_is _ _ byte.0 byte.1 c.in-Some-eq43.field-0-test

pub returns-in-Some-eq45 : goal.returns-in-Some-eq45
returns-in-Some-eq45 c = let byte = byte_there _ _ _ c.get.ensures.lookup.3 c.in-Some-eq45.ensures in fall_is _ _ byte.0 byte.1 c.in-Some-eq45.field-0-test

pub returns-in_default : goal.returns-in_default
returns-in_default c =
    let byte = byte_there _ _ _ c.get.ensures.lookup.3 c.in_default.ensures in
    let other = c.in_default.field-0-test in
    unsigned _ _ byte.0 byte.1 other.0.0.1 other.0.1 other.1

pub returns-in_default-2 : goal.returns-in_default-2
returns-in_default-2 c = unsigned_end _ _ (no_byte _ _ _ c.get.ensures.lookup.3 (sym c.in_default.is ∙ c.copied.ensures))
