-- The words passed are as before a call.
use Rattle.std.proofs.Common.{ℕ, ◌<◌, ◌≡◌, pos, get_or}
use Rattle.case_parts.specs.Cases.{word_before}
use Rattle.case_parts.proofs.fill.Given as goal

abbrev pub invariant-loop-i : goal.invariant-loop-i
invariant-loop-i l = (j : ℕ) → j < l.i → get_or l.words j (pos 0) ≡ word_before j
