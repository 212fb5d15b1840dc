-- Worked examples, computed from an outcome and the words of its zones to the bytes.
use mathlib.Core.Path.{◌≡◌, refl}
use mathlib.Core.List.{[], ◌∷◌, ◌++◌}
use Prim.Native.Nat.{ℕ}
use lib.IntN.{ℤ, pos, neg_ℤ}
use Rattle.outcome.specs.declared.Refusal.TheVariants.{DrillForm, Overflow}
use Rattle.outcome.specs.Outcome.{Err, returned}
use Rattle.outcome.proofs.Listing.{listing}
use Rattle.words.specs.Words.{zone_at}
use Rattle.text.specs.Text.{ascii}
use Rattle.text.specs.Decimal.{next, counted, decimal, integer}
use Rattle.sheet.specs.Sheet.{range, line, lines, finished, refused, sheet}

abbrev minus : ℕ → ℤ
minus n = neg_ℤ (pos n)

-- document 01's whole output for `(a{2,2})*` on R
pub whole_output : sheet (returned (listing 3 2)) (
    pos 11 ∷ minus 3 ∷ pos 15 ∷ minus 7 ∷ pos 5 ∷ minus 3
    ∷ pos 7 ∷ minus 3 ∷ pos 15 ∷ minus 11 ∷ pos 9 ∷ minus 7
    ∷ pos 21 ∷ pos 1 ∷ pos 21 ∷ pos 1 ∷ pos 1 ∷ pos 1 ∷ [])
    ≡ ascii "zones 3 rounds 2\n"
    ++ (ascii "start [2,5] end [4,7] length [2,2]\n"
    ++ (ascii "start [2,3] end [6,7] length [4,4]\n"
    ++ ascii "start [0,10] end [0,10] length [0,0]\n"))
unfolding sheet finished lines line range decimal integer counted next zone_at
whole_output = refl

-- `a` on R: limits that are not reached
pub round_brackets : sheet (returned (listing 1 0)) (pos 14 ∷ minus 3 ∷ pos 15 ∷ minus 4 ∷ pos 11 ∷ pos 0 ∷ [])
    ≡ ascii "zones 1 rounds 0\n" ++ ascii "start [2,7) end (2,7] length (0,5]\n"
unfolding sheet finished lines line range decimal integer counted next zone_at
round_brackets = refl

pub no_zones : sheet (returned (listing 0 0)) [] ≡ ascii "zones 0 rounds 0\n"
unfolding sheet finished lines decimal counted next
no_zones = refl

pub refusals : (sheet (returned (Err DrillForm)) [] ≡ ascii "refused 5\n") × (sheet (returned (Err Overflow)) [] ≡ ascii "refused 10\n")
unfolding sheet refused decimal counted next
refusals = (refl, refl)
