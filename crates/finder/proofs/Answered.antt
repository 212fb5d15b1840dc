-- The answer buffer after an accepted call: its filled front holds the words of the listed zones, and they are read back as those zones.
use mathlib.Core.Path.{◌≡◌, refl, sym, subst, ◌∙◌}
use mathlib.Core.List.{List, [], ◌∷◌, ◌++◌, append_assoc}
use Prim.Native.Nat.{ℕ, ◌+◌, ◌*◌, ◌≤◌, ◌<◌}
use native.Mathlib.Omega.{arith}
use lib.IntN.{ℤ, pos}
use lib.ListN.{length, drop, length-append, length-drop, get_or-append}
use lib.Seq.{take_at, get_or-append-add}
use Rattle.zone.specs.declared.Zone.{Zone}
use Rattle.words.specs.Words.{zone_words, word, codes}
use Rattle.words.proofs.Words.{zone_of_codes}
use Rattle.list.specs.Slots.{list_at}
use Rattle.delivery.specs.Buffers.{words, fronted}
use Rattle.outcome.specs.Outcome.{front_of}
use Rattle.outcome.proofs.Fronts.{front_filled}

-- Six words a zone.
pub words_length : (L : List Zone) → length (words L) ≡ length L * zone_words
unfolding words
words_length [] = refl
words_length (z ∷ L) = let h = words_length L in let k = length-append (codes z) (words L) in omega arith

-- Words that are put in front of a buffer with room for them do not change its length.
pub fronted_length : (vs ws : List ℤ) → length vs ≤ length ws → length (fronted vs ws) ≡ length ws
unfolding fronted
fronted_length vs ws h = simp (length-append, length-drop) (omega arith)

-- Told the number of zones, the front of the answer holds exactly the words of the listed zones.
pub front_words : (L : List Zone) (answer : List ℤ) → length L * zone_words ≤ length answer → front_of (fronted (words L) answer) (length L) ≡ words L
unfolding fronted
front_words L answer h =
    let n = words_length L in
    let k : length L * zone_words ≤ length (fronted (words L) answer) = subst (λ (m : ℕ). length L * zone_words ≤ m) (sym (fronted_length (words L) answer (omega arith))) h in
    front_filled (fronted (words L) answer) (length L) k ∙ take_at (words L) (drop (length (words L)) answer) (length L * zone_words) n

front_at : (us cs ws : List ℤ) (k : ℕ) → k < length cs → word (us ++ (cs ++ ws)) (length us + k) ≡ word cs k
front_at us cs ws k h = get_or-append-add us (cs ++ ws) k (pos 0) ∙ get_or-append cs ws (pos 0) k h

regroup : (us cs ws : List ℤ) (n : ℕ) → length cs ≡ zone_words → list_at ((us ++ cs) ++ ws) (length (us ++ cs)) n ≡ list_at (us ++ (cs ++ ws)) (length us + zone_words) n
regroup us cs ws n h = let e : length (us ++ cs) ≡ length us + zone_words = omega (arith, length-append us cs) in let a = append_assoc us cs ws in cc

list_words_at : (us : List ℤ) (L : List Zone) → list_at (us ++ words L) (length us) (length L) ≡ L
unfolding words list_at
list_words_at us [] = refl
list_words_at us (z ∷ L) =
    let first = zone_of_codes (us ++ (codes z ++ words L)) (length us) z (front_at us (codes z) (words L)) in
    let rest = sym (regroup us (codes z) (words L) (length L) refl) ∙ list_words_at (us ++ codes z) L in
    cc

-- The words of zones are read back as those zones.
pub list_words : (L : List Zone) → list_at (words L) 0 (length L) ≡ L
list_words L = list_words_at [] L
