-- Words kept in locals of the machine.
use mathlib.Core.Path.{◌≡◌, sym, ap, ◌∙◌}
use mathlib.Core.List.{List, [], ◌∷◌}
use Prim.Native.Nat.{ℕ, ◌+◌}
use lib.IntN.{ℤ}
use mir.Syntax.{w32}
use mir.Val.{SFits, to_z, of_z}
use Rattle.signed.proofs.Machine.{back}
use Rattle.words.specs.Words.{word, codes, zone_at, overwrite}
use Rattle.words.proofs.Words.{codes_read}

-- six words that were read, kept in locals and written elsewhere are those of the zone that was read
pub zone_kept : (vs : List ℤ) (at : ℕ) (ws : List ℤ) (i : ℕ)
    → SFits w32 (word ws i) → SFits w32 (word ws (i + 1)) → SFits w32 (word ws (i + 2)) → SFits w32 (word ws (i + 3)) → SFits w32 (word ws (i + 4)) → SFits w32 (word ws (i + 5))
    → overwrite vs at (to_z w32 (of_z w32 (word ws i)) ∷ to_z w32 (of_z w32 (word ws (i + 1))) ∷ to_z w32 (of_z w32 (word ws (i + 2))) ∷ to_z w32 (of_z w32 (word ws (i + 3))) ∷ to_z w32 (of_z w32 (word ws (i + 4))) ∷ to_z w32 (of_z w32 (word ws (i + 5))) ∷ []) ≡ overwrite vs at (codes (zone_at ws i))
zone_kept vs at ws i a b c d e f = (λ k. overwrite vs at (back a k ∷ back b k ∷ back c k ∷ back d k ∷ back e k ∷ back f k ∷ [])) ∙ ap (overwrite vs at) (sym (codes_read ws i))
