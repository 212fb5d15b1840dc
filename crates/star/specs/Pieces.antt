-- Consecutive pieces of a stretch.
use Rattle.std.specs.Prelude.{ℕ, suc}
use Rattle.limit.specs.Time.{Time, ◌≈ᵀ◌}

-- n consecutive pieces, each of them P: "the first starts at the stretch's start, every other one where the one before it ends, and the last
-- ends at the stretch's end"; no piece at all where start = end
pub data Pieces (P : Time → Time → Type 0) : ℕ → Time → Time → Type 0 where
  none : {x y : Time} → x ≈ᵀ y → Pieces P 0 x y
  more : {n : ℕ} {x t y : Time} → Pieces P n x t → P t y → Pieces P (suc n) x y
