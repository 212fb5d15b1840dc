-- Document 02, CR 9: "the earliest and the latest end of all fitting stretches that start at s, each with reached or not reached". `Fits y` says that
-- the stretch from s to y fits; which stretches these are is said by whoever asks. No zone is named here.
use Rattle.std.specs.Prelude.{ℕ, ◌+◌, ◌*◌, Option, Some, None}
use Rattle.std.proofs.Common.{mul-pos}
use Rattle.limit.specs.Time.{Time, origin, at_tick, ◌≤ᵀ◌, ◌<ᵀ◌, ◌≈ᵀ◌}
pub use Rattle.extremes.specs.declared.Extreme.{Extreme}
pub use Rattle.extremes.specs.declared.Extreme.TheVariants.{Reached, Unreached}
pub use Rattle.extremes.specs.declared.Ends.{Ends}

-- its tick
abbrev pub tick_of : Extreme → ℕ
tick_of (Reached v) = v
tick_of (Unreached v) = v

-- the sum of two times
abbrev pub plus : Time → Time → Time
plus x y = record { num = x.num * y.den + y.num * x.den; den = x.den * y.den; some = mul-pos x.some y.some }

-- x and y are closer to each other than e
pub record Closer (e x y : Time) : Type 0 where
  pub not_before : x <ᵀ plus y e
  pub not_after : y <ᵀ plus x e

module _ (Fits : Time → Type 0) where
  -- "A reached end belongs to a fitting stretch from s; for one not reached there are fitting stretches from s ending closer to it than any
  -- fraction above 0, and none from s at it"
  abbrev pub At : Extreme → Type 0
  At (Reached v) = Fits (at_tick v)
  At (Unreached v) = ((e : Time) → origin <ᵀ e → (y : Time) × Fits y × Closer e (at_tick v) y) × ((y : Time) → y ≈ᵀ at_tick v → ¬ Fits y)

  -- "None from s ends before the earliest or after the latest"
  abbrev pub EndBetween : Extreme → Extreme → Type 0
  EndBetween earliest latest = (y : Time) → Fits y → (at_tick (tick_of earliest) ≤ᵀ y) × (y ≤ᵀ at_tick (tick_of latest))

  -- "None" is given exactly if no stretch from s fits; else there are both ends
  pub data EndsAs : Option Ends → Type 0 where
    none : ((y : Time) → ¬ Fits y) → EndsAs None
    some : {earliest latest : Extreme} → At earliest → At latest → EndBetween earliest latest → EndsAs (Some (record { earliest = earliest; latest = latest }))
