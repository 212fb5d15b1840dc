-- What follows of the ends of some stretches by their meaning: there is one answer, it is none exactly where there is no stretch, and it goes by
-- the stretches alone.
use Rattle.std.specs.Prelude.{Option, Some, None}
use mathlib.Core.Path.{◌≡◌, refl, ap}
use mathlib.Core.Logic.{◌↔◌}
use Prim.Native.Nat.{ℕ, ◌+◌, ◌≤◌, ◌<◌}
use native.Mathlib.Decide.{dec_le}
use native.Mathlib.Nat.{mul-le-mul_right}
use native.Mathlib.Omega.{arith}
use Rattle.limit.specs.Time.{Time, origin, at_tick, ◌≤ᵀ◌, ◌<ᵀ◌}
use Rattle.limit.proofs.Strict.{not_both, ≤-<-trans, tick-<}
use Rattle.extremes.specs.Ends.{Extreme, Reached, Unreached, tick_of, Ends, At, EndBetween, EndsAs, EndsAs.none, EndsAs.some}

one : Time
one = at_tick 1

one_some : origin <ᵀ one
unfolding one
one_some = record { lt = omega arith }

module _ (Fits : Time → Type 0) where
  -- at an end there is a stretch, ending less than a tick from it
  near : (a : Extreme) → At Fits a → (y : Time) × Fits y × (y <ᵀ at_tick (tick_of a + 1)) × ((n : ℕ) → n < tick_of a → at_tick n <ᵀ y)
  unfolding one
  near (Reached v) h = (at_tick v, h, record { lt = omega arith }, λ n k. record { lt = omega arith })
  near (Unreached v) h =
      let c = h.0 one one_some in
      (c.0, c.1, record { lt = omega (arith, c.2.not_after.lt) }, λ n k. record { lt = omega (arith, mul-le-mul_right c.0.den k, c.2.not_before.lt) })

  -- ends at the same tick are the same
  at_same : (a b : Extreme) → At Fits a → At Fits b → tick_of a ≡ tick_of b → a ≡ b
  at_same (Reached v) (Reached w) h k e = ap Reached e
  at_same (Unreached v) (Unreached w) h k e = ap Unreached e
  at_same (Reached v) (Unreached w) h k e = absurd (k.1 (at_tick v) (record { same = omega arith }) h)
  at_same (Unreached v) (Reached w) h k e = absurd (h.1 (at_tick w) (record { same = omega arith }) k)

  -- an end is no later than one that all stretches end from on, and no earlier than one that all end up to
  no_later : (a b c : Extreme) → At Fits a → EndBetween Fits b c → tick_of b ≤ tick_of a
  no_later a b c h l = let x = near a h in let p = tick-< (≤-<-trans (l x.0 x.1).0 x.2) in omega arith

  no_earlier : (a b c : Extreme) → At Fits a → EndBetween Fits b c → tick_of a ≤ tick_of c
  no_earlier a b c h l = elim (dec_le (tick_of a) (tick_of c)) [
    | yes p ↦ p
    | no p ↦ let x = near a h in absurd (not_both (x.3 (tick_of c) (omega arith)) (l x.0 x.1).1)
  ]

  -- Theorem: no two answers meet what is asked.
  pub ends_unique : (p q : Option Ends) → EndsAs Fits p → EndsAs Fits q → p ≡ q
  ends_unique _ _ (none f) (none g) = refl
  ends_unique _ _ (none f) (some {earliest = a} h k l) = let c = near a h in absurd (f c.0 c.1)
  ends_unique _ _ (some {earliest = a} h k l) (none g) = let c = near a h in absurd (g c.0 c.1)
  ends_unique _ _ (some {earliest = a} {latest = b} h k l) (some {earliest = c} {latest = d} m n o) =
      let s = no_later a c d h o in
      let t = no_later c a b m l in
      let u = no_earlier b c d k o in
      let v = no_earlier d a b n l in
      let e : a ≡ c = at_same a c h m (omega arith) in
      let f : b ≡ d = at_same b d k n (omega arith) in
      cc

  -- Theorem: "None" is given exactly if no stretch fits.
  pub ends_none : (p : Option Ends) → EndsAs Fits p → (p ≡ None) ↔ ((y : Time) → ¬ Fits y)
  ends_none _ (none f) = (λ _. f, λ _. refl)
  ends_none _ (some {earliest = a} h k l) = (λ e. let z : ◌≡◌ {A = ℕ} 0 1 = cc in absurd (omega arith), λ f. let c = near a h in absurd (f c.0 c.1))

  -- Both ends are no later than a tick that every stretch ends up to.
  pub ends_within : {a b : Extreme} (d : ℕ) → ((y : Time) → Fits y → y ≤ᵀ at_tick d) → EndsAs Fits (Some (record { earliest = a; latest = b })) → (tick_of a ≤ d) × (tick_of b ≤ d)
  ends_within d f (some {earliest = a} {latest = b} h k l) =
      let until : EndBetween Fits (Reached 0) (Reached d) = λ y i. (record { le = omega arith }, f y i) in (no_earlier a (Reached 0) (Reached d) h until, no_earlier b (Reached 0) (Reached d) k until)

-- The same stretches have the same ends.
module _ {F G : Time → Type 0} (same : (y : Time) → F y ↔ G y) where
  at_alike : (a : Extreme) → At F a → At G a
  at_alike (Reached v) h = (same (at_tick v)).0 h
  at_alike (Unreached v) h = (λ e p. let c = h.0 e p in (c.0, (same c.0).0 c.1, c.2), λ y e g. h.1 y e ((same y).1 g))

  pub ends_alike : {p : Option Ends} → EndsAs F p → EndsAs G p
  ends_alike (none f) = none (λ y g. f y ((same y).1 g))
  ends_alike (some {earliest = a} {latest = b} h k l) = some (at_alike a h) (at_alike b k) (λ y g. l y ((same y).1 g))
