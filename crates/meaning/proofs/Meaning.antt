-- What it means to satisfy an expression: equal times satisfy alike, a satisfying stretch runs forward, a letter is Definition 3's, and an event
-- CR 3's.
use Rattle.std.proofs.Common.{Option, Some, None}
use mathlib.Core.Logic.{◌↔◌, ⊎_map, ⊎_elim}
use mathlib.Core.List.{List}
use Prim.Native.Nat.{ℕ, suc, ◌-◌, ◌<◌}
use native.Mathlib.Omega.{arith}
use Rattle.limit.specs.Time.{Time, at_tick, ◌≤ᵀ◌, ◌<ᵀ◌, ◌≈ᵀ◌}
use Rattle.limit.proofs.Times.{≤_trans, <-≤, ≈-≤, ≈-refl, ≈-sym, ≈-trans, within_same}
use Rattle.star.specs.Pieces.{Pieces, Pieces.none, Pieces.more}
use Rattle.recording.specs.Reading.{ticks}
use Rattle.runs.specs.declared.Level.{Level}
use Rattle.runs.specs.Levels.{Shows}
use Rattle.runs.specs.Events.{Event}
use Rattle.runs.proofs.Events.{event_inside}
use Rattle.expression.specs.declared.End.{End}
use Rattle.expression.specs.declared.Sign.TheVariants.{High, Low, Rise, Fall}
use Rattle.expression.specs.declared.Join.TheVariants.{Union, Intersection, Concatenation}
use Rattle.expression.specs.declared.Unary.TheVariants.{Star, Band, Absence}
use Rattle.expression.specs.Expression.{Expression, epsilon, literal, join, unary}
use Rattle.meaning.specs.Satisfies.{Throughout, Moment, upper_limit, lower_limit, NoLonger, Satisfies}
use Rattle.limit.proofs.Strict.{<-same, <-trans, ≤-<-trans, <-≤-trans, common, tick_next}

-- ---- pieces

module _ {P : Time → Time → Type 0} where
  pub pieces_same : ((x y u v : Time) → x ≈ᵀ u → y ≈ᵀ v → P x y → P u v)
      → {n : ℕ} {x y u v : Time} → x ≈ᵀ u → y ≈ᵀ v → Pieces P n x y → Pieces P n u v
  pieces_same same p q (none e) = none (≈-trans (≈-sym p) (≈-trans e q))
  pieces_same same {y = y} {v = v} p q (more {t = t} ps r) = more (pieces_same same p (≈-refl t) ps) (same t y t v (≈-refl t) q r)

  pub pieces_forward : ((x y : Time) → P x y → x ≤ᵀ y) → {n : ℕ} {x y : Time} → Pieces P n x y → x ≤ᵀ y
  pieces_forward forward (none e) = (≈-≤ e).0
  pieces_forward forward {y = y} (more {t = t} ps r) = ≤_trans (pieces_forward forward ps) (forward t y r)

-- ---- a letter

throughout_same : {P : ℕ → Type 0} {x y u v : Time} → x ≈ᵀ u → y ≈ᵀ v → Throughout P x y → Throughout P u v
throughout_same p q h = record { some = <-same p q h.some; each = λ n a b. h.each n (≤-<-trans (≈-≤ p).0 a) (<-≤-trans b (≈-≤ q).1) }

-- what holds at a time that is strictly inside a tick is what holds of the tick; "Values at the boundary points don't count", so that
-- nothing is asked at a whole tick
abbrev pub At : (ℕ → Type 0) → Time → Type 0
At P t = (n : ℕ) → at_tick n <ᵀ t → t <ᵀ at_tick (suc n) → P n

-- The letter is Definition 3's: start < end, and it holds at every time strictly between.
pub throughout_is : {P : ℕ → Type 0} {x y : Time} → Throughout P x y ↔ ((x <ᵀ y) × ((t : Time) → x <ᵀ t → t <ᵀ y → At P t))
throughout_is = (
  λ h. (h.some, λ t a b n c d. h.each n (<-trans a d) (<-trans c b)),
  λ h. record {
    some = h.0;
    each = λ n a b. let c = common h.0 a b (tick_next n) in h.1 c.0 c.1 c.2 n c.3 c.4;
  },
)

-- ---- an event

moment_same : {P Q : ℕ → Type 0} {x y u v : Time} → x ≈ᵀ u → y ≈ᵀ v → Moment P Q x y → Moment P Q u v
moment_same p q h = record { at = h.at; start = ≈-trans (≈-sym p) h.start; end = ≈-trans (≈-sym q) h.end; event = h.event }

moment_forward : {P Q : ℕ → Type 0} {x y : Time} → Moment P Q x y → x ≤ᵀ y
moment_forward h = (≈-≤ (≈-trans h.start (≈-sym h.end))).0

-- 4/2 and 6/3 are tick 2
pub moment_at_2 : {P Q : ℕ → Type 0} → Event P Q 2 → Moment P Q (record { num = 4; den = 2; some = omega arith }) (record { num = 6; den = 3; some = omega arith })
moment_at_2 e = record { at = 2; start = record { same = omega arith }; end = record { same = omega arith }; event = e }

-- On a recording a moment is as CR 3 says it, for `+` with a low and b high, for `-` the opposite: "the zero-length stretch at a whole tick s,
-- 0 < s < d, where a is low in tick s − 1 and high in tick s".
pub moment_is : (bytes : List ℕ) (channel : ℕ) (a b : Level) {x y : Time} → Moment (Shows bytes channel a) (Shows bytes channel b) x y
    ↔ ((s : ℕ) × (x ≈ᵀ at_tick s) × (y ≈ᵀ at_tick s) × (0 < s) × (s < ticks bytes) × Shows bytes channel a (s - 1) × Shows bytes channel b s)
moment_is bytes channel a b = (
  λ h. let d = event_inside bytes channel a h.event in (h.at, h.start, h.end, d.0, d.1, h.event.was, h.event.is),
  λ h. record { at = h.0; start = h.1; end = h.2; event = record { some = h.3; was = h.5; is = h.6 } },
)

-- ---- expressions

no_longer_same : (hi : Option End) {x y u v : Time} → x ≈ᵀ u → y ≈ᵀ v → NoLonger hi x y → NoLonger hi u v
no_longer_same None p q h = tt
no_longer_same (Some hi) p q h = within_same (upper_limit hi) q p h

module _ (Shows : ℕ → Level → ℕ → Type 0) where
  -- Equal times satisfy alike: 1/1 and 2/2 are one time everywhere.
  pub satisfies_same : (e : Expression) (x y u v : Time) → x ≈ᵀ u → y ≈ᵀ v → Satisfies Shows e x y → Satisfies Shows e u v
  satisfies_same epsilon x y u v p q h = ≈-trans (≈-sym p) (≈-trans h q)
  satisfies_same (literal High k) x y u v p q h = throughout_same p q h
  satisfies_same (literal Low k) x y u v p q h = throughout_same p q h
  satisfies_same (literal Rise k) x y u v p q h = moment_same p q h
  satisfies_same (literal Fall k) x y u v p q h = moment_same p q h
  satisfies_same (join Union e f) x y u v p q h = ⊎_map (satisfies_same e x y u v p q) (satisfies_same f x y u v p q) h
  satisfies_same (join Intersection e f) x y u v p q h = (satisfies_same e x y u v p q h.0, satisfies_same f x y u v p q h.1)
  satisfies_same (join Concatenation e f) x y u v p q h =
      let t = h.0 in
      (t, ≤_trans (≈-≤ p).1 h.1, ≤_trans h.2 (≈-≤ q).0, satisfies_same e x t u t p (≈-refl t) h.3, satisfies_same f t y t v (≈-refl t) q h.4)
  satisfies_same (unary Star e) x y u v p q h = (h.0, pieces_same (satisfies_same e) p q h.1)
  satisfies_same (unary (Band r) e) x y u v p q h =
      (satisfies_same e x y u v p q h.0, (within_same (lower_limit r.lo) p q h.1.0, no_longer_same r.hi p q h.1.1))
  satisfies_same (unary Absence e) x y u v p q h =
      (≤_trans (≈-≤ p).1 (≤_trans h.0 (≈-≤ q).0), λ k. h.1 (satisfies_same e u v x y (≈-sym p) (≈-sym q) k))

  -- A satisfying stretch has start ≤ end.
  pub satisfies_forward : (e : Expression) (x y : Time) → Satisfies Shows e x y → x ≤ᵀ y
  satisfies_forward epsilon x y h = (≈-≤ h).0
  satisfies_forward (literal High k) x y h = <-≤ h.some
  satisfies_forward (literal Low k) x y h = <-≤ h.some
  satisfies_forward (literal Rise k) x y h = moment_forward h
  satisfies_forward (literal Fall k) x y h = moment_forward h
  satisfies_forward (join Union e f) x y h = ⊎_elim (satisfies_forward e x y) (satisfies_forward f x y) h
  satisfies_forward (join Intersection e f) x y h = satisfies_forward e x y h.0
  satisfies_forward (join Concatenation e f) x y h = ≤_trans h.1 h.2
  satisfies_forward (unary Star e) x y h = pieces_forward (satisfies_forward e) h.1
  satisfies_forward (unary (Band r) e) x y h = satisfies_forward e x y h.0
  satisfies_forward (unary Absence e) x y h = h.0
