-- An expression comes to one value, and to some value; its list is well formed.
use Rattle.std.specs.Prelude.{Option, Some}
use mathlib.Core.Path.{◌≡◌, refl, sym, subst, ◌∙◌, ap}
use mathlib.Core.List.Memᴰ
use mathlib.Core.List.Memᴰ.{eq_of_singleton}
use mathlib.Core.List.{List, [], ◌∷◌}
use Prim.Native.Nat.{ℕ, ◌+◌, ◌≤◌, ◌<◌}
use native.Mathlib.Omega.{arith}
use Rattle.zone.specs.declared.Zone.{Zone}
use Rattle.zone.specs.Zone.{Proper, run, diagonal}
use Rattle.zone.proofs.Laws.{proper_run, proper_within, proper_diagonal}
use Rattle.list.specs.Insert as puts
use Rattle.list.specs.Insert.{Built, listed, insert_each}
use Rattle.operators.specs.Operators.{union as unite, meets, compositions, banded}
use Rattle.absence.specs.Absence.{absent}
use Rattle.purse.proofs.Values.{begun_with}
use Rattle.list.proofs.Theorems.{WellFormed, built_well}
use Rattle.operators.proofs.Theorems.{union_well, meets_well, compositions_well, banded_well}
use Rattle.absence.proofs.Theorems.{absent_well}
use Rattle.star.proofs.Theorems.{star_well, star_unique, star_exists}
use Rattle.runs.specs.declared.Level.{Level}
use Rattle.runs.specs.declared.Run.{Run}
use Rattle.runs.specs.declared.Level.TheVariants as level
use Rattle.runs.specs.Search.{other}
use Rattle.runs.specs.Runs.{Runs}
use Rattle.runs.specs.Events.{Events}
use Rattle.runs.proofs.Runs.{runs_unique, Complete}
use Rattle.runs.proofs.Events.{events_unique}
use Rattle.expression.specs.declared.Sign.TheVariants.{High, Low, Rise, Fall}
use Rattle.expression.specs.declared.Join.TheVariants.{Union, Intersection, Concatenation}
use Rattle.expression.specs.declared.Unary.TheVariants.{Star, Band, Absence}
use Rattle.expression.specs.Expression.{Expression, epsilon, literal, join, unary}
use Rattle.meaning.specs.Lists.{Value, value, overflow, begun, with_rounds, ended, Then, Then.goes, Then.stops, Both, run_zones, Letter, moment_zone, moment_zones, Moments, range_band, join_list, Evaluates}

-- levels of finite variability on ticks from..to: those of each channel and level make a list of maximal runs, and one of the events where
-- the channel leaves the level
pub record FiniteVariability (Shows : ℕ → Level → ℕ → Type 0) (from to : ℕ) : Type 0 where
  pub runs : (k : ℕ) (level : Level) → (rs : List Run) × Complete (Shows k level) from to rs
  pub events : (k : ℕ) (level : Level) → (ss : List ℕ) × Events (Shows k level) (Shows k (other level)) from to ss

-- ---- one value

-- the relation holds of no two values
abbrev pub One : (Value → Type 0) → Type 0
One P = (v w : Value) → P v → P w → v ≡ w

pub clash : {A : Type 0} {L : List Zone} {r b f : ℕ} → value L r ≡ overflow b f → A
clash e = let z : ◌≡◌ {A = ℕ} 0 1 = cc in absurd (omega arith)

then_one : {operand : Value → Type 0} {next : List Zone → Value → Type 0} → One operand → ((A : List Zone) → One (next A))
    → One (Then operand next)
then_one {next = next} one ones v w (goes {A} {r} {w = x} p f h) (goes {A = B} {r = s} {w = y} q g k) =
    let e : value A r ≡ value B s = one _ _ p q in
    let a : A ≡ B = cc in
    let b : r ≡ s = cc in
    let c : x ≡ y = ones B x y (subst (λ (L : List Zone). next L x) a f) g in
    h ∙ (λ i. with_rounds (b i) (c i)) ∙ sym k
then_one one ones v w (goes p f h) (stops q) = clash (one _ _ p q)
then_one one ones v w (stops p) (goes q g h) = clash (one _ _ q p)
then_one one ones v w (stops p) (stops q) = one _ _ p q

both_one : (build : List Zone → List Zone → Built) {left right : Value → Type 0} → One left → One right → One (Both build left right)
both_one build l r = then_one l (λ A. then_one r (λ B v w p q. p ∙ sym q))

letter_one : {P : ℕ → Type 0} {from to : ℕ} → One (Letter P from to)
letter_one v w p q = p.built ∙ ap (λ (rs : List Run). ended (insert_each (run_zones rs) [])) (runs_unique p.maximal q.maximal) ∙ sym q.built

moments_one : {P Q : ℕ → Type 0} {from to : ℕ} → One (Moments P Q from to)
moments_one v w p q =
    p.built ∙ ap (λ (ss : List ℕ). ended (insert_each (moment_zones ss) [])) (events_unique p.events q.events) ∙ sym q.built

module _ (Shows : ℕ → Level → ℕ → Type 0) (from to : ℕ) where
  -- An expression comes to no two values: recording and drill alone decide the lists and the rounds.
  pub evaluates_unique : (e : Expression) (v w : Value) → Evaluates Shows from to e v → Evaluates Shows from to e w → v ≡ w
  evaluates_unique epsilon v w p q = p ∙ sym q
  evaluates_unique (literal High k) v w p q = letter_one v w p q
  evaluates_unique (literal Low k) v w p q = letter_one v w p q
  evaluates_unique (literal Rise k) v w p q = moments_one v w p q
  evaluates_unique (literal Fall k) v w p q = moments_one v w p q
  evaluates_unique (join j e f) v w p q = both_one (join_list j) (evaluates_unique e) (evaluates_unique f) v w p q
  evaluates_unique (unary Star e) v w p q = then_one (evaluates_unique e) (λ A a b m n. star_unique m n) v w p q
  evaluates_unique (unary (Band r) e) v w p q = then_one (evaluates_unique e) (λ A a b m n. m ∙ sym n) v w p q
  evaluates_unique (unary Absence e) v w p q = then_one (evaluates_unique e) (λ A a b m n. m ∙ sym n) v w p q

-- ---- the list is well formed

-- a list that came out was built, without rounds
pub listed_of : (b : Built) {L : List Zone} {r : ℕ} → value L r ≡ ended b → (b ≡ listed L) × (r ≡ 0)
listed_of (listed M) e = (cc, cc)
listed_of puts.overflow e = clash e

-- an operand with a list, and what came of it, the operand's rounds coming first
pub then_parts : {operand : Value → Type 0} {next : List Zone → Value → Type 0} {L : List Zone} {t : ℕ} → Then operand next (value L t)
    → (A : List Zone) × (r : ℕ) × (s : ℕ) × operand (value A r) × next A (value L s) × (t ≡ r + s)
then_parts {operand} {next} {L} {t} (goes {A} {r} {w = w} p f h) = go w f h
  where
    go : (w : Value) → next A w → value L t ≡ with_rounds r w → (A : List Zone) × (r : ℕ) × (s : ℕ) × operand (value A r) × next A (value L s) × (t ≡ r + s)
    go (value M s) f h = let q : M ≡ L = cc in (A, r, s, p, subst (λ (K : List Zone). next A (value K s)) q f, cc)
    go (overflow b g) f h = clash h

-- two operands with their lists and rounds, and what was built of them
pub record Parts (build : List Zone → List Zone → Built) (left right : Value → Type 0) (L : List Zone) (t : ℕ) : Type 0 where
  pub one : List Zone
  pub two : List Zone
  pub rounds_one : ℕ
  pub rounds_two : ℕ
  pub first : left (value one rounds_one)
  pub second : right (value two rounds_two)
  pub built : build one two ≡ listed L
  pub total : t ≡ rounds_one + rounds_two

pub both_parts : (build : List Zone → List Zone → Built) {left right : Value → Type 0} {L : List Zone} {t : ℕ} → Both build left right (value L t)
    → Parts build left right L t
both_parts build p =
    let a = then_parts p in
    let b = then_parts a.4 in
    let c = listed_of (build a.0 b.0) b.4 in
    record {
      one = a.0;
      two = b.0;
      rounds_one = a.1;
      rounds_two = b.1;
      first = a.3;
      second = b.3;
      built = c.0;
      total = let h = a.5 in let k = b.5 in let n = c.1 in omega arith;
    }

-- the runs of a letter, and the list that was built of them
pub letter_parts : {P : ℕ → Type 0} {from to : ℕ} {L : List Zone} {t : ℕ} → Letter P from to (value L t)
    → (rs : List Run) × Runs P from to rs × (insert_each (run_zones rs) [] ≡ listed L) × (t ≡ 0)
letter_parts p = let q = listed_of (insert_each (run_zones p.runs) []) p.built in (p.runs, p.maximal, q.0, q.1)

-- the events, and the list that was built of them
pub moments_parts : {P Q : ℕ → Type 0} {from to : ℕ} {L : List Zone} {t : ℕ} → Moments P Q from to (value L t)
    → (ss : List ℕ) × Events P Q from to ss × (insert_each (moment_zones ss) [] ≡ listed L) × (t ≡ 0)
moments_parts p = let q = listed_of (insert_each (moment_zones p.at) []) p.built in (p.at, p.events, q.0, q.1)

zone_same : {z w : Zone} → ◌≡◌ {A = Option Zone} (Some z) (Some w) → z ≡ w
zone_same e = cc

module _ (Shows : ℕ → Level → ℕ → Type 0) {from to : ℕ} (order : from ≤ to) where
  letter_well : {P : ℕ → Type 0} {L : List Zone} {t : ℕ} → Letter P from to (value L t) → WellFormed from to L
  letter_well p =
      let q = letter_parts p in
      built_well (run_zones q.0) q.2
      (λ z m. let k = Memᴰ.of_map (λ (r : Run). Some (run r.start r.end)) q.0 m in
      let x = q.1.each k.0 k.1 in
      subst (Proper from to) (zone_same k.2) (proper_run k.0.start k.0.end x.lower x.some x.upper))

  moments_well : {P Q : ℕ → Type 0} {L : List Zone} {t : ℕ} → Moments P Q from to (value L t) → WellFormed from to L
  moments_well p =
      let q = moments_parts p in
      built_well (moment_zones q.0) q.2
      (λ z m. let k = Memᴰ.of_map (λ (s : ℕ). Some (moment_zone s)) q.0 m in
      let x = q.1.each k.0 k.1 in
      subst (Proper from to) (zone_same k.2) (proper_within x.0 x.1 (proper_diagonal k.0 k.0 (omega arith))))

  -- The list of an expression holds tight zones inside from..to, none inside another, at most 128.
  pub evaluates_well : (e : Expression) (t : ℕ) {L : List Zone} → Evaluates Shows from to e (value L t) → WellFormed from to L
  evaluates_well epsilon t p =
      built_well (Some (diagonal from to) ∷ []) (listed_of (insert_each (Some (diagonal from to) ∷ []) []) p).0
      (λ z m. subst (Proper from to) (sym (zone_same (eq_of_singleton m))) (proper_diagonal from to order))
  evaluates_well (literal High k) t p = letter_well p
  evaluates_well (literal Low k) t p = letter_well p
  evaluates_well (literal Rise k) t p = moments_well p
  evaluates_well (literal Fall k) t p = moments_well p
  evaluates_well (join Union e f) t p =
      let q = both_parts unite p in union_well q.one q.two (evaluates_well e _ q.first).proper (evaluates_well f _ q.second).proper q.built
  evaluates_well (join Intersection e f) t p =
      let q = both_parts meets p in meets_well q.one q.two (evaluates_well e _ q.first).proper q.built
  evaluates_well (join Concatenation e f) t p =
      let q = both_parts compositions p in
      compositions_well q.one q.two (evaluates_well e _ q.first).proper (evaluates_well f _ q.second).proper q.built
  evaluates_well (unary Star e) t p =
      let q = then_parts p in star_well q.4 order (evaluates_well e _ q.3)
  evaluates_well (unary (Band r) e) t p =
      let q = then_parts p in
      banded_well (range_band from to r) q.0 (evaluates_well e _ q.3).proper (listed_of (banded (range_band from to r) q.0) q.4).0
  evaluates_well (unary Absence e) t p =
      let q = then_parts p in absent_well from to q.0 (listed_of (absent from to q.0) q.4).0 order

-- ---- some value

-- the relation holds of some value
abbrev pub HasValue : (Value → Type 0) → Type 0
HasValue P = (v : Value) × P v

pub then_some : {operand : Value → Type 0} {next : List Zone → Value → Type 0} → HasValue operand
    → ((A : List Zone) (r : ℕ) → operand (value A r) → HasValue (next A)) → HasValue (Then operand next)
then_some {operand} {next} p f = go p.0 p.1
  where
    go : (v : Value) → operand v → HasValue (Then operand next)
    go (value A r) q = let n = f A r q in (with_rounds r n.0, goes q n.1 refl)
    go (overflow b g) q = (overflow b g, stops q)

both_some : (build : List Zone → List Zone → Built) {left right : Value → Type 0} → HasValue left → HasValue right → HasValue (Both build left right)
both_some build l r = then_some l (λ A m _. then_some r (λ B n _. (ended (build A B), refl)))

module _ {Shows : ℕ → Level → ℕ → Type 0} {from to : ℕ} (finite : FiniteVariability Shows from to) (some : from < to) where
  letter_some : (k : ℕ) (level : Level) → HasValue (Letter (Shows k level) from to)
  letter_some k level = let r = finite.runs k level in (ended (insert_each (run_zones r.0) []), record { runs = r.0; maximal = r.1.runs; built = refl })

  moments_some : (k : ℕ) (level : Level) → HasValue (Moments (Shows k level) (Shows k (other level)) from to)
  moments_some k level = let e = finite.events k level in (ended (insert_each (moment_zones e.0) []), record { at = e.0; events = e.1; built = refl })

  -- An expression comes to some value: every repetition ends.
  pub evaluates_exists : (e : Expression) → (v : Value) × Evaluates Shows from to e v
  evaluates_exists epsilon = (ended (insert_each (Some (diagonal from to) ∷ []) []), refl)
  evaluates_exists (literal High k) = letter_some k level.High
  evaluates_exists (literal Low k) = letter_some k level.Low
  evaluates_exists (literal Rise k) = moments_some k level.Low
  evaluates_exists (literal Fall k) = moments_some k level.High
  evaluates_exists (join j e f) = both_some (join_list j) (evaluates_exists e) (evaluates_exists f)
  evaluates_exists (unary Star e) =
      then_some (evaluates_exists e)
      (λ A r p. star_exists (evaluates_well Shows (omega arith) e r p).proper some (diagonal from to))
  evaluates_exists (unary (Band r) e) = then_some (evaluates_exists e) (λ A s _. (ended (banded (range_band from to r) A), refl))
  evaluates_exists (unary Absence e) = then_some (evaluates_exists e) (λ A s _. (ended (absent from to A), refl))

-- ---- the rounds begun

-- what comes of an operand begins no fewer rounds than the operand
pub then_begun : {operand : Value → Type 0} {next : List Zone → Value → Type 0} → One operand → {u v : Value} → operand u → Then operand next v → begun u ≤ begun v
then_begun one p (goes {A} {r} {w} q f h) = let a = ap begun (one _ _ p q) in let b = ap begun h in let c = begun_with r w in omega arith
then_begun one p (stops q) = let a = ap begun (one _ _ p q) in omega arith
