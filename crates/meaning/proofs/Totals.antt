-- The rounds of each `*` written in an expression: their bound, their sum, and the pieces of a repetition.
use Rattle.std.specs.Prelude.{Some}
use mathlib.Core.Path.{◌≡◌, refl, sym, subst, ap}
use mathlib.Core.List.Memᴰ.{not-nil}
use mathlib.Core.List.{List, [], ◌∷◌, ◌++◌, Memᴰ}
use Prim.Native.Nat.{ℕ, suc, ◌+◌, ◌-◌, ◌*◌, ◌^◌, ◌≤◌, ◌<◌, max}
use native.Mathlib.Nat.{pow-suc, pow-le-pow_right, mul-le-mul_right, le_trans}
use native.Mathlib.Omega.{arith}
use lib.ListN.{length, length-append}
use Rattle.limit.specs.Time.{Time}
use Rattle.zone.specs.declared.Zone.{Zone}
use Rattle.zone.specs.Zone.{diagonal}
use Rattle.list.specs.Insert as puts
use Rattle.list.specs.Insert.{capacity, Built, listed, insert_each}
use Rattle.operators.specs.Operators.{banded}
use Rattle.absence.specs.Absence.{absent}
use Rattle.purse.proofs.Values.{begun_with, spent_with}
use Rattle.star.specs.Star.{Star as Stars}
use Rattle.star.specs.Pieces.{Pieces}
use Rattle.star.proofs.Theorems.{star_lies, star_unique, star_bound, star_begun, star_almost, star_pieces}
use Rattle.runs.specs.declared.Level.{Level}
use Rattle.expression.specs.declared.Sign.TheVariants.{High, Low, Rise, Fall}
use Rattle.expression.specs.declared.Unary.TheVariants.{Star, Band, Absence}
use Rattle.expression.specs.Expression.{Expression, epsilon, literal, join, unary, depth}
use Rattle.meaning.specs.Fits.{FitsOn}
use Rattle.meaning.specs.Lists.{Value, value, overflow, begun, spent, ended, Then, Then.goes, Then.stops, Both, range_band, join_list, Evaluates, run_zones, moment_zones, repeated, RoundsOf, Sum, Sum.none, Sum.also}
use Rattle.meaning.proofs.Evaluation.{FiniteVariability, listed_of, letter_parts, moments_parts, then_parts, both_parts, evaluates_unique, evaluates_well}
use Rattle.meaning.proofs.Members.{pieces_map, fits_members, pieces_members}

-- ---- sums

module _ {P : Expression → ℕ → Type 0} where
  pub sum_append : {fs gs : List Expression} {m n : ℕ} → Sum P fs m → Sum P gs n → Sum P (fs ++ gs) (m + n)
  sum_append {gs = gs} {n = n} none t = subst (Sum P gs) (omega arith) t
  sum_append {gs = gs} {n = n} (also {fs = fs} {k = k} {n = m} p s) t = subst (Sum P _) (omega arith) (also p (sum_append s t))

  -- each of them has its number
  pub sum_mem : {f : Expression} {fs : List Expression} {n : ℕ} → Sum P fs n → Memᴰ f fs → (k : ℕ) × P f k
  sum_mem none m = absurd (not-nil m)
  sum_mem (also {k = k} p s) (Memᴰ.head e) = (k, subst (λ (g : Expression). P g k) (sym e) p)
  sum_mem (also p s) (Memᴰ.tail m) = sum_mem s m

  -- where each has one number, there is one sum
  pub sum_unique : ((f : Expression) (k l : ℕ) → P f k → P f l → k ≡ l) → {fs : List Expression} {m n : ℕ} → Sum P fs m → Sum P fs n → m ≡ n
  sum_unique one none none = refl
  sum_unique one (also {f = f} p s) (also q t) = let a = one f _ _ p q in let b = sum_unique one s t in omega arith

-- an operator that is built without rounds has those of its operand
then_built : (build : List Zone → Built) {operand : Value → Type 0} {P : ℕ → Type 0} → ((A : List Zone) (n : ℕ) → operand (value A n) → P n)
    → {L : List Zone} {t : ℕ} → Then operand (λ A w. w ≡ ended (build A)) (value L t) → P t
then_built build {P = P} below p =
    let q = then_parts p in
    let n = (listed_of (build q.0) q.4).1 in
    subst P (let h = q.5 in omega arith) (below q.0 q.1 q.3)

module _ (Shows : ℕ → Level → ℕ → Type 0) {from to : ℕ} where
  -- A `*` has one number of rounds.
  pub rounds_of_unique : (f : Expression) (k l : ℕ) → RoundsOf Shows from to f k → RoundsOf Shows from to f l → k ≡ l
  rounds_of_unique f k l p q =
      let e = evaluates_unique Shows from to f _ _ p.list q.list in
      let i : p.inner ≡ q.inner = cc in
      let s = star_unique (subst (λ (A : List Zone). Stars A (diagonal from to) (value p.outer k)) i p.star) q.star in
      cc

  -- The total of rounds is the sum of the rounds of every `*` written, 0 where there is none.
  pub evaluates_sum : (e : Expression) (L : List Zone) (t : ℕ) → Evaluates Shows from to e (value L t) → Sum (RoundsOf Shows from to) (repeated e) t
  unfolding repeated
  evaluates_sum epsilon L t p = rw (listed_of (insert_each (Some (diagonal from to) ∷ []) []) p).1 none
  evaluates_sum (literal High k) L t p = rw (letter_parts p).3 none
  evaluates_sum (literal Low k) L t p = rw (letter_parts p).3 none
  evaluates_sum (literal Rise k) L t p = rw (moments_parts p).3 none
  evaluates_sum (literal Fall k) L t p = rw (moments_parts p).3 none
  evaluates_sum (join j e f) L t p =
      let q = both_parts (join_list j) p in rw q.total (sum_append (evaluates_sum e _ _ q.first) (evaluates_sum f _ _ q.second))
  evaluates_sum (unary Star e) L t p =
      let q = then_parts p in
      let w : RoundsOf Shows from to e q.2 = record { inner = q.0; before = q.1; list = q.3; outer = L; star = q.4 } in
      subst (Sum (RoundsOf Shows from to) (e ∷ repeated e)) (let h = q.5 in omega arith) (also w (evaluates_sum e _ _ q.3))
  evaluates_sum (unary (Band r) e) L t p = then_built (λ A. banded (range_band from to r) A) (λ A n. evaluates_sum e A n) p
  evaluates_sum (unary Absence e) L t p = then_built (λ A. absent from to A) (λ A n. evaluates_sum e A n) p

-- ---- one repetition

module _ (Shows : ℕ → Level → ℕ → Type 0) {from to : ℕ} (some : from < to) where
  -- Its rounds, the last included, are at most n + (to − from), n the number of zones of the finished inner list.
  pub rounds_of_bound : {f : Expression} {k : ℕ} (w : RoundsOf Shows from to f k) → k ≤ length w.inner + (to - from)
  rounds_of_bound {f} w = star_bound (evaluates_well Shows (omega arith) f _ w.list).proper some w.star

  -- Every stretch that fits it is cut into at most so many consecutive pieces that each fit the part repeated.
  pub rounds_of_pieces : FiniteVariability Shows from to → {f : Expression} {k : ℕ} (w : RoundsOf Shows from to f k)
      → (x y : Time) → FitsOn Shows from to (unary Star f) x y
      → (n : ℕ) × (n ≤ length w.inner + (to - from)) × Pieces (FitsOn Shows from to f) n x y
  rounds_of_pieces finite {f} w x y h =
      let order : from ≤ to = omega arith in
      let s = h.0 in
      let m = h.1 in
      let a = (evaluates_well Shows order f _ w.list).proper in
      let l = (star_lies w.star a x y s.0 s.2).1 (m.0, (pieces_members Shows finite order f _ w.list s m.0).1 m.1) in
      let c = star_pieces a some w.star x y l in
      (c.0, c.1, pieces_map (λ u v i. (fits_members Shows finite order f _ w.list u v).0 i) c.2)

-- ---- a bound on the total

-- fewer than 2 to the power of its depth in each operand, and in both together with one more
few : (m n a b : ℕ) → m < 2 ^ a → n < 2 ^ b → m + n + 1 < 2 ^ suc (max a b)
few m n a b p q =
    let h = pow-le-pow_right {n = 2} (omega arith) {i = a} {j = max a b} (omega arith) in
    let k = pow-le-pow_right {n = 2} (omega arith) {i = b} {j = max a b} (omega arith) in
    rw pow-suc (omega arith)

both_few : (e f : Expression) → length (repeated e) < 2 ^ depth e → length (repeated f) < 2 ^ depth f
    → length (repeated e ++ repeated f) < 2 ^ suc (max (depth e) (depth f))
both_few e f p q = omega (arith, length-append (repeated e) (repeated f), few (length (repeated e)) (length (repeated f)) (depth e) (depth f) p q)

one_few : (e : Expression) → length (repeated e) < 2 ^ depth e → suc (length (repeated e)) < 2 ^ suc (depth e)
one_few e p = rw pow-suc (omega arith)

-- An expression has fewer `*` than 2 to the power of its depth.
pub repeated_few : (e : Expression) → length (repeated e) < 2 ^ depth e
unfolding repeated depth
repeated_few epsilon = omega arith
repeated_few (literal s k) = omega arith
repeated_few (join j e f) = both_few e f (repeated_few e) (repeated_few f)
repeated_few (unary Star e) = one_few e (repeated_few e)
repeated_few (unary (Band r) e) = let h = one_few e (repeated_few e) in omega arith
repeated_few (unary Absence e) = let h = one_few e (repeated_few e) in omega arith

-- ---- the rounds begun

-- a list that is built without rounds begins none
built_begun : {v : Value} (b : Built) → v ≡ ended b → begun v ≡ 0
built_begun (listed L) e = ap begun e
built_begun puts.overflow e = ap begun e

-- where the operand begins at most m rounds, and what comes of a list of it at most n, the whole begins at most both
then_few : {operand : Value → Type 0} {next : List Zone → Value → Type 0} {m n : ℕ} → ((v : Value) → operand v → begun v ≤ m)
    → ((A : List Zone) (r : ℕ) → operand (value A r) → (w : Value) → next A w → begun w ≤ n) → (v : Value) → Then operand next v → begun v ≤ m + n
then_few few fewer v (goes {A} {r} {w} p f h) =
    let a = few (value A r) p in let b = fewer A r p w f in let c = ap begun h in let d = begun_with r w in omega arith
then_few few fewer _ (stops {b} {f} p) = let a = few (overflow b f) p in omega arith

-- all rounds begun are finished, but one at most
abbrev Almost : Value → Type 0
Almost v = begun v ≤ suc (spent v)

built_almost : {v : Value} (b : Built) → v ≡ ended b → Almost v
built_almost b e = let h = built_begun b e in omega arith

then_almost : {operand : Value → Type 0} {next : List Zone → Value → Type 0} → ((v : Value) → operand v → Almost v)
    → ((A : List Zone) (w : Value) → next A w → Almost w) → (v : Value) → Then operand next v → Almost v
then_almost one other v (goes {A} {r} {w} p f h) =
    let a = other A w f in let b = ap begun h in let c = ap spent h in let d = begun_with r w in let e = spent_with r w in omega arith
then_almost one other _ (stops {b} {f} p) = one (overflow b f) p

both_begun : (build : List Zone → List Zone → Built) {left right : Value → Type 0} {m n : ℕ} → ((v : Value) → left v → begun v ≤ m)
    → ((v : Value) → right v → begun v ≤ n) → (v : Value) → Both build left right v → begun v ≤ m + n
both_begun build {n = n} few fewer = then_few few (λ A r _ w p. let a = then_few {n = 0} fewer (λ B s _ u e. let b = built_begun (build A B) e in omega arith) w p in omega arith)

module _ (Shows : ℕ → Level → ℕ → Type 0) (from to : ℕ) where
  -- Of the rounds begun on the way to any value at most one is not finished.
  pub begun_almost : (e : Expression) (v : Value) → Evaluates Shows from to e v → begun v ≤ suc (spent v)
  begun_almost epsilon v p = built_almost (insert_each (Some (diagonal from to) ∷ []) []) p
  begun_almost (literal High k) v p = built_almost (insert_each (run_zones p.runs) []) p.built
  begun_almost (literal Low k) v p = built_almost (insert_each (run_zones p.runs) []) p.built
  begun_almost (literal Rise k) v p = built_almost (insert_each (moment_zones p.at) []) p.built
  begun_almost (literal Fall k) v p = built_almost (insert_each (moment_zones p.at) []) p.built
  begun_almost (join j e f) v p = then_almost (begun_almost e) (λ A. then_almost (begun_almost f) (λ B w q. built_almost (join_list j A B) q)) v p
  begun_almost (unary Star e) v p = then_almost (begun_almost e) (λ A w s. star_almost s) v p
  begun_almost (unary (Band r) e) v p = then_almost (begun_almost e) (λ A w q. built_almost (banded (range_band from to r) A) q) v p
  begun_almost (unary Absence e) v p = then_almost (begun_almost e) (λ A w q. built_almost (absent from to A) q) v p

module _ (Shows : ℕ → Level → ℕ → Type 0) {from to : ℕ} (some : from < to) where
  -- The rounds begun on the way to any value are at most 128 + (to − from) for each `*` written.
  begun_few : (e : Expression) (v : Value) → Evaluates Shows from to e v → begun v ≤ length (repeated e) * (capacity + (to - from))
  unfolding repeated
  begun_few epsilon v p = let b = built_begun (insert_each (Some (diagonal from to) ∷ []) []) p in omega arith
  begun_few (literal High k) v p = let b = built_begun (insert_each (run_zones p.runs) []) p.built in omega arith
  begun_few (literal Low k) v p = let b = built_begun (insert_each (run_zones p.runs) []) p.built in omega arith
  begun_few (literal Rise k) v p = let b = built_begun (insert_each (moment_zones p.at) []) p.built in omega arith
  begun_few (literal Fall k) v p = let b = built_begun (insert_each (moment_zones p.at) []) p.built in omega arith
  begun_few (join j e f) v p = rw (length-append (repeated e) (repeated f)) (omega (arith, both_begun (join_list j) (begun_few e) (begun_few f) v p))
  begun_few (unary Star e) v p = omega (arith, then_few (begun_few e) star_few v p)
    where
      star_few : (A : List Zone) (r : ℕ) → Evaluates Shows from to e (value A r) → (w : Value) → Stars A (diagonal from to) w → begun w ≤ capacity + (to - from)
      star_few A r q w s = let l = evaluates_well Shows (omega arith) e r q in let h = star_begun l.proper some s in omega (arith, l.short)
  begun_few (unary (Band r) e) v p = omega (arith, then_few {n = 0} (begun_few e) (λ A s _ w q. let b = built_begun (banded (range_band from to r) A) q in omega arith) v p)
  begun_few (unary Absence e) v p = omega (arith, then_few {n = 0} (begun_few e) (λ A s _ w q. let b = built_begun (absent from to A) q in omega arith) v p)

  -- So they are at most that for each `*` that an expression of its depth has room for.
  pub rounds_bound : (e : Expression) (v : Value) → Evaluates Shows from to e v → begun v ≤ 2 ^ depth e * (capacity + (to - from))
  rounds_bound e v p =
      let a : length (repeated e) ≤ 2 ^ depth e = let h = repeated_few e in omega arith in
      le_trans (begun_few e v p) (mul-le-mul_right (capacity + (to - from)) a)
