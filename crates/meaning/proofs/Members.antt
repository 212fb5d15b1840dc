-- The stretches inside from..to that lie in the list of an expression are those that satisfy it.
use Rattle.std.specs.Prelude.{Option, Some, None}
use mathlib.Core.Path.{◌≡◌, sym, subst}
use mathlib.Core.Logic.Iff
use mathlib.Core.Logic.{◌↔◌, ⊎_map, ⊎_elim}
use mathlib.Core.List.Memᴰ
use mathlib.Core.List.{List, [], ◌∷◌, map, Memᴰ}
use Prim.Native.Nat.{ℕ, suc, ◌≤◌}
use native.Mathlib.Omega.{arith}
use Rattle.limit.specs.Time.{Time, at_tick, ◌≤ᵀ◌, ◌<ᵀ◌, ◌≈ᵀ◌}
use Rattle.zone.specs.declared.Zone.{Zone}
use Rattle.limit.specs.Limit.{Within}
use Rattle.zone.specs.Zone.{In, InMaybe, Stretch, run, diagonal}
use Rattle.limit.proofs.Times.{≤_trans, ≤-total, ≈-≤, ≤-≈, ≈-sym, ≈-trans, tick-≤}
use Rattle.zone.proofs.Laws.{run_members, diagonal_members, band_members, whole_most}
use Rattle.list.specs.Insert.{insert_each}
use Rattle.operators.specs.Operators.{union as unite, meets, compositions, banded}
use Rattle.absence.specs.Absence.{absent}
use Rattle.star.specs.Pieces.{Pieces, Pieces.none, Pieces.more}
use Rattle.list.specs.Members.{Lies, AllProper}
use Rattle.list.proofs.Coverage.{Offered}
use Rattle.list.proofs.Members.{offered_one}
use Rattle.list.proofs.Theorems.{built_lies}
use Rattle.operators.proofs.Theorems.{union_lies, meets_lies, compositions_lies, banded_lies}
use Rattle.absence.proofs.Theorems.{absent_lies}
use Rattle.star.proofs.Theorems.{star_lies}
use Rattle.runs.specs.declared.Level.{Level}
use Rattle.runs.specs.declared.Level.TheVariants as level
use Rattle.runs.specs.declared.Run.{Run}
use Rattle.runs.specs.Events.{Events}
use Rattle.runs.proofs.Runs.{runs_unique, Complete, Held}
use Rattle.expression.specs.declared.Range.{Range}
use Rattle.expression.specs.declared.End.{End}
use Rattle.expression.specs.declared.Sign.TheVariants.{High, Low, Rise, Fall}
use Rattle.expression.specs.declared.Join.TheVariants.{Union, Intersection, Concatenation}
use Rattle.expression.specs.declared.Unary.TheVariants.{Star, Band, Absence}
use Rattle.expression.specs.Expression.{Expression, epsilon, literal, join, unary}
use Rattle.meaning.specs.Satisfies.{Throughout, Moment, lower_limit, NoLonger, Lasts, Satisfies}
use Rattle.meaning.specs.Fits.{FitsOn}
use Rattle.meaning.specs.Lists.{value, run_zones, Letter, moment_zone, moment_zones, Moments, longest, range_band, Evaluates}
use Rattle.limit.proofs.Strict.{≤-<-trans, <-≤-trans, tick-<, tick-≤-back, floor, floor-≤, floor-<}
use Rattle.meaning.proofs.Meaning.{pieces_forward, satisfies_forward}
use Rattle.meaning.proofs.Evaluation.{FiniteVariability, listed_of, then_parts, both_parts, letter_parts, moments_parts, evaluates_well}

-- what lies in a list of proper zones is inside from..to
pub lies_inside : {from to : ℕ} {L : List Zone} {x y : Time} → AllProper from to L → Lies L x y → Stretch from to x y
lies_inside {x = x} {y = y} h l = (h l.in_zone l.among).inside.inside x y l.member

-- what lies in the zones that are put, one of each
offered_map : {A : Type 0} (f : A → Zone) (xs : List A) (x y : Time) → Offered (map (λ a. Some (f a)) xs) x y ↔ ((a : A) × Memᴰ a xs × In (f a) x y)
offered_map f xs x y = (
  λ o. let k = Memᴰ.of_map (λ a. Some (f a)) xs o.1 in (k.0, k.1, subst (λ (z : Option Zone). InMaybe z x y) (sym k.2) o.2),
  λ h. (Some (f h.0), Memᴰ.map (λ a. Some (f a)) h.1, h.2),
)

-- ---- a letter

module _ {P : ℕ → Type 0} {from to : ℕ} (runs : (rs : List Run) × Complete P from to rs) where
  -- the run that holds the tick of the start holds the whole stretch
  within_run : {x y : Time} → Stretch from to x y → Throughout P x y → (r : Run) × Memᴰ r runs.0 × In (run r.start r.end) x y
  within_run {x} {y} s h = (k.holder, k.listed, (run_members k.holder.start k.holder.end x y).1 (≤_trans (tick-≤ k.after) (floor-≤ x), h.some, ends))
    where
      begins : at_tick (floor x) <ᵀ y
      begins = ≤-<-trans (floor-≤ x) h.some

      k : Held runs.0 (floor x)
      k =
          let a = tick-< (≤-<-trans s.0 (floor-< x)) in
          runs.1.covers (floor x) (omega arith) (tick-< (<-≤-trans begins s.2)) (h.each (floor x) (floor-< x) begins)

      -- else the tick at its end would be overlapped too, and so be part of it
      ends : y ≤ᵀ at_tick k.holder.end
      ends =
          let m = runs.1.runs.each k.holder k.listed in
          let next : x <ᵀ at_tick (suc k.holder.end) = <-≤-trans (floor-< x) (tick-≤ (let d = k.before in omega arith)) in
          ⊎_elim (λ q. q) (λ q. absurd (m.right (tick-< (<-≤-trans q s.2)) (h.each k.holder.end next q))) (≤-total y (at_tick k.holder.end))

  -- in the runs lie the stretches in whose every tick it holds
  pub runs_members : {x y : Time} → Stretch from to x y → ((r : Run) × Memᴰ r runs.0 × In (run r.start r.end) x y) ↔ Throughout P x y
  runs_members {x} {y} s = (
    λ h. let m = runs.1.runs.each h.0 h.1 in
        let i = (run_members h.0.start h.0.end x y).0 h.2 in
        record {
          some = i.1;
          each = λ n a b. m.holds n (let d = tick-< (≤-<-trans i.0 a) in omega arith) (tick-< (<-≤-trans b i.2));
        },
    within_run s,
  )

  letter_members : {L : List Zone} {t : ℕ} {x y : Time} → Letter P from to (value L t) → Stretch from to x y → Lies L x y ↔ Throughout P x y
  letter_members {x = x} {y = y} p s =
      let q = letter_parts p in
      let same : q.0 ≡ runs.0 = runs_unique q.1 runs.1.runs in
      Iff.trans (built_lies (run_zones q.0) q.2 x y) (Iff.trans (offered_map (λ (r : Run). run r.start r.end) q.0 x y)
      (subst (λ (rs : List Run). ((r : Run) × Memᴰ r rs × In (run r.start r.end) x y) ↔ Throughout P x y) (sym same) (runs_members s)))

-- ---- an event

-- the moment of a tick is its zone's only stretch
moment_zone_lem : (s : ℕ) {x y : Time} → In (moment_zone s) x y ↔ ((x ≈ᵀ at_tick s) × (y ≈ᵀ at_tick s))
moment_zone_lem s {x} {y} =
    let d = diagonal_members s s x y in (
      λ i. let m = d.0 i in let x≈s = ≤-≈ (≤_trans (≈-≤ m.1).0 m.2) m.0 in (x≈s, ≈-trans (≈-sym m.1) x≈s),
      λ h. d.1 ((≈-≤ h.0).1, ≈-trans h.0 (≈-sym h.1), (≈-≤ h.1).0),
    )

-- in the moments lie the events
pub events_members : {P Q : ℕ → Type 0} {from to : ℕ} (events : (ss : List ℕ) × Events P Q from to ss) {x y : Time} → Stretch from to x y
    → ((n : ℕ) × Memᴰ n events.0 × In (moment_zone n) x y) ↔ Moment P Q x y
events_members events s = (
  λ h. let i = (moment_zone_lem h.0).0 h.2 in record { at = h.0; start = i.0; end = i.1; event = (events.1.each h.0 h.1).2 },
  λ h. (
    h.at,
    events.1.all h.at (tick-≤-back (≤_trans s.0 (≈-≤ h.start).0)) (tick-≤-back (≤_trans (≈-≤ h.end).1 s.2)) h.event,
    (moment_zone_lem h.at).1 (h.start, h.end),
  ),
)

moments_members : {P Q : ℕ → Type 0} {from to : ℕ} {L : List Zone} {t : ℕ} {x y : Time} → Moments P Q from to (value L t) → Stretch from to x y → Lies L x y ↔ Moment P Q x y
moments_members {x = x} {y = y} p s =
    let q = moments_parts p in
    Iff.trans (built_lies (moment_zones q.0) q.2 x y) (Iff.trans (offered_map moment_zone q.0 x y) (events_members (q.0, q.1) s))

-- ---- a band

-- "a missing hi" asks nothing of a stretch inside from..to
longest_is : (hi : Option End) {from to : ℕ} {x y : Time} → from ≤ to → Stretch from to x y → Within (longest from to hi) y x ↔ NoLonger hi x y
longest_is None h s = (λ _. tt, λ _. whole_most h s.0 s.1 s.2)
longest_is (Some hi) h s = (λ w. w, λ w. w)

-- The band handed to the zone layer is document 01's: of the stretches inside from..to it holds those with lo ≤ end − start ≤ hi, or < where it is written.
pub range_band_lem : (r : Range) {from to : ℕ} {x y : Time} → from ≤ to → Stretch from to x y → InMaybe (range_band from to r) x y ↔ Lasts r x y
range_band_lem r {from} {to} {x} {y} h s =
    let b = band_members from to (longest from to r.hi) (lower_limit r.lo) x y in
    let l = longest_is r.hi h s in
    (λ i. let m = b.0 i in (m.2, l.0 m.1), λ i. b.1 (s, l.1 i.1, i.0))

-- ---- pieces

module _ {P Q : Time → Time → Type 0} where
  -- pieces of one kind are pieces of another
  pub pieces_map : ((s t : Time) → P s t → Q s t) → {n : ℕ} {x y : Time} → Pieces P n x y → Pieces Q n x y
  pieces_map f (none e) = none e
  pieces_map f {y = y} (more {t = t} ps p) = more (pieces_map f ps) (f t y p)

  -- the same where that is known inside from..to only
  pieces_inside : {from to : ℕ} → ((s t : Time) → P s t → s ≤ᵀ t) → ((s t : Time) → Stretch from to s t → P s t → Q s t)
      → {n : ℕ} {x y : Time} → Stretch from to x y → Pieces P n x y → Pieces Q n x y
  pieces_inside fw f s (none e) = none e
  pieces_inside fw f {y = y} s (more {t = t} ps p) =
      let a = pieces_forward fw ps in
      let b = fw t y p in
      more (pieces_inside fw f (s.0, a, ≤_trans b s.2) ps)
      (f t y (≤_trans s.0 a, b, s.2) p)

-- where a list of proper zones holds the stretches of a kind, it is cut into pieces as they are
pub pieces_iff : {from to : ℕ} {A : List Zone} {S : Time → Time → Type 0} → AllProper from to A → ((u v : Time) → S u v → u ≤ᵀ v)
    → ((u v : Time) → Stretch from to u v → Lies A u v ↔ S u v) → {x y : Time} → Stretch from to x y → (n : ℕ) → Pieces (Lies A) n x y ↔ Pieces S n x y
pieces_iff w fw same s n = (pieces_map (λ u v l. (same u v (lies_inside w l)).0 l), pieces_inside fw (λ u v i. (same u v i).1) s)

-- ---- expressions

module _ (Shows : ℕ → Level → ℕ → Type 0) {from to : ℕ} (finite : FiniteVariability Shows from to) (order : from ≤ to) where
  -- Demand 2: in the list of an expression lie exactly the stretches that satisfy it.
  pub members : (e : Expression) (t : ℕ) {L : List Zone} → Evaluates Shows from to e (value L t)
      → (x y : Time) → Stretch from to x y → Lies L x y ↔ Satisfies Shows e x y
  members epsilon t p x y s =
      let b = (listed_of (insert_each (Some (diagonal from to) ∷ []) []) p).0 in
      let d = diagonal_members from to x y in
      Iff.trans (built_lies (Some (diagonal from to) ∷ []) b x y)
      (Iff.trans (offered_one (diagonal from to) x y) (λ i. (d.0 i).1, λ e. d.1 (s.0, e, s.2)))
  members (literal High k) t p x y s = letter_members (finite.runs k level.High) p s
  members (literal Low k) t p x y s = letter_members (finite.runs k level.Low) p s
  members (literal Rise k) t p x y s = moments_members p s
  members (literal Fall k) t p x y s = moments_members p s
  members (join Union e f) t p x y s =
      let q = both_parts unite p in
      let a = members e _ q.first x y s in
      let b = members f _ q.second x y s in
      Iff.trans (union_lies q.one q.two q.built x y) (⊎_map a.0 b.0, ⊎_map a.1 b.1)
  members (join Intersection e f) t p x y s =
      let q = both_parts meets p in
      let a = members e _ q.first x y s in
      let b = members f _ q.second x y s in
      Iff.trans (meets_lies q.one q.two q.built x y) (λ l. (a.0 l.0, b.0 l.1), λ h. (a.1 h.0, b.1 h.1))
  members (join Concatenation e f) t p x y s =
      let q = both_parts compositions p in
      let u = (evaluates_well Shows order e _ q.first).proper in
      let v = (evaluates_well Shows order f _ q.second).proper in
      Iff.trans (compositions_lies q.one q.two u v q.built x y) (
        λ l. let i = lies_inside u l.1 in
            let j = lies_inside v l.2 in
            (l.0, i.1, j.1, (members e _ q.first x l.0 i).0 l.1, (members f _ q.second l.0 y j).0 l.2),
        λ h. (
          h.0,
          (members e _ q.first x h.0 (s.0, h.1, ≤_trans h.2 s.2)).1 h.3,
          (members f _ q.second h.0 y (≤_trans s.0 h.1, h.2, s.2)).1 h.4,
        ),
      )
  members (unary Star e) t p x y s =
      let q = then_parts p in
      let w = (evaluates_well Shows order e _ q.3).proper in
      let i = pieces_iff w (satisfies_forward Shows e) (members e _ q.3) s in
      Iff.trans (star_lies q.4 w x y s.0 s.2) (λ l. (l.0, (i l.0).0 l.1), λ h. (h.0, (i h.0).1 h.1))
  members (unary (Band r) e) t p x y s =
      let q = then_parts p in
      let a = members e _ q.3 x y s in
      let b = range_band_lem r order s in
      Iff.trans (banded_lies (range_band from to r) q.0 (listed_of (banded (range_band from to r) q.0) q.4).0 x y)
      (λ l. (a.0 l.0, b.0 l.1), λ h. (a.1 h.0, b.1 h.1))
  members (unary Absence e) t p x y s =
      let q = then_parts p in
      let a = members e _ q.3 x y s in
      Iff.trans (absent_lies from to q.0 (listed_of (absent from to q.0) q.4).0 x y s) (λ n. (s.1, λ h. n (a.1 h)), λ h l. h.1 (a.0 l))

  -- So what lies in the list is what fits.
  pub fits_members : (e : Expression) (t : ℕ) {L : List Zone} → Evaluates Shows from to e (value L t) → (x y : Time) → Lies L x y ↔ FitsOn Shows from to e x y
  fits_members e t p x y = (λ l. let s = lies_inside (evaluates_well Shows order e t p).proper l in (s, (members e t p x y s).0 l), λ h. (members e t p x y h.0).1 h.1)

  -- and its list is cut into pieces as the expression is
  pub pieces_members : (f : Expression) (t : ℕ) {A : List Zone} → Evaluates Shows from to f (value A t)
      → {x y : Time} → Stretch from to x y → (n : ℕ) → Pieces (Lies A) n x y ↔ Pieces (λ u v. Satisfies Shows f u v) n x y
  pieces_members f t p s = pieces_iff (evaluates_well Shows order f t p).proper (satisfies_forward Shows f) (members f t p) s
