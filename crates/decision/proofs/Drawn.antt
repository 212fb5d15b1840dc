-- Every drill's stretches are a finite union of zones. No list is bounded here, so that it holds of every drill, also of one that is refused.
use mathlib.Core.Path.{sym}
use mathlib.Core.Logic.Iff
use mathlib.Core.Logic.{◌⊎◌, ⊎_map}
use mathlib.Core.List.Memᴰ.{eq_of_singleton}
use mathlib.Core.List.{List, [], ◌∷◌, ◌++◌, map}
use Prim.Native.Nat.{ℕ, ◌≤◌}
use native.Mathlib.Omega.{arith}
use Rattle.limit.specs.Time.{Time, ◌≤ᵀ◌, ◌≈ᵀ◌}
use Rattle.limit.proofs.Times.{≤_trans}
use Rattle.zone.specs.Zone.{run, diagonal}
use Rattle.zone.proofs.Laws.{diagonal_members, proper_run, proper_within, proper_diagonal, proper_band}
use Rattle.list.proofs.Members.{lies_one}
use Rattle.star.specs.Pieces.{Pieces}
use Rattle.runs.specs.declared.Level.{Level}
use Rattle.runs.specs.declared.Level.TheVariants as level
use Rattle.runs.specs.declared.Run.{Run}
use Rattle.runs.specs.Events.{Events}
use Rattle.runs.proofs.Runs.{Complete}
use Rattle.expression.specs.declared.Range.{Range}
use Rattle.expression.specs.declared.Sign.TheVariants.{High, Low, Rise, Fall}
use Rattle.expression.specs.declared.Join.TheVariants.{Union, Intersection, Concatenation}
use Rattle.expression.specs.declared.Unary.TheVariants.{Star, Band, Absence}
use Rattle.expression.specs.Expression.{Expression, epsilon, literal, join, unary}
use Rattle.meaning.specs.Satisfies.{Throughout, Moment, lower_limit, Lasts, Satisfies}
use Rattle.meaning.specs.Lists.{moment_zone, longest, range_band}
use Rattle.meaning.proofs.Meaning.{satisfies_forward}
use Rattle.meaning.proofs.Evaluation.{FiniteVariability}
use Rattle.meaning.proofs.Members.{lies_inside, runs_members, events_members, range_band_lem, pieces_iff}
use Rattle.decision.specs.Drawn.{Drawn}
use Rattle.decision.proofs.Unions.{single_proper, map_lies, map_proper, zones_of, zones_of_proper, answer_lies, append_lies, append_proper, all_meets, all_meets_lies, all_meets_proper, all_compositions, all_compositions_lies, all_compositions_proper, complement, complement_lies, complement_proper}
use Rattle.decision.proofs.Repetition.{repetition, repetition_lies, repetition_proper}

module _ {from to : ℕ} where
  -- ---- a letter, and an event

  -- a letter's stretches are those of its runs
  letter : {P : ℕ → Type 0} → (rs : List Run) × Complete P from to rs → Drawn from to (Throughout P)
  letter runs =
      record {
        zones = map (λ (r : Run). run r.start r.end) runs.0;
        proper = map_proper (λ (r : Run). run r.start r.end) runs.0 (λ r m. let k = runs.1.runs.each r m in proper_run r.start r.end k.lower k.some k.upper);
        exact = λ x y s. Iff.trans (map_lies (λ (r : Run). run r.start r.end) runs.0 x y) (runs_members runs s);
      }

  -- an event's are its moments
  moments : {P Q : ℕ → Type 0} → (ss : List ℕ) × Events P Q from to ss → Drawn from to (Moment P Q)
  moments events =
      record {
        zones = map moment_zone events.0;
        proper = map_proper moment_zone events.0 (λ n m. let k = events.1.each n m in proper_within k.0 k.1 (proper_diagonal n n (omega arith)));
        exact = λ x y s. Iff.trans (map_lies moment_zone events.0 x y) (events_members events s);
      }

  -- ---- operators with two operands

  module _ {S R : Time → Time → Type 0} (a : Drawn from to S) (b : Drawn from to R) where
    -- `|`: a stretch of either union
    either : Drawn from to (λ x y. S x y ⊎ R x y)
    either =
        record {
          zones = a.zones ++ b.zones;
          proper = append_proper a.zones b.zones a.proper b.proper;
          exact = λ x y s. let i = a.exact x y s in
              let j = b.exact x y s in
              Iff.trans (append_lies a.zones b.zones x y) (⊎_map i.0 j.0, ⊎_map i.1 j.1);
        }

    -- `&`: one of both
    both : Drawn from to (λ x y. S x y × R x y)
    both =
        record {
          zones = all_meets a.zones b.zones;
          proper = all_meets_proper a.zones b.zones a.proper;
          exact = λ x y s. let i = a.exact x y s in
              let j = b.exact x y s in
              Iff.trans (all_meets_lies a.zones b.zones x y) (λ l. (i.0 l.0, j.0 l.1), λ h. (i.1 h.0, j.1 h.1));
        }

    -- `.`: one with some cut, whose parts are stretches of the two
    cut : Drawn from to (λ x y. (t : Time) × (x ≤ᵀ t) × (t ≤ᵀ y) × S x t × R t y)
    cut =
        record {
          zones = all_compositions a.zones b.zones;
          proper = all_compositions_proper a.zones b.zones a.proper b.proper;
          exact = λ x y s. Iff.trans (all_compositions_lies a.zones b.zones a.proper b.proper x y) (
            λ l. let i = lies_inside a.proper l.1 in
                let j = lies_inside b.proper l.2 in
                (l.0, i.1, j.1, (a.exact x l.0 i).0 l.1, (b.exact l.0 y j).0 l.2),
            λ h. (
              h.0,
              (a.exact x h.0 (s.0, h.1, ≤_trans h.2 s.2)).1 h.3,
              (b.exact h.0 y (≤_trans s.0 h.1, h.2, s.2)).1 h.4,
            ),
          );
        }

  -- ---- points, bands, and operators with one operand

  module _ (order : from ≤ to) where
    -- `_`
    points : Drawn from to (λ x y. x ≈ᵀ y)
    points =
        record {
          zones = diagonal from to ∷ [];
          proper = single_proper (proper_diagonal from to order);
          exact = λ x y s. let d = diagonal_members from to x y in
              Iff.trans (lies_one (diagonal from to) x y) (λ i. (d.0 i).1, λ e. d.1 (s.0, e, s.2));
        }

    -- the stretches that a range admits are those of its band
    lasting : (r : Range) → Drawn from to (Lasts r)
    lasting r =
        let b = range_band from to r in
        record {
          zones = zones_of (b ∷ []);
          proper = zones_of_proper (b ∷ []) (λ z m. proper_band from to (longest from to r.hi) (lower_limit r.lo) (sym (eq_of_singleton m)));
          exact = λ x y s. Iff.trans (answer_lies b x y) (range_band_lem r order s);
        }

    module _ {S : Time → Time → Type 0} (a : Drawn from to S) where
      -- `*`: a stretch cut into pieces of the union
      pieces : ((x y : Time) → S x y → x ≤ᵀ y) → Drawn from to (λ x y. (n : ℕ) × Pieces S n x y)
      pieces forward =
          record {
            zones = repetition from to a.zones;
            proper = repetition_proper a.zones a.proper order;
            exact = λ x y s. let i = pieces_iff a.proper forward a.exact s in
                Iff.trans (repetition_lies a.zones a.proper x y s) (λ l. (l.0, (i l.0).0 l.1), λ h. (h.0, (i h.0).1 h.1));
          }

      -- `~`: one that is not in the union
      others : Drawn from to (λ x y. (x ≤ᵀ y) × ¬ S x y)
      others =
          record {
            zones = complement from to a.zones;
            proper = complement_proper from to a.zones order;
            exact = λ x y s. let i = a.exact x y s in
                Iff.trans (complement_lies from to a.zones x y s) (λ n. (s.1, λ h. n (i.1 h)), λ h l. h.1 (i.0 l));
          }

-- ---- expressions

module _ (Shows : ℕ → Level → ℕ → Type 0) {from to : ℕ} (finite : FiniteVariability Shows from to) (order : from ≤ to) where
  -- Of levels of finite variability, every drill's stretches are a finite union of zones.
  pub drawn : (e : Expression) → Drawn from to (λ x y. Satisfies Shows e x y)
  drawn epsilon = points order
  drawn (literal High k) = letter (finite.runs k level.High)
  drawn (literal Low k) = letter (finite.runs k level.Low)
  drawn (literal Rise k) = moments (finite.events k level.Low)
  drawn (literal Fall k) = moments (finite.events k level.High)
  drawn (join Union e f) = either (drawn e) (drawn f)
  drawn (join Intersection e f) = both (drawn e) (drawn f)
  drawn (join Concatenation e f) = cut (drawn e) (drawn f)
  drawn (unary Star e) = pieces order (drawn e) (satisfies_forward Shows e)
  drawn (unary (Band r) e) = both (drawn e) (lasting order r)
  drawn (unary Absence e) = others order (drawn e)
