-- One limit more: what is left of a zone, and what breaks the limit.
use Rattle.std.specs.Prelude.{Option, Some, None}
use mathlib.Core.Path.{◌≡◌, refl, sym, ap, subst, ◌∙◌}
use mathlib.Core.Bool.{Bool, true, false, cond}
use mathlib.Core.Logic.Iff
use mathlib.Core.Logic.{◌↔◌, ⊎_elim}
use mathlib.Core.List.Memᴰ.{cases_cons}
use mathlib.Core.List.Memᴰ.{not-nil}
use mathlib.Core.List.{List, [], ◌∷◌, Memᴰ}
use borrow.Author.Tests.{eq-eqb}
use lib.Dec.{T, T_not, eqb, eqb→eq}
use Rattle.limit.specs.Time.{Time, origin}
use Rattle.limit.specs.declared.Limit.{Limit}
use Rattle.limit.specs.Limit.{◌≤ᴸ◌, ◌⊕◌, nought, lesser, broken, Small, most_ticks}
use Rattle.limit.proofs.Linear.{test}
use Rattle.limit.proofs.Order as order
use Rattle.limit.proofs.Common.{within_widen, within_through, within_self}
use Rattle.limit.proofs.Breaking.{broken_is, small_broken}
use Rattle.zone.specs.declared.Zone.{Zone}
use Rattle.zone.specs.Zone.{In, InMaybe, TightMaybe, Proper, Side, on-start, on-nstart, on-end, on-nend, on-length, on-nlength, limit, opposite, Keeps, upper, lower}
use Rattle.zone.proofs.Sharp.{on, off}
use Rattle.zone.proofs.Laws.{tighten_members, tighten_tight, tighten_empty, tight_closed, ranged}
use Rattle.parts.specs.Parts.{side, place, of_limits, also, keeping, part, parts_on, room, Cuttable, Breaks, KeepsTo, RoomAs}

-- ---- a zone by its limits

pub limit_of : (f : Side → Limit) (k : Side) → limit (of_limits f) k ≡ f k
unfolding of_limits
limit_of f on-start = refl
limit_of f on-nstart = refl
limit_of f on-end = refl
limit_of f on-nend = refl
limit_of f on-length = refl
limit_of f on-nlength = refl

of_members : (f : Side → Limit) (x y : Time) → In (of_limits f) x y ↔ ((k : Side) → Keeps k (f k) x y)
unfolding of_limits
of_members f x y = (
  λ h k. subst (λ (l : Limit). Keeps k l x y) (limit_of f k) (on h k),
  λ g. record { start = g on-start; nstart = g on-nstart; end = g on-end; nend = g on-nend; length = g on-length; nlength = g on-nlength },
)

-- ---- one limit more

pub side_place : (k : Side) → side (place k) ≡ k
side_place on-start = refl
side_place on-nstart = refl
side_place on-end = refl
side_place on-nend = refl
side_place on-length = refl
side_place on-nlength = refl

place_same : (j k : Side) → T (eqb (place j) (place k)) → j ≡ k
place_same j k t = sym (side_place j) ∙ ap side (eqb→eq (place j) (place k) t) ∙ side_place k

place_self : (k : Side) → T (eqb (place k) (place k))
place_self k = subst T (sym (eq-eqb (place k) (place k) refl)) tt

-- the limit of `also z k l` on side j
abbrev pub held : Zone → Side → Limit → Side → Limit
held z k l j = cond (eqb (place j) (place k)) (lesser (limit z j) l) (limit z j)

held-≤ : (z : Zone) (k : Side) (l : Limit) (j : Side) → held z k l j ≤ᴸ limit z j
held-≤ z k l j = test (eqb (place j) (place k)) (λ b. cond b (lesser (limit z j) l) (limit z j) ≤ᴸ limit z j) (λ _. order.lesser_l _ _) (λ _. order.≤-refl _)

held_of : (P : Limit → Type 0) (z : Zone) (k : Side) (l : Limit) (j : Side) → P (limit z j) → P l → P (held z k l j)
held_of P z k l j a b = test (eqb (place j) (place k)) (λ c. P (cond c (lesser (limit z j) l) (limit z j))) (λ _. order.lesser_of P a b) (λ _. a)

-- z's stretches that keep to l
pub also_members : (z : Zone) (k : Side) (l : Limit) (x y : Time) → In (also z k l) x y ↔ (In z x y × Keeps k l x y)
unfolding also of_limits
also_members z k l x y =
    let m = of_members (held z k l) x y in (
      λ h. (
        (of_members (limit z) x y).1 (λ j. within_widen (upper origin j x y) (lower origin j x y) (held-≤ z k l j) (m.0 h j)),
        test (eqb (place k) (place k)) (λ b. Keeps k (cond b (lesser (limit z k) l) (limit z k)) x y → Keeps k l x y)
            (λ _ i. within_widen (upper origin k x y) (lower origin k x y) (order.lesser_r _ _) i) (λ t. absurd (T_not (eqb (place k) (place k)) t (place_self k))) (m.0 h k),
      ),
      λ h. m.1 (λ j. test (eqb (place j) (place k)) (λ b. Keeps j (cond b (lesser (limit z j) l) (limit z j)) x y)
          (λ t. order.lesser_of (λ n. Keeps j n x y) (on h.0 j) (subst (λ (i : Side). Keeps i l x y) (sym (place_same j k t)) h.1))
          (λ _. on h.0 j)),
    )

-- a limit more never raises a limit
pub also_lowers : (z : Zone) (k : Side) (l : Limit) → ((also z k l).nstart ≤ᴸ z.nstart) × ((also z k l).nlength ≤ᴸ z.nlength)
unfolding also of_limits
also_lowers z k l = (held-≤ z k l on-nstart, held-≤ z k l on-nlength)

pub also_cuttable : (z : Zone) (k : Side) (l : Limit) → Cuttable z → Small most_ticks l → Cuttable (also z k l)
unfolding also of_limits
also_cuttable z k l c s =
    let small : (j : Side) → Small most_ticks (limit z j) → Small most_ticks (held z k l j) = λ j a. held_of (Small most_ticks) z k l j a s in
    record {
      inside = record { inside = λ x y i. c.inside.inside x y ((also_members z k l x y).0 i).0 };
      after_0 = order.≤_trans (also_lowers z k l).0 c.after_0;
      onward = order.≤_trans (also_lowers z k l).1 c.onward;
      ranged = record {
        start = small on-start c.ranged.start;
        nstart = small on-nstart c.ranged.nstart;
        end = small on-end c.ranged.end;
        nend = small on-nend c.ranged.nend;
        length = small on-length c.ranged.length;
        nlength = small on-nlength c.ranged.nlength;
      };
    }

-- ---- a limit that is broken

-- a stretch breaks the limit on a side exactly where it keeps to the broken limit on the opposite one
pub breaks : (k : Side) (l : Limit) (x y : Time) → Keeps (opposite k) (broken l) x y ↔ ¬ Keeps k l x y
breaks on-start l x y = broken_is l x origin
breaks on-nstart l x y = broken_is l origin x
breaks on-end l x y = broken_is l y origin
breaks on-nend l x y = broken_is l origin y
breaks on-length l x y = broken_is l y x
breaks on-nlength l x y = broken_is l x y

pub part_members : (z w : Zone) (k : Side) (x y : Time) → InMaybe (part z w k) x y ↔ (In z x y × ¬ Keeps k (limit w k) x y)
unfolding part
part_members z w k x y =
    let b = breaks k (limit w k) x y in
    Iff.trans (tighten_members (also z (opposite k) (broken (limit w k))) x y)
    (Iff.trans (also_members z (opposite k) (broken (limit w k)) x y) (λ h. (h.0, b.0 h.1), λ h. (h.0, b.1 h.1)))

-- ---- limits of a listed zone, for the machine's numbers

-- a listed zone can be cut
pub proper_cuttable : {z : Zone} → Proper 0 most_ticks z → Cuttable z
proper_cuttable p = let c = tight_closed.0 p.tight in record { inside = p.inside; after_0 = c.after_0; onward = c.onward; ranged = ranged p }

pub cuttable_small : {z : Zone} → Cuttable z → (k : Side) → Small most_ticks (limit z k)
cuttable_small c on-start = c.ranged.start
cuttable_small c on-nstart = c.ranged.nstart
cuttable_small c on-end = c.ranged.end
cuttable_small c on-nend = c.ranged.nend
cuttable_small c on-length = c.ranged.length
cuttable_small c on-nlength = c.ranged.nlength

module _ {w : Zone} (p : Proper 0 most_ticks w) where
  pub small_limit : (k : Side) → Small most_ticks (limit w k)
  small_limit = cuttable_small (proper_cuttable p)

  pub broken_small : (k : Side) → Small most_ticks (broken (limit w k))
  broken_small k = small_broken (limit w k) (limit w (opposite k)) (room k) (small_limit k) (small_limit (opposite k))
    where
      room : (k : Side) → nought ≤ᴸ limit w k ⊕ limit w (opposite k)
      room on-start = (tight_closed.0 p.tight).round_start
      room on-nstart = order.flip _ _ (tight_closed.0 p.tight).round_start
      room on-end = (tight_closed.0 p.tight).round_end
      room on-nend = order.flip _ _ (tight_closed.0 p.tight).round_end
      room on-length = (tight_closed.0 p.tight).round_length
      room on-nlength = order.flip _ _ (tight_closed.0 p.tight).round_length

-- a stretch needs room between two opposite limits
pub room_means : (z : Zone) (k : Side) {r : Bool} → r ≡ room z k → RoomAs z r
room_means z k {r = true} e = tt
room_means z k {r = false} e = λ x y i.
    let u = upper origin k x y in
    subst T (sym e) (within_self u (within_through (limit z k) (limit z (opposite k)) u (lower origin k x y) u (on i k) (off i k))).le

-- what has no stretch has no parts
pub none_part : (z w : Zone) (ks : List Side) → Cuttable z → Proper 0 most_ticks w → ((x y : Time) → ¬ In z x y) → (r : Option Zone) → Memᴰ r (parts_on ks z w) → r ≡ None
unfolding parts_on part
none_part z w [] c p n r m = absurd (not-nil m)
none_part z w (k ∷ ks) c p n r m =
    let d = also_cuttable z (opposite k) (broken (limit w k)) c (broken_small p k) in
    ⊎_elim (λ e. e ∙ (tighten_empty _ d.after_0 d.onward).1 (λ x y i. n x y ((also_members z (opposite k) (broken (limit w k)) x y).0 i).0))
    (none_part (keeping z w k) w ks (also_cuttable z k (limit w k) c (small_limit p k)) p (λ x y i. n x y ((also_members z k (limit w k) x y).0 i).0) r) (cases_cons m)

-- ---- what the functions mean

module _ (z w : Zone) (k : Side) where
  pub part_breaks : Cuttable z → Proper 0 most_ticks w → {r : Option Zone} → r ≡ part z w k → Breaks z w k r
  unfolding part
  part_breaks c p e =
      let d = also_cuttable z (opposite k) (broken (limit w k)) c (broken_small p k) in
      subst (Breaks z w k) (sym e) (record { members = part_members z w k; tight = tighten_tight _ d.after_0 d.onward })

  -- it can be listed
  pub part_listed : Cuttable z → {r : Option Zone} → Breaks z w k r → {p : Zone} → r ≡ Some p → Proper 0 most_ticks p
  part_listed c b e =
      record {
        tight = subst TightMaybe e b.tight;
        inside = record { inside = λ x y i. c.inside.inside x y ((b.members x y).0 (subst (λ (r : Option Zone). InMaybe r x y) (sym e) i)).0 };
      }

  pub keeping_keeps : Cuttable z → Proper 0 most_ticks w → {r : Zone} → r ≡ keeping z w k → KeepsTo z w k r
  keeping_keeps c p e = subst (KeepsTo z w k) (sym e) (record { members = also_members z k (limit w k); cuttable = also_cuttable z k (limit w k) c (small_limit p k) })

  -- a zone that keeps to the limit has no part that breaks it
  pub part_none : Cuttable z → Proper 0 most_ticks w → limit z k ≤ᴸ limit w k → part z w k ≡ None
  unfolding part
  part_none c p h =
      let d = also_cuttable z (opposite k) (broken (limit w k)) c (broken_small p k) in
      (tighten_empty _ d.after_0 d.onward).1
      (λ x y i. let m = (also_members z (opposite k) (broken (limit w k)) x y).0 i in (breaks k (limit w k) x y).0 m.1 (within_widen (upper origin k x y) (lower origin k x y) h (on m.0 k)))
