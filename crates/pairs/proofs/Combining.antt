-- The loops over pairs: what has been put and counted, and what is still to come.
use Rattle.std.specs.Prelude.{Option, Some, None}
use mathlib.Core.Path.{◌≡◌, refl, sym, ap, subst, ◌∙◌}
use mathlib.Core.List.Memᴰ.{head}
use mathlib.Core.List.Memᴰ.{tail}
use mathlib.Core.List.{List, [], ◌∷◌, ◌++◌, map, map-append, append-nil, append_assoc, Memᴰ}
use Prim.Native.Nat.{ℕ, ◌+◌, ◌≤◌}
use native.Mathlib.Omega.{arith}
use lib.IntN.{ℤ}
use lib.ListN.{length, length-append}
use Rattle.zone.specs.declared.Zone.{Zone}
use Rattle.list.specs.Insert.{listed, overflow, insert_each}
use Rattle.list.specs.Slots.{list_at, Kept}
use Rattle.growing.specs.declared.Growing.{Growing}
use Rattle.growing.specs.Growth.{Stands, NoPair, Growth}
use Rattle.pairs.specs.Counted.{Counted, none, with, without}
use Rattle.pairs.specs.Pairs.{Operation, Meet, Compose, apply, Composed}
use Rattle.pairs.specs.Row.{applied}
use Rattle.pairs.specs.Combined.{one_more}
use Rattle.list.proofs.Slots.{kept_refl}
use Rattle.list.proofs.Puts.{holds_same}
use Rattle.growing.proofs.Going.{Going, going_start, going_same, going_on, going_overflow, going_end}
use Rattle.pairs.proofs.Counted.{counted_append, counted_most, counted_none}

-- of the pairs `whole` those still to come are `todo`; the list that stood as g₀ stands as g now
pub record Combining (op : Operation) (todo whole : List (Zone × Zone)) (g₀ : Growing) (target : ℕ) (ws₀ ws : List ℤ) (g : Growing) : Type 0 where
  pub going : Going (map (applied op) todo) (insert_each (map (applied op) whole) (list_at ws₀ target g₀.count)) g₀ (list_at ws₀ target g₀.count) target ws₀ ws g
  pub done : List (Zone × Zone)
  pub all : whole ≡ done ++ todo
  pub some : ℕ
  pub counted : Counted (Composed op) done some
  pub sum : g.pairs ≡ g₀.pairs + some

pub combining_start : (op : Operation) (ps : List (Zone × Zone)) (target : ℕ) (ws : List ℤ) (g : Growing) → Stands ws target g → Combining op ps ps g target ws ws g
combining_start op ps target ws g s = record { going = going_start (map (applied op) ps) target ws g s; done = []; all = refl; some = 0; counted = none; sum = omega arith }

all_empty : (op : Operation) (ps : List (Zone × Zone)) (L : List Zone) → ((p : Zone × Zone) → Memᴰ p ps → applied op p ≡ None) → insert_each (map (applied op) ps) L ≡ listed L
unfolding insert_each
all_empty op [] L f = refl
all_empty op (p ∷ ps) L f = ap (λ (r : Option Zone). insert_each (r ∷ map (applied op) ps) L) (f p (head refl)) ∙ all_empty op ps L (λ q m. f q (tail m))

module _ {op : Operation} {whole : List (Zone × Zone)} {g₀ : Growing} {target : ℕ} {ws₀ ws : List ℤ} {g : Growing} where
  pub combining_same : {todo other : List (Zone × Zone)} → todo ≡ other → Combining op todo whole g₀ target ws₀ ws g → Combining op other whole g₀ target ws₀ ws g
  combining_same e c = subst (λ (t : List (Zone × Zone)). Combining op t whole g₀ target ws₀ ws g) e c

  -- as many pairs were counted as have gone by
  pub combining_most : {todo : List (Zone × Zone)} → Combining op todo whole g₀ target ws₀ ws g → g.pairs + length todo ≤ g₀.pairs + length whole
  combining_most {todo} c = omega (arith, c.sum, counted_most c.counted, ap length c.all, length-append c.done todo)

  module _ (ps todo : List (Zone × Zone)) (c : Combining op (ps ++ todo) whole g₀ target ws₀ ws g) where
    parts : Going (map (applied op) ps ++ map (applied op) todo) (insert_each (map (applied op) whole) (list_at ws₀ target g₀.count)) g₀ (list_at ws₀ target g₀.count) target ws₀ ws g
    parts = going_same (map-append (applied op) ps todo) c.going

    -- the first pairs were put
    pub combining_on : {vs : List ℤ} {h : Growing} → Growth (insert_each (map (applied op) ps) (list_at ws target g.count)) (Counted (Composed op) ps) g (list_at ws target g.count) vs target h → Kept target 768 ws vs → Combining op todo whole g₀ target ws₀ vs h
    combining_on w f =
        record {
          going = going_on (map (applied op) ps) (map (applied op) todo) parts w f;
          done = c.done ++ ps;
          all = c.all ∙ sym (append_assoc c.done ps todo);
          some = c.some + w.composed;
          counted = counted_append c.counted w.counted;
          sum = omega (arith, c.sum, w.pairs);
        }

    pub combining_overflow : {P : Type 0} → (insert_each (map (applied op) ps) (list_at ws target g.count) ≡ overflow) × P → (insert_each (map (applied op) whole) (list_at ws₀ target g₀.count) ≡ overflow) × P
    combining_overflow o = going_overflow (map (applied op) ps) (map (applied op) todo) parts o

    -- none of them gives anything
    pub combining_past : ((p : Zone × Zone) → Memᴰ p ps → (applied op p ≡ None) × (¬ Composed op p)) → Combining op todo whole g₀ target ws₀ ws g
    combining_past f =
        combining_on
        (record {
          list = list_at ws target g.count;
          value = all_empty op ps (list_at ws target g.count) (λ p m. (f p m).0);
          holds = holds_same ws target g.count c.going.stands.slot.few;
          alters = λ S m. m;
          composed = 0;
          counted = counted_none ps (λ p m. (f p m).1);
          pairs = omega arith;
          late = c.going.stands.late;
        })
        (kept_refl target 768 ws)

  -- nothing is left to put
  pub combining_end : {todo : List (Zone × Zone)} → todo ≡ [] → Combining op todo whole g₀ target ws₀ ws g → Growth (insert_each (map (applied op) whole) (list_at ws₀ target g₀.count)) (Counted (Composed op) whole) g₀ (list_at ws₀ target g₀.count) ws target g
  combining_end {todo} e c =
      going_end (ap (map (applied op)) e) c.going c.some (subst (λ (ps : List (Zone × Zone)). Counted (Composed op) ps c.some) (sym (c.all ∙ ap (λ (t : List (Zone × Zone)). c.done ++ t) e ∙ append-nil c.done)) c.counted) c.sum

-- ---- one pair that gives a zone

module _ {z w v : Zone} {L : List Zone} {vs : List ℤ} {target : ℕ} {g h : Growing} where
  -- a meet: no pair is composed
  pub met : apply Meet z w ≡ Some v → Growth (insert_each (Some v ∷ []) L) NoPair g L vs target h → Growth (insert_each (map (applied Meet) ((z, w) ∷ [])) L) (Counted (Composed Meet) ((z, w) ∷ [])) g L vs target h
  met e b =
      record {
        list = b.list;
        value = ap (λ (r : Option Zone). insert_each (r ∷ []) L) e ∙ b.value;
        holds = b.holds;
        alters = b.alters;
        composed = 0;
        counted = without (λ n. n) none;
        pairs = omega (arith, b.pairs, b.counted);
        late = b.late;
      }

  -- a composition: it was counted before it was put
  pub composed_one : apply Compose z w ≡ Some v → Composed Compose (z, w) → Growth (insert_each (Some v ∷ []) L) NoPair (one_more g) L vs target h → Growth (insert_each (map (applied Compose) ((z, w) ∷ [])) L) (Counted (Composed Compose) ((z, w) ∷ [])) g L vs target h
  composed_one e t b =
      record {
        list = b.list;
        value = ap (λ (r : Option Zone). insert_each (r ∷ []) L) e ∙ b.value;
        holds = b.holds;
        alters = b.alters;
        composed = 1;
        counted = with t none;
        pairs = omega (arith, b.pairs, b.counted);
        late = b.late;
      }
