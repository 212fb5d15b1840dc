-- The loops that put parts: what has been put, and what is still to come.
use Rattle.std.specs.Prelude.{Option, Some, None}
use mathlib.Core.Path.{◌≡◌, refl, sym, ap, subst, ◌∙◌}
use mathlib.Core.Bool.{Bool, false}
use mathlib.Core.List.Memᴰ.{eq_of_singleton}
use mathlib.Core.List.Memᴰ.{head}
use mathlib.Core.List.Memᴰ.{not-nil}
use mathlib.Core.List.Memᴰ.{tail}
use mathlib.Core.List.{List, [], ◌∷◌, ◌++◌, map, append_assoc, Memᴰ}
use Prim.Native.Nat.{ℕ, ◌+◌, ◌-◌, ◌*◌, ◌≤◌, ◌<◌}
use native.Mathlib.Omega.{arith}
use lib.IntN.{ℤ}
use lib.ListN.{length, drop}
use Rattle.zone.specs.declared.Zone.{Zone}
use Rattle.limit.specs.Time.{Time}
use Rattle.zone.specs.Zone.{In, Proper}
use Rattle.parts.specs.Parts.{sides, side, keeping, part, parts_on, parts, Cuttable, Breaks, KeepsTo, RoomAs}
use Rattle.parts.specs.Shares.{ShareNone}
use Rattle.parts.proofs.Limits.{proper_cuttable, part_listed, none_part}
use Rattle.parts.proofs.Laws.{parts_proper}
use Rattle.parts.proofs.Words.{parts_next, parts_end}
use Rattle.list.specs.Insert.{Built, overflow, insert_each}
use Rattle.list.specs.Slots.{Slot, list_at, Kept, Sound}
use Rattle.list.proofs.Coverage.{puts}
use Rattle.list.proofs.Theorems.{each_proper}
use Rattle.list.proofs.Scan.{nothing_left}
use Rattle.list.proofs.Slots.{list_at_next}
use Rattle.growing.specs.declared.Growing.{Growing}
use Rattle.growing.specs.Growth.{Stands, Begins, NoPair, Growth}
use Rattle.growing.proofs.Going.{Going, begun_stands, grown_stands, going_start, going_same, going_past, going_on, going_overflow, going_end}
use Rattle.words.specs.Words.{zone_at}
use Rattle.pairs.specs.Operands.{Supply}
use Rattle.pairs.proofs.Zones.{supply_zones, still_zones, proper_there, read_there}
use Rattle.absence.specs.Absence.{parts_each}
use Rattle.absence.specs.Steps.{Listable, Growable}
use Rattle.absence.proofs.Sharing.{share_front, share_puts, share_apart}

-- empty answers are passed over
going_none : {whole : Built} {g₀ : Growing} {L₀ : List Zone} {target : ℕ} {ws₀ ws : List ℤ} {g : Growing} (todo : List (Option Zone)) → ((r : Option Zone) → Memᴰ r todo → r ≡ None)
    → Going todo whole g₀ L₀ target ws₀ ws g → Going [] whole g₀ L₀ target ws₀ ws g
going_none [] f w = w
going_none (r ∷ todo) f w = going_none todo (λ q m. f q (tail m)) (going_past (going_same (ap (λ (q : Option Zone). q ∷ todo) (f r (head refl))) w))

-- ---- what is left of one zone

-- nothing is left, and nothing is put
pub none_put : (ws : List ℤ) (target : ℕ) (g : Growing) → Stands ws target g → Growth (insert_each (None ∷ []) (list_at ws target g.count)) NoPair g (list_at ws target g.count) ws target g
none_put ws target g s = going_end refl (going_past (going_start (None ∷ []) target ws g s)) 0 refl (omega arith)

-- what breaks a limit can be put last
listable_by : {z w : Zone} (k : ℕ) → Cuttable z → (L : List Zone) (todo : List (Option Zone)) → Sound L → (r : Option Zone) → Breaks z w (side k) r → ShareNone (map Some L ++ (r ∷ todo)) → Listable L r
listable_by {z} {w} k c L todo s (Some p) b h = let q = part_listed z w (side k) c b refl in (q, share_apart L todo s q h)
listable_by k c L todo s None b h = tt

-- without room nothing is left
pub spent : (z : Zone) (r : Bool) → RoomAs z r → r ≡ false → (x y : Time) → ¬ In z x y
spent z r h e = subst (RoomAs z) {x = r} e h

-- ---- a list of which no two zones share a stretch, after the first puts

module _ {ws vs : List ℤ} {target : ℕ} {g h : Growing} (rs todo : List (Option Zone)) (a : Growable ws target g (rs ++ todo)) where
  pub growable_on : ((z : Zone) → Memᴰ (Some z) rs → Proper 0 1_000_000 z) → Growth (insert_each rs (list_at ws target g.count)) NoPair g (list_at ws target g.count) vs target h → Kept target 768 ws vs → Growable vs target h todo
  growable_on p b f =
      record {
        stands = grown_stands a.stands.slot f b;
        sound = subst Sound (sym b.holds.zones) (each_proper rs (list_at ws target g.count) b.value a.sound p);
        shared = subst (λ (L : List Zone). ShareNone (map Some L ++ todo)) (sym b.holds.zones) (share_puts todo (puts rs (list_at ws target g.count) b.value) a.shared);
      }

pub growable_same : {ws : List ℤ} {target : ℕ} {g : Growing} {todo other : List (Option Zone)} → todo ≡ other → Growable ws target g todo → Growable ws target g other
growable_same {ws} {target} {g} e a = subst (Growable ws target g) e a

-- .. of the first of them alone
pub growable_front : {ws : List ℤ} {target : ℕ} {g : Growing} (rs todo : List (Option Zone)) → Growable ws target g (rs ++ todo) → Growable ws target g rs
growable_front {ws} {target} {g} rs todo a =
    record {
      stands = a.stands;
      sound = a.sound;
      shared = share_front (map Some (list_at ws target g.count) ++ rs) todo (subst ShareNone (sym (append_assoc (map Some (list_at ws target g.count)) rs todo)) a.shared);
    }

-- ---- the parts of one zone

-- of the parts of z outside w those that keep to the first k limits are still to come, and `rest` is what keeps to them
pub record Cutting (z w : Zone) (g₀ : Growing) (target : ℕ) (ws₀ : List ℤ) (k : ℕ) (rest : Zone) (ws : List ℤ) (g : Growing) : Type 0 where
  pub most : k ≤ 6
  pub cuttable : Cuttable rest
  pub pairs : g.pairs ≡ g₀.pairs
  pub growable : Growable ws target g (parts_on (drop k sides) rest w)
  pub going : Going (parts_on (drop k sides) rest w) (insert_each (parts z w) (list_at ws₀ target g₀.count)) g₀ (list_at ws₀ target g₀.count) target ws₀ ws g

pub cutting_start : (z w : Zone) (g : Growing) (target : ℕ) (ws : List ℤ) → Proper 0 1_000_000 z → Growable ws target g (parts z w) → Cutting z w g target ws 0 z ws g
cutting_start z w g target ws p a = record { most = omega arith; cuttable = proper_cuttable p; pairs = refl; growable = a; going = going_start (parts z w) target ws g a.stands }

module _ {z w : Zone} {g₀ : Growing} {target : ℕ} {ws₀ : List ℤ} {k : ℕ} {rest : Zone} {ws : List ℤ} {g : Growing} (c : Cutting z w g₀ target ws₀ k rest ws g) where
  module _ (l : k < 6) {r : Option Zone} (e : r ≡ part rest w (side k)) where
    -- the part at hand comes next
    part_ahead : parts_on (drop k sides) rest w ≡ (r ∷ []) ++ parts_on (drop (k + 1) sides) (keeping rest w (side k)) w
    part_ahead = parts_next rest w k l ∙ ap (λ (p : Option Zone). p ∷ parts_on (drop (k + 1) sides) (keeping rest w (side k)) w) (sym e)

    pub listable : Breaks rest w (side k) r → Listable (list_at ws target g.count) r
    listable b = listable_by {z = rest} {w = w} k c.cuttable _ (parts_on (drop (k + 1) sides) (keeping rest w (side k)) w) c.growable.sound r b (growable_same part_ahead c.growable).shared

    one_proper : Breaks rest w (side k) r → (z : Zone) → Memᴰ (Some z) (r ∷ []) → Proper 0 1_000_000 z
    one_proper b z m = part_listed rest w (side k) c.cuttable b (sym (eq_of_singleton m))

    ahead : Going ((r ∷ []) ++ parts_on (drop (k + 1) sides) (keeping rest w (side k)) w) (insert_each (parts z w) (list_at ws₀ target g₀.count)) g₀ (list_at ws₀ target g₀.count) target ws₀ ws g
    ahead = going_same part_ahead c.going

    pub cutting_overflow : {P : Type 0} → (insert_each (r ∷ []) (list_at ws target g.count) ≡ overflow) × P → (insert_each (parts z w) (list_at ws₀ target g₀.count) ≡ overflow) × P
    cutting_overflow o = going_overflow (r ∷ []) _ ahead o

    pub cutting_on : Breaks rest w (side k) r → {vs : List ℤ} {h : Growing} {next : Zone} → Growth (insert_each (r ∷ []) (list_at ws target g.count)) NoPair g (list_at ws target g.count) vs target h → Kept target 768 ws vs
        → next ≡ keeping rest w (side k) → KeepsTo rest w (side k) next → Cutting z w g₀ target ws₀ (k + 1) next vs h
    cutting_on m {vs} {h} b f q n =
        let e = ap (λ (u : Zone). parts_on (drop (k + 1) sides) u w) (sym q) in
        record {
          most = omega arith;
          cuttable = n.cuttable;
          pairs = omega (arith, c.pairs, b.pairs, b.counted);
          growable = growable_same e (growable_on (r ∷ []) _ (growable_same part_ahead c.growable) (one_proper m) b f);
          going = going_same e (going_on (r ∷ []) _ ahead b f);
        }

  -- nothing is left of the zone, and so no part of it
  pub cutting_spent : Proper 0 1_000_000 w → ((x y : Time) → ¬ In rest x y) → Growth (insert_each (parts z w) (list_at ws₀ target g₀.count)) NoPair g₀ (list_at ws₀ target g₀.count) ws target g
  cutting_spent p n = going_end refl (going_none (parts_on (drop k sides) rest w) (none_part rest w (drop k sides) c.cuttable p n) c.going) 0 refl (omega (arith, c.pairs))

  -- all six are put
  pub cutting_end : ¬ (k < 6) → Growth (insert_each (parts z w) (list_at ws₀ target g₀.count)) NoPair g₀ (list_at ws₀ target g₀.count) ws target g
  cutting_end n = going_end (parts_end rest w {k = k} (omega (arith, c.most))) c.going 0 refl (omega (arith, c.pairs))

-- ---- the parts of each zone of a list

-- of the n zones at `source` the parts of those from the i-th on are still to come
pub record Replacing (w : Zone) (source n : ℕ) (g₀ : Growing) (target : ℕ) (ws₀ : List ℤ) (i : ℕ) (ws : List ℤ) (g : Growing) : Type 0 where
  pub most : i ≤ n
  pub pairs : g.pairs ≡ g₀.pairs
  pub growable : Growable ws target g (parts_each w (list_at ws₀ (source + i * 6) (n - i)))
  pub going : Going (parts_each w (list_at ws₀ (source + i * 6) (n - i))) (insert_each (parts_each w (list_at ws₀ source n)) (list_at ws₀ target g₀.count)) g₀ (list_at ws₀ target g₀.count) target ws₀ ws g

-- an empty list that begins to grow
pub begun_supply : {ws : List ℤ} {source n target : ℕ} {g : Growing} → Begins 0 g → Supply ws source n target 0 → Supply ws source n target g.count
begun_supply {ws} {source} {n} {target} b s = subst (Supply ws source n target) (sym b.count) s

pub begun_growable : {ws : List ℤ} {target : ℕ} {g : Growing} {todo : List (Option Zone)} → Begins 0 g → Slot ws target 0 → ShareNone todo → Growable ws target g todo
begun_growable {ws} {target} {g} {todo} b s h =
    let none = sym (begun_none ws target b) in
    record {
      stands = begun_stands b s;
      sound = subst Sound none (λ z m. absurd (not-nil m));
      shared = subst (λ (L : List Zone). ShareNone (map Some L ++ todo)) none h;
    }
  where
    begun_none : (ws : List ℤ) (target : ℕ) {g : Growing} → Begins 0 g → list_at ws target g.count ≡ []
    begun_none ws target b = ap (list_at ws target) b.count ∙ (unfold list_at in refl)

pub replacing_start : (w : Zone) (source n : ℕ) (g : Growing) (target : ℕ) (ws : List ℤ) → Growable ws target g (parts_each w (list_at ws source n)) → Replacing w source n g target ws 0 ws g
replacing_start w source n g target ws a =
    let e : source + 0 * 6 ≡ source = omega arith in
    let f : n - 0 ≡ n = omega arith in
    record { most = omega arith; pairs = refl; growable = growable_same (rw (e, f)) a; going = going_same (rw (e, f)) (going_start (parts_each w (list_at ws source n)) target ws g a.stands) }

module _ {w : Zone} {source n : ℕ} {g₀ : Growing} {target : ℕ} {ws₀ : List ℤ} {i : ℕ} {ws : List ℤ} {g : Growing} (c : Replacing w source n g₀ target ws₀ i ws g) where
  module _ (s : Supply ws₀ source n target g₀.count) (l : i < n) where
    -- the zone at hand can be read
    pub replacing_there : source + i * 6 + 6 ≤ length ws
    replacing_there = omega (arith, (still_zones (supply_zones s) c.going.frame).room)

    module _ {u : Zone} (e : u ≡ zone_at ws (source + i * 6)) where
      at_hand : u ≡ zone_at ws₀ (source + i * 6)
      at_hand = e ∙ read_there (supply_zones s) i l c.going.frame

      pub replacing_proper : Proper 0 1_000_000 u
      replacing_proper = subst (Proper 0 1_000_000) (sym at_hand) (proper_there (supply_zones s) i l)

      zone_ahead : parts_each w (list_at ws₀ (source + i * 6) (n - i)) ≡ parts u w ++ parts_each w (list_at ws₀ (source + (i + 1) * 6) (n - (i + 1)))
      zone_ahead = ap (parts_each w) (list_at_next ws₀ source n i l) ∙ each_next (zone_at ws₀ (source + i * 6)) ∙ ap (λ (v : Zone). parts v w ++ parts_each w (list_at ws₀ (source + (i + 1) * 6) (n - (i + 1)))) (sym at_hand)
        where
          each_next : (z : Zone) → parts_each w (z ∷ list_at ws₀ (source + (i + 1) * 6) (n - (i + 1))) ≡ parts z w ++ parts_each w (list_at ws₀ (source + (i + 1) * 6) (n - (i + 1)))
          each_next z = unfold parts_each in refl

      pub replacing_growable : Growable ws target g (parts u w)
      replacing_growable = growable_front (parts u w) _ (growable_same zone_ahead c.growable)

      next : Going (parts u w ++ parts_each w (list_at ws₀ (source + (i + 1) * 6) (n - (i + 1)))) (insert_each (parts_each w (list_at ws₀ source n)) (list_at ws₀ target g₀.count)) g₀ (list_at ws₀ target g₀.count) target ws₀ ws g
      next = going_same zone_ahead c.going

      pub replacing_overflow : {P : Type 0} → (insert_each (parts u w) (list_at ws target g.count) ≡ overflow) × P → (insert_each (parts_each w (list_at ws₀ source n)) (list_at ws₀ target g₀.count) ≡ overflow) × P
      replacing_overflow o = going_overflow (parts u w) _ next o

      pub replacing_on : {vs : List ℤ} {h : Growing} → Growth (insert_each (parts u w) (list_at ws target g.count)) NoPair g (list_at ws target g.count) vs target h → Kept target 768 ws vs → Replacing w source n g₀ target ws₀ (i + 1) vs h
      replacing_on b f =
          record {
            most = omega arith;
            pairs = omega (arith, c.pairs, b.pairs, b.counted);
            growable = growable_on (parts u w) _ (growable_same zone_ahead c.growable) (parts_proper w replacing_proper) b f;
            going = going_on (parts u w) _ next b f;
          }

  pub replacing_end : n ≤ i → Growth (insert_each (parts_each w (list_at ws₀ source n)) (list_at ws₀ target g₀.count)) NoPair g₀ (list_at ws₀ target g₀.count) ws target g
  unfolding parts_each
  replacing_end h = going_end (ap (parts_each w) (nothing_left ws₀ (source + i * 6) n i h)) c.going 0 refl (omega (arith, c.pairs))
