-- How late the zones of a list start.
use Rattle.std.specs.Prelude.{Some}
use mathlib.Core.Path.{◌≡◌, sym, ap, subst, ◌∙◌}
use mathlib.Core.Bool.{Bool, true, false, ◌&&◌}
use mathlib.Core.Logic.{◌⊎◌, inl, inr}
use mathlib.Core.List.Memᴰ.{eq_of_singleton}
use mathlib.Core.List.Memᴰ.{not-nil}
use mathlib.Core.List.{List, [], ◌∷◌, Memᴰ}
use Prim.Native.Nat.{ℕ}
use lib.IntN.{ℤ, pos, neg_ℤ}
use lib.Signed.{lt_z, le_z}
use Rattle.signed.proofs.Integers.{arithZ, size, T_is}
use Rattle.limit.specs.declared.Limit.{Limit}
use Rattle.limit.specs.declared.Limit.TheVariants.{AtMost, Below}
use Rattle.limit.specs.Limit.{◌≤ᴸ◌, code, decode, Small, lesser, greater}
use Rattle.limit.proofs.Coding.{decode_order, decode_code}
use Rattle.limit.proofs.Order.{≤_trans, lesser_l, lesser_r, greater_l, greater_r}
use Rattle.zone.specs.declared.Zone.{Zone}
use Rattle.zone.proofs.Laws.{ranged, contains_starts}
use Rattle.words.specs.Words.{word, zone_at}
use Rattle.list.specs.Insert.{insert, placed}
use Rattle.list.specs.Members.{Apart}
use Rattle.list.specs.Slots.{Sound}
use Rattle.list.proofs.Coverage.{puts_mem, placed_puts}
use Rattle.growing.specs.declared.Latest.{Latest}
use Rattle.growing.specs.Growth.{NotLater, NoLater}
use Rattle.growing.specs.Steps.{LaterAs, Takes}

pub none_later : (latest : Latest) → NoLater latest []
none_later latest z m = absurd (not-nil m)

-- a zone whose limits on start are both later lies inside none, and around none
pub later_apart : {latest : Latest} (z : Zone) → ¬ (z.start ≤ᴸ decode latest.start) → ¬ (decode latest.nstart ≤ᴸ z.nstart) → (L : List Zone) → NoLater latest L → Apart z L
later_apart z f g L late y m = (λ t. f (≤_trans (contains_starts y z t).0 (late y m).start), λ t. g (≤_trans (late y m).nstart (contains_starts z y t).1))

-- a placed zone
pub late_placed : {latest r : Latest} (z : Zone) (L : List Zone) {M : List Zone} → insert z L ≡ placed M → NoLater latest L → Takes latest z r → NoLater r M
late_placed {r = r} z L e late t y m = go (puts_mem (placed_puts z L e) m)
  where
    go : Memᴰ y L ⊎ Memᴰ (Some y) (Some z ∷ []) → NotLater r y
    go (inl n) = t.others y (late y n)
    go (inr n) = let p = eq_of_singleton n in let q : y ≡ z = cc in subst (NotLater r) (sym q) t.new

-- ---- what the words say

-- a word above another has the greater limit
above : (a b : ℤ) → lt_z a b ≡ true → ¬ (decode b ≤ᴸ decode a)
above a b e h = let t : le_z b a ≡ true = sym (decode_order b a) ∙ T_is h.le in let q : ◌≡◌ {A = ℕ} 0 1 = omega (arithZ, t, e) in omega (arithZ, q)

-- both of the new zone's words on start are later
pub later_by : (latest : Latest) (ws : List ℤ) (a b : Bool) → lt_z latest.start (word ws 0) ≡ a → lt_z (word ws 1) latest.nstart ≡ b → LaterAs latest (zone_at ws 0) (a && b)
unfolding zone_at
later_by latest ws true true e f = later_apart (zone_at ws 0) (above latest.start (word ws 0) e) (above (word ws 1) latest.nstart f)
later_by latest ws true false e f = tt
later_by latest ws false b e f = tt

-- the greater and the lesser of both
pub takes : (latest r : Latest) (ws : List ℤ) → r.start ≡ code (greater (decode latest.start) (decode (word ws 0))) → r.nstart ≡ code (lesser (decode latest.nstart) (decode (word ws 1))) → Takes latest (zone_at ws 0) r
unfolding zone_at
takes latest r ws e f =
    let p : decode r.start ≡ greater (decode latest.start) (decode (word ws 0)) = ap decode e ∙ decode_code _ in
    let q : decode r.nstart ≡ lesser (decode latest.nstart) (decode (word ws 1)) = ap decode f ∙ decode_code _ in
    record {
      new = record { start = rw p (greater_r _ _); nstart = rw q (lesser_r _ _) };
      others = λ y l. record { start = rw p (≤_trans l.start (greater_l _ _)); nstart = rw q (≤_trans (lesser_l _ _) l.nstart) };
    }

-- zones inside 0..1,000,000 start within these words
most_word : (l : Limit) → Small 1_000_000 l → l ≤ᴸ decode (pos 2_000_002)
most_word (AtMost v) h = record { le = omega (arithZ, size v, h) }
most_word (Below v) h = record { le = omega (arithZ, size v, h) }

least_word : (l : Limit) → Small 1_000_000 l → decode (neg_ℤ (pos 2_000_002)) ≤ᴸ l
least_word (AtMost v) h = record { le = omega (arithZ, size v, h) }
least_word (Below v) h = record { le = omega (arithZ, size v, h) }

pub sound_late : (L : List Zone) → Sound L → NoLater (record { start = pos 2_000_002; nstart = neg_ℤ (pos 2_000_002) }) L
sound_late L s z m = let r = ranged (s z m) in record { start = most_word _ r.start; nstart = least_word _ r.nstart }
