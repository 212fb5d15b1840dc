-- The loops that go over a list once: what is left of it, and what the zone at hand decides.
use mathlib.Core.Path.{◌≡◌, refl, sym, ap, subst, ◌∙◌}
use mathlib.Core.Bool.{Bool, true, false, cond, ◌||◌}
use mathlib.Core.Logic.{inl, inr}
use mathlib.Core.List.{List, [], ◌∷◌, ◌++◌, append_assoc, append-nil}
use Prim.Native.Nat.{ℕ, suc, ◌+◌, ◌-◌, ◌*◌, ◌≤◌, ◌<◌}
use native.Mathlib.Omega.{arith}
use native.Mathlib.Numerals.{add-one}
use lib.IntN.{ℤ}
use lib.ListN.{length, length-append}
use Rattle.zone.specs.declared.Zone.{Zone}
use Rattle.zone.specs.Zone.{contains}
use Rattle.words.specs.Words.{zone_at}
use Rattle.list.specs.Insert.{covered, outside}
use Rattle.words.proofs.Words.{same_zone}
use Rattle.list.specs.Slots.{list_at, Holds, Kept, Copied}
use Rattle.list.specs.Steps.{KeepsAs, Sifting, Clear, Yields, Alone, LookAs}
use Rattle.list.specs.declared.Look.{Look}
use Rattle.list.specs.declared.Look.TheVariants.{Held, Apart, One, Several}
use Rattle.list.proofs.Slots.{list_at_length, list_at_next, list_at_split, list_at_snoc, kept_refl, list_at_kept, list_at_copied, kept_trans, kept_within}

pub nothing_left : (ws : List ℤ) (a n i : ℕ) → n ≤ i → list_at ws a (n - i) ≡ []
unfolding list_at
nothing_left ws a n i h = let e : n - i ≡ 0 = omega arith in ap (list_at ws a) e

-- ---- looking over a list, zone by zone

covered_append : (z : Zone) (A B : List Zone) → covered z (A ++ B) ≡ covered z A || covered z B
unfolding covered
covered_append z [] B = refl
covered_append z (y ∷ A) B = at (contains y z) (covered_append z A B)
  where
    at : (b : Bool) → covered z (A ++ B) ≡ covered z A || covered z B → b || covered z (A ++ B) ≡ (b || covered z A) || covered z B
    at true e = refl
    at false e = e

outside_append : (z : Zone) (A B : List Zone) → outside z (A ++ B) ≡ outside z A ++ outside z B
unfolding outside
outside_append z [] B = refl
outside_append z (y ∷ A) B = at (contains z y) (outside_append z A B)
  where
    at : (b : Bool) → outside z (A ++ B) ≡ outside z A ++ outside z B → cond b (outside z (A ++ B)) (y ∷ outside z (A ++ B)) ≡ cond b (outside z A) (y ∷ outside z A) ++ outside z B
    at true e = e
    at false e = ap (λ (L : List Zone). y ∷ L) e

or_true : (b : Bool) → b || true ≡ true
or_true true = refl
or_true false = refl

-- a zone of the list that holds z
pub held_here : (z : Zone) (ws : List ℤ) (base n i : ℕ) → i < n → contains (zone_at ws (base + i * 6)) z ≡ true → covered z (list_at ws base n) ≡ true
unfolding covered
held_here z ws base n i h e =
    let f : n ≡ i + (n - i) = omega arith in
    ap (λ (m : ℕ). covered z (list_at ws base m)) f
    ∙ ap (covered z) (list_at_split ws base i (n - i))
    ∙ covered_append z (list_at ws base i) (list_at ws (base + i * 6) (n - i))
    ∙ ap (λ (L : List Zone). covered z (list_at ws base i) || covered z L) (list_at_next ws base n i h)
    ∙ rw e (or_true (covered z (list_at ws base i)))

pub none_seen : (z : Zone) (ws : List ℤ) (base : ℕ) → Clear z ws base 0 0
unfolding covered outside list_at
none_seen z ws base = record { most = omega arith; new = refl; front = refl }

module _ (z : Zone) (ws : List ℤ) (base i : ℕ) where
  one_more : list_at ws base (i + 1) ≡ list_at ws base i ++ (zone_at ws (base + i * 6) ∷ [])
  one_more = ap (list_at ws base) (add-one i) ∙ list_at_snoc ws base i

  covered_more : covered z (list_at ws base (i + 1)) ≡ covered z (list_at ws base i) || (contains (zone_at ws (base + i * 6)) z || false)
  unfolding covered
  covered_more = ap (covered z) one_more ∙ covered_append z (list_at ws base i) (zone_at ws (base + i * 6) ∷ [])

  outside_more : outside z (list_at ws base (i + 1)) ≡ outside z (list_at ws base i) ++ cond (contains z (zone_at ws (base + i * 6))) [] (zone_at ws (base + i * 6) ∷ [])
  unfolding outside
  outside_more = ap (outside z) one_more ∙ outside_append z (list_at ws base i) (zone_at ws (base + i * 6) ∷ [])

  pub still_held : covered z (list_at ws base i) ≡ true → covered z (list_at ws base (i + 1)) ≡ true
  still_held e = covered_more ∙ rw e

  pub still_clear : {k : ℕ} → contains (zone_at ws (base + i * 6)) z ≡ false → Clear z ws base i k → Clear z ws base (i + 1) k
  still_clear e c = record { most = omega (arith, c.most); new = covered_more ∙ rw (c.new, e); front = c.front }

  pub still_yields : {k : ℕ} → contains (zone_at ws (base + i * 6)) z ≡ false → Yields z ws base i k → Yields z ws base (i + 1) k
  still_yields e y = record { some = omega (arith, y.some); clear = still_clear e y.clear; inside = y.inside }

  -- a zone that is apart from z
  pub look_on : (seen : Look) → contains (zone_at ws (base + i * 6)) z ≡ false → contains z (zone_at ws (base + i * 6)) ≡ false → LookAs z ws base i seen → LookAs z ws base (i + 1) seen
  look_on Held e f l = still_held l
  look_on Apart e f l = record { most = omega arith; new = covered_more ∙ rw (l.new, e); front = outside_more ∙ rw (f, l.front) (sym one_more) }
  look_on (One k) e f l =
      let some = l.yields.some in
      let m : i + 1 - k - 1 ≡ suc (i - k - 1) = omega arith in
      let at : base + k * 6 + 6 + (i - k - 1) * 6 ≡ base + i * 6 = omega arith in
      let tail : list_at ws (base + k * 6 + 6) (i + 1 - k - 1) ≡ list_at ws (base + k * 6 + 6) (i - k - 1) ++ (zone_at ws (base + i * 6) ∷ []) =
      ap (list_at ws (base + k * 6 + 6)) m ∙ list_at_snoc ws (base + k * 6 + 6) (i - k - 1) ∙ ap (λ (a : ℕ). list_at ws (base + k * 6 + 6) (i - k - 1) ++ (zone_at ws a ∷ [])) at in
      record {
        yields = still_yields e l.yields;
        left = outside_more ∙ rw (f, l.left) (append_assoc (list_at ws base k) (list_at ws (base + k * 6 + 6) (i - k - 1)) (zone_at ws (base + i * 6) ∷ [])) ∙ ap (λ (L : List Zone). list_at ws base k ++ L) (sym tail);
      }
  look_on (Several k) e f l = still_yields e l

  -- one that lies inside z
  pub first_inside : contains (zone_at ws (base + i * 6)) z ≡ false → contains z (zone_at ws (base + i * 6)) ≡ true → Clear z ws base i i → Alone z ws base (i + 1) i
  unfolding list_at
  first_inside e f c =
      let m : i + 1 - i - 1 ≡ 0 = omega arith in
      record {
        yields = record { some = omega arith; clear = still_clear e c; inside = f };
        left = outside_more ∙ rw (f, c.front, m);
      }

-- ---- what was seen, for the zones that stay

pub sifted : {z : Zone} {ws : List ℤ} {base n k : ℕ} → Clear z ws base n k → Sifting z base n ws ws k k
sifted {z} {ws} {base} {n} {k} c =
    let f : n ≡ k + (n - k) = omega (arith, c.most) in
    record {
      fewer = omega arith;
      most = c.most;
      value = ap (λ (m : ℕ). outside z (list_at ws base m)) f ∙ ap (outside z) (list_at_split ws base k (n - k)) ∙ outside_append z (list_at ws base k) (list_at ws (base + k * 6) (n - k)) ∙ rw c.front;
      frame = kept_refl base 768 ws;
    }

pub all_stay : {z : Zone} {ws : List ℤ} {base n : ℕ} → Clear z ws base n n → n ≤ 128 → Holds ws base n (outside z (list_at ws base n))
all_stay {z} {ws} {base} {n} c few = record { count = ap length c.front ∙ list_at_length ws base n; few = few; zones = sym c.front }

-- ---- the zones outside a new one

module _ {z : Zone} {base n : ℕ} {ws₀ ws : List ℤ} {kept i : ℕ} (s : Sifting z base n ws₀ ws kept i) (l : i < n) (few : n ≤ 128) where
  rests : (b : Bool) → contains z (zone_at ws (base + i * 6)) ≡ b
      → outside z (list_at ws₀ base n) ≡ list_at ws base kept ++ cond b (outside z (list_at ws (base + (i + 1) * 6) (n - (i + 1)))) (zone_at ws (base + i * 6) ∷ outside z (list_at ws (base + (i + 1) * 6) (n - (i + 1))))
  unfolding outside
  rests b e =
      s.value
      ∙ ap (λ (m : List Zone). list_at ws base kept ++ outside z m) (list_at_next ws base n i l)
      ∙ ap (λ (c : Bool). list_at ws base kept ++ cond c (outside z (list_at ws (base + (i + 1) * 6) (n - (i + 1)))) (zone_at ws (base + i * 6) ∷ outside z (list_at ws (base + (i + 1) * 6) (n - (i + 1))))) e

  settled : {vs : List ℤ} {r : ℕ} (b : Bool) → contains z (zone_at ws (base + i * 6)) ≡ b → KeepsAs b (base + i * 6) base kept ws vs r → Sifting z base n ws₀ vs r (i + 1)
  settled {vs} {r} true e k =
      subst (λ (us : List ℤ). Sifting z base n ws₀ us r (i + 1)) (sym k.1)
      (subst (λ (m : ℕ). Sifting z base n ws₀ ws m (i + 1)) (sym k.0)
      (record { fewer = omega (arith, s.fewer); most = omega arith; value = rests true e; frame = s.frame }))
  settled {vs} {r} false e k =
      let y = zone_at ws (base + i * 6) in
      let c = k.1 in
      let front : list_at vs base kept ≡ list_at ws base kept = list_at_kept base kept c.kept (inl (omega arith)) in
      let new : zone_at vs (base + kept * 6) ≡ y = same_zone vs ws (base + kept * 6) (base + i * 6) c.moved in
      let back : list_at vs (base + (i + 1) * 6) (n - (i + 1)) ≡ list_at ws (base + (i + 1) * 6) (n - (i + 1)) = list_at_kept (base + (i + 1) * 6) (n - (i + 1)) c.kept (inr (omega (arith, s.fewer))) in
      let both : list_at vs base (suc kept) ≡ list_at ws base kept ++ (y ∷ []) = list_at_snoc vs base kept ∙ (λ j. front j ++ (new j ∷ [])) in
      let all : outside z (list_at ws₀ base n) ≡ list_at vs base (suc kept) ++ outside z (list_at vs (base + (i + 1) * 6) (n - (i + 1))) =
      rests false e ∙ sym (append_assoc (list_at ws base kept) (y ∷ []) (outside z (list_at ws (base + (i + 1) * 6) (n - (i + 1))))) ∙ (λ j. sym both j ++ outside z (sym back j)) in
      subst (λ (m : ℕ). Sifting z base n ws₀ vs m (i + 1)) (sym (add-one kept) ∙ sym k.0)
      (record { fewer = omega (arith, s.fewer); most = omega arith; value = all; frame = kept_trans s.frame (kept_within (omega arith) (omega (arith, s.fewer)) c.kept) })

  pub sift_step : {vs : List ℤ} {r : ℕ} → KeepsAs (contains z (zone_at ws (base + i * 6))) (base + i * 6) base kept ws vs r → Sifting z base n ws₀ vs r (i + 1)
  sift_step = settled (contains z (zone_at ws (base + i * 6))) refl

-- where a zone gives way, there are fewer than before
fewer_outside : (z : Zone) (L : List Zone) → length (outside z L) ≤ length L
unfolding outside
fewer_outside z [] = omega arith
fewer_outside z (y ∷ L) = go (contains z y) (fewer_outside z L)
  where
    go : (b : Bool) → length (outside z L) ≤ length L → length (cond b (outside z L) (y ∷ outside z L)) ≤ suc (length L)
    go true h = omega arith
    go false h = omega arith

pub yields_fewer : {z : Zone} {ws : List ℤ} {base n k : ℕ} → Yields z ws base n k → n ≤ 128 → length (outside z (list_at ws base n)) < n
yields_fewer {z} {ws} {base} {n} {k} y few =
    let rest = list_at ws (base + (k + 1) * 6) (n - (k + 1)) in
    let e : outside z (list_at ws base n) ≡ list_at ws base k ++ outside z rest = rests (sifted y.clear) y.some few true y.inside in
    omega (arith, y.some, ap length e, length-append (list_at ws base k) (outside z rest), list_at_length ws base k, fewer_outside z rest, list_at_length ws (base + (k + 1) * 6) (n - (k + 1)))

pub sift_end : {z : Zone} {base n : ℕ} {ws₀ ws : List ℤ} {kept i : ℕ} → Sifting z base n ws₀ ws kept i → n ≤ i → n ≤ 128 → Holds ws base kept (outside z (list_at ws₀ base n))
unfolding outside
sift_end {z} {base} {n} {ws₀} {ws} {kept} {i} s h few =
    let e : outside z (list_at ws₀ base n) ≡ list_at ws base kept = s.value ∙ ap (λ (m : List Zone). list_at ws base kept ++ outside z m) (nothing_left ws (base + i * 6) n i h) ∙ append-nil (list_at ws base kept) in
    record { count = ap length e ∙ list_at_length ws base kept; few = omega (arith, s.fewer, s.most); zones = sym e }

-- ---- one zone that gives way alone

-- the zones behind it have closed the gap
module _ {z : Zone} {base n k : ℕ} {ws vs : List ℤ} (a : Alone z ws base n k) (few : n ≤ 128) (c : Copied (base + k * 6 + 6) (base + k * 6) ((n - k - 1) * 6) ws vs) where
  moved : list_at vs base (n - 1) ≡ list_at ws base k ++ list_at ws (base + k * 6 + 6) (n - k - 1)
  moved =
      let e : n - 1 ≡ k + (n - k - 1) = omega (arith, a.yields.some) in
      let front : list_at vs base k ≡ list_at ws base k = list_at_kept base k c.kept (inl (omega arith)) in
      let back : list_at vs (base + k * 6) (n - k - 1) ≡ list_at ws (base + k * 6 + 6) (n - k - 1) = list_at_copied (n - k - 1) c in
      ap (list_at vs base) e ∙ list_at_split vs base k (n - k - 1) ∙ (λ i. front i ++ back i)

  pub closed : Holds vs base (n - 1) (outside z (list_at ws base n))
  closed =
      let e : list_at vs base (n - 1) ≡ outside z (list_at ws base n) = moved ∙ sym a.left in
      record { count = ap length (sym e) ∙ list_at_length vs base (n - 1); few = omega arith; zones = e }

  pub closed_kept : Kept base 768 ws vs
  closed_kept = kept_within (omega arith) (omega (arith, a.yields.some)) c.kept
