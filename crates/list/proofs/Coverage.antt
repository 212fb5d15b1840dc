-- What puts do to a list: what it covers and what lies in it afterwards, and what they keep. Everything follows from the puts as they went,
-- `Puts`; no lemma here looks inside a zone.
use Rattle.std.specs.Prelude.{Option, Some, None}
use mathlib.Core.Path.{◌≡◌, refl, sym, ap, subst}
use mathlib.Core.Logic.{◌↔◌, ◌⊎◌, inl, inr, ⊎_map, ⊎_elim}
use mathlib.Core.Bool.{Bool, true, false, cond, ◌||◌}
use mathlib.Core.List.Memᴰ.{append_cases}
use mathlib.Core.List.Memᴰ.{append_left}
use mathlib.Core.List.Memᴰ.{append_right}
use mathlib.Core.List.Memᴰ.{eq_of_singleton}
use mathlib.Core.List.Memᴰ.{head}
use mathlib.Core.List.Memᴰ.{not-nil}
use mathlib.Core.List.Memᴰ.{tail}
use mathlib.Core.List.{List, [], ◌∷◌, ◌++◌, Memᴰ}
use Prim.Native.Nat.{ℕ, ◌≤◌, ◌<◌}
use native.Mathlib.Omega.{arith}
use borrow.Author.Tests.{ltb-true, ltb-false}
use lib.Dec.{T, ltb}
use lib.ListN.{length, length-append}
use Rattle.limit.specs.Time.{Time}
use Rattle.zone.specs.declared.Zone.{Zone}
use Rattle.zone.specs.Zone.{contains, In, InMaybe, Proper}
use Rattle.zone.proofs.Laws.{contains_refl, contains_trans, contains_in}
use Rattle.list.specs.Insert.{capacity, covered, outside, Put, away, placed, overflow, insert, listed, after, insert_each}
use Rattle.list.specs.Members.{Lies, AllProper, Covered, Apart}
use Rattle.list.proofs.Antichain.{Antichain}

-- two constructors are never equal: `clash (cc)`
pub clash : {A : Type 0} → ◌≡◌ {A = ℕ} 0 1 → A
clash e = absurd (omega arith)

-- ---- the test

covered_by : (z : Zone) (L : List Zone) → T (covered z L) → Covered z L
unfolding covered
covered_by z [] t = absurd t
covered_by z (y ∷ L) t = go (covered_by z L) (contains y z) refl t
  where
    go : (T (covered z L) → Covered z L) → (b : Bool) → contains y z ≡ b → T (b || covered z L) → Covered z (y ∷ L)
    go below true e t = (y, head refl, subst T (sym e) tt)
    go below false e t = let c = below t in (c.0, tail c.1, c.2)

covers : (z : Zone) {y : Zone} {L : List Zone} → Memᴰ y L → T (contains y z) → T (covered z L)
unfolding covered
covers z (head {x = a} {xs = L} e) i = go (contains a z) (subst (λ (b : Zone). T (contains b z)) e i)
  where
    go : (b : Bool) → T b → T (b || covered z L)
    go true t = tt
    go false t = elim t [ ]
covers z (tail {x = a} {xs = L} m) i = go (contains a z) (covers z m i)
  where
    go : (b : Bool) → T (covered z L) → T (b || covered z L)
    go true t = tt
    go false t = t

-- the test tells whether z lies inside a listed zone
pub covered_is : (z : Zone) (L : List Zone) → T (covered z L) ↔ Covered z L
covered_is z L = (covered_by z L, λ c. covers z c.1 c.2)

-- what lies inside a covered zone is covered
pub covered_within : (a b : Zone) {L : List Zone} → T (contains b a) → Covered b L → Covered a L
covered_within a b i c = (c.0, c.1, contains_trans c.0 b a c.2 i)

-- ---- the listed zones outside z

pub outside_mem : (z : Zone) (L : List Zone) {y : Zone} → Memᴰ y (outside z L) → Memᴰ y L × (¬ T (contains z y))
unfolding outside
outside_mem z [] m = absurd (not-nil m)
outside_mem z (a ∷ L) {y} m = go (λ n. outside_mem z L n) (contains z a) refl m
  where
    go : (Memᴰ y (outside z L) → Memᴰ y L × (¬ T (contains z y))) → (b : Bool) → contains z a ≡ b
        → Memᴰ y (cond b (outside z L) (a ∷ outside z L)) → Memᴰ y (a ∷ L) × (¬ T (contains z y))
    go below true e m = let c = below m in (tail c.0, c.1)
    go below false e (head q) = (head q, λ t. subst T e (subst (λ (k : Zone). T (contains z k)) q t))
    go below false e (tail m) = let c = below m in (tail c.0, c.1)

-- all of them, where none lies inside z
pub outside_all : (z : Zone) (L : List Zone) → ((y : Zone) → Memᴰ y L → ¬ T (contains z y)) → outside z L ≡ L
unfolding outside
outside_all z [] f = refl
outside_all z (y ∷ L) f = go (contains z y) refl (outside_all z L (λ x m. f x (tail m)))
  where
    go : (b : Bool) → contains z y ≡ b → outside z L ≡ L → cond b (outside z L) (y ∷ outside z L) ≡ y ∷ L
    go true e below = absurd (f y (head refl) (subst T (sym e) tt))
    go false e below = ap (λ (K : List Zone). y ∷ K) below

pub apart_new : (z : Zone) (L : List Zone) → Apart z L → covered z L ≡ false
apart_new z L f = go (covered z L) refl
  where
    go : (b : Bool) → covered z L ≡ b → covered z L ≡ false
    go true e = let c = covered_by z L (subst T (sym e) tt) in absurd ((f c.0 c.1).0 c.2)
    go false e = e

mem_outside : (z : Zone) {y : Zone} {L : List Zone} → Memᴰ y L → T (contains z y) ⊎ Memᴰ y (outside z L)
unfolding outside
mem_outside z {y} (head {x = a} {xs = L} q) = go (contains z a) refl
  where
    go : (b : Bool) → contains z a ≡ b → T (contains z y) ⊎ Memᴰ y (cond b (outside z L) (a ∷ outside z L))
    go true e = inl (subst (λ (k : Zone). T (contains z k)) (sym q) (subst T (sym e) tt))
    go false e = inr (head q)
mem_outside z {y} (tail {x = a} {xs = L} m) = go (contains z a) (mem_outside z m)
  where
    go : (b : Bool) → T (contains z y) ⊎ Memᴰ y (outside z L) → T (contains z y) ⊎ Memᴰ y (cond b (outside z L) (a ∷ outside z L))
    go b (inl i) = inl i
    go true (inr n) = inr n
    go false (inr n) = inr (tail n)

outside_antichain : (z : Zone) (L : List Zone) → Antichain L → Antichain (outside z L)
unfolding outside
outside_antichain z [] h = tt
outside_antichain z (a ∷ L) h = go (outside_antichain z L h.1) (contains z a)
  where
    go : Antichain (outside z L) → (b : Bool) → Antichain (cond b (outside z L) (a ∷ outside z L))
    go k true = k
    go k false = (λ y m. h.0 y (outside_mem z L m).0, k)

last_antichain : (z : Zone) (L : List Zone) → Antichain L → Apart z L → Antichain (L ++ (z ∷ []))
last_antichain z [] h a = (λ y m. absurd (not-nil m), tt)
last_antichain z (x ∷ L) h a = (λ y m. go y (append_cases L m), last_antichain z L h.1 (λ y m. a y (tail m)))
  where
    go : (y : Zone) → Memᴰ y L ⊎ Memᴰ y (z ∷ []) → (¬ T (contains y x)) × (¬ T (contains x y))
    go y (inl m) = h.0 y m
    go y (inr m) =
        let k = a x (head refl) in
        let e = eq_of_singleton m in
        (λ i. k.1 (subst (λ (q : Zone). T (contains q x)) e i), λ i. k.0 (subst (λ (q : Zone). T (contains x q)) e i))

-- ---- one put

-- the list that a put leaves: z goes last
abbrev pub with_last : Zone → List Zone → List Zone
with_last z L = outside z L ++ (z ∷ [])

-- what a put comes to, and when
pub insert_cases : (z : Zone) (L : List Zone) (P : Put → Type 0) → (Covered z L → P away)
    → (¬ Covered z L → length (outside z L) < capacity → P (placed (with_last z L)))
    → (¬ Covered z L → capacity ≤ length (outside z L) → P overflow) → P (insert z L)
unfolding insert
insert_cases z L P f g h = go (covered z L) (ltb (length (outside z L)) capacity) refl refl
  where
    go : (a b : Bool) → covered z L ≡ a → ltb (length (outside z L)) capacity ≡ b → P (cond a away (cond b (placed (with_last z L)) overflow))
    go true b p q = f (covered_by z L (subst T (sym p) tt))
    go false true p q = g (λ c. subst T p ((covered_is z L).1 c)) (ltb-true (length (outside z L)) capacity q)
    go false false p q = h (λ c. subst T p ((covered_is z L).1 c)) (ltb-false (length (outside z L)) capacity q)

-- ---- puts one after the other

-- the puts of `insert_each` that come from L to a list M, each as it went: passed over, turned away, placed
pub data Puts : List (Option Zone) → List Zone → List Zone → Type 0 where
  done : {L : List Zone} → Puts [] L L
  pass : {rest : List (Option Zone)} {L M : List Zone} → Puts rest L M → Puts (None ∷ rest) L M
  stay : {z : Zone} {rest : List (Option Zone)} {L M : List Zone} → Covered z L → Puts rest L M → Puts (Some z ∷ rest) L M
  place : {z : Zone} {rest : List (Option Zone)} {L M : List Zone} → ¬ Covered z L → length (outside z L) < capacity → Puts rest (with_last z L) M → Puts (Some z ∷ rest) L M

pub puts : (rs : List (Option Zone)) (L : List Zone) {M : List Zone} → insert_each rs L ≡ listed M → Puts rs L M
unfolding insert_each
puts [] L {M} e = let q : L ≡ M = cc in subst (Puts [] L) q done
puts (None ∷ rest) L e = pass (puts rest L e)
puts (Some z ∷ rest) L {M} e =
    insert_cases z L (λ p. ((K : List Zone) → insert_each rest K ≡ listed M → Puts rest K M) → after p L (insert_each rest) ≡ listed M → Puts (Some z ∷ rest) L M)
    (λ c below q. stay c (below L q)) (λ n h below q. place n h (below (with_last z L) q)) (λ n h below q. clash (cc))
    (λ K q. puts rest K q) e

-- every listed zone was listed before or was put
pub puts_mem : {rs : List (Option Zone)} {L M : List Zone} → Puts rs L M → {y : Zone} → Memᴰ y M → Memᴰ y L ⊎ Memᴰ (Some y) rs
puts_mem done m = inl m
puts_mem (pass p) m = ⊎_map (λ n. n) tail (puts_mem p m)
puts_mem (stay c p) m = ⊎_map (λ n. n) tail (puts_mem p m)
puts_mem (place {z} {rest} {L} c h p) {y} m = ⊎_elim (λ n. go (append_cases (outside z L) n)) (λ n. inr (tail n)) (puts_mem p m)
  where
    go : Memᴰ y (outside z L) ⊎ Memᴰ y (z ∷ []) → Memᴰ y L ⊎ Memᴰ (Some y) (Some z ∷ rest)
    go (inl n) = inl (outside_mem z L n).0
    go (inr n) = inr (head (ap Some (eq_of_singleton n)))

last_new : (z : Zone) (L : List Zone) → Covered z (with_last z L)
last_new z L = (z, append_right (outside z L) (head refl), contains_refl z)

last_keeps : (z x : Zone) {L : List Zone} → Covered x L → Covered x (with_last z L)
last_keeps z x {L} c = go (mem_outside z c.1)
  where
    go : T (contains z c.0) ⊎ Memᴰ c.0 (outside z L) → Covered x (with_last z L)
    go (inl i) = (z, append_right (outside z L) (head refl), contains_trans z c.0 x i c.2)
    go (inr m) = (c.0, append_left (z ∷ []) m, c.2)

-- a put never loses coverage
pub puts_keep : {rs : List (Option Zone)} {L M : List Zone} → Puts rs L M → (x : Zone) → Covered x L → Covered x M
puts_keep done x c = c
puts_keep (pass p) x c = puts_keep p x c
puts_keep (stay _ p) x c = puts_keep p x c
puts_keep (place {z} _ _ p) x c = puts_keep p x (last_keeps z x c)

-- every zone that was put is covered
pub puts_new : {rs : List (Option Zone)} {L M : List Zone} → Puts rs L M → (x : Zone) → Memᴰ (Some x) rs → Covered x M
puts_new done x m = absurd (not-nil m)
puts_new (pass p) x (head e) = clash (cc)
puts_new (pass p) x (tail m) = puts_new p x m
puts_new (stay {z} {L = L} c p) x (head e) = puts_keep p x (let q : z ≡ x = cc in subst (λ (k : Zone). Covered k L) q c)
puts_new (stay c p) x (tail m) = puts_new p x m
puts_new (place {z} {L = L} _ _ p) x (head e) = puts_keep p x (let q : z ≡ x = cc in subst (λ (k : Zone). Covered k (with_last z L)) q (last_new z L))
puts_new (place _ _ p) x (tail m) = puts_new p x m

-- tight zones inside from..to stay so ..
pub puts_proper : {from to : ℕ} {rs : List (Option Zone)} {L M : List Zone} → Puts rs L M → AllProper from to L → ((z : Zone) → Memᴰ (Some z) rs → Proper from to z) → AllProper from to M
puts_proper p h k z m = ⊎_elim (h z) (k z) (puts_mem p m)

-- .. none lies inside another ..
pub puts_antichain : {rs : List (Option Zone)} {L M : List Zone} → Puts rs L M → Antichain L → Antichain M
puts_antichain done h = h
puts_antichain (pass p) h = puts_antichain p h
puts_antichain (stay _ p) h = puts_antichain p h
puts_antichain (place {z} {L = L} n _ p) h =
    puts_antichain p
    (last_antichain z (outside z L) (outside_antichain z L h) (λ y m. let k = outside_mem z L m in (λ i. n (y, k.0, i), k.1)))

-- .. and there are no more than 128
pub puts_length : {rs : List (Option Zone)} {L M : List Zone} → Puts rs L M → length L ≤ capacity → length M ≤ capacity
puts_length done h = h
puts_length (pass p) h = puts_length p h
puts_length (stay _ p) h = puts_length p h
puts_length (place {z} {L = L} _ k p) h = puts_length p (omega (arith, length-append (outside z L) (z ∷ [])))

-- puts that change the list put a zone that it did not cover
pub puts_fresh : {rs : List (Option Zone)} {L M : List Zone} → Puts rs L M → ¬ (M ≡ L) → (x : Zone) × Memᴰ (Some x) rs × (¬ Covered x L)
puts_fresh done n = absurd (n refl)
puts_fresh (pass p) n = let f = puts_fresh p n in (f.0, tail f.1, f.2)
puts_fresh (stay _ p) n = let f = puts_fresh p n in (f.0, tail f.1, f.2)
puts_fresh (place {z} c _ p) n = (z, head refl, c)

-- ---- what lies in a list

-- a stretch in a zone that is covered lies in the list
pub covered_lies : {v : Zone} {L : List Zone} {x y : Time} → Covered v L → In v x y → Lies L x y
covered_lies {v} {x = x} {y = y} c i = record { in_zone = c.0; among = c.1; member = contains_in c.0 v c.2 x y i }

-- the stretch lies in one of the zones to be put
abbrev pub Offered : List (Option Zone) → Time → Time → Type 0
Offered rs x y = (r : Option Zone) × Memᴰ r rs × InMaybe r x y

-- nothing is lost and nothing comes in: the stretches of L and those of the zones put
pub puts_lies : {rs : List (Option Zone)} {L M : List Zone} → Puts rs L M → (x y : Time) → Lies M x y ↔ (Lies L x y ⊎ Offered rs x y)
puts_lies {rs} {L} {M} p x y = (
  λ l. ⊎_map (λ m. record { in_zone = l.in_zone; among = m; member = l.member }) (λ m. (Some l.in_zone, m, l.member)) (puts_mem p l.among),
  ⊎_elim kept (λ o. new o.0 o.1 o.2),
)
  where
    kept : Lies L x y → Lies M x y
    kept l = covered_lies (puts_keep p l.in_zone (l.in_zone, l.among, contains_refl l.in_zone)) l.member

    new : (r : Option Zone) → Memᴰ r rs → InMaybe r x y → Lies M x y
    new (Some v) m i = covered_lies (puts_new p v m) i
    new None m i = absurd i

-- ---- a put by itself

-- a put that is placed is a list of puts
pub placed_each : (z : Zone) (L : List Zone) {M : List Zone} → insert z L ≡ placed M → insert_each (Some z ∷ []) L ≡ listed M
unfolding insert_each
placed_each z L e = ap (λ (p : Put). after p L listed) e

pub placed_puts : (z : Zone) (L : List Zone) {M : List Zone} → insert z L ≡ placed M → Puts (Some z ∷ []) L M
placed_puts z L e = puts (Some z ∷ []) L (placed_each z L e)

-- a put is placed only where the zone is not covered ..
pub placed_new : (z : Zone) (L : List Zone) {M : List Zone} → insert z L ≡ placed M → ¬ Covered z L
placed_new z L {M} = insert_cases z L (λ p. p ≡ placed M → ¬ Covered z L) (λ _ e. clash (cc)) (λ n _ _. n) (λ n _ _. n)

-- .. and turned away only where it is
pub away_covered : (z : Zone) (L : List Zone) → insert z L ≡ away → Covered z L
away_covered z L = insert_cases z L (λ p. p ≡ away → Covered z L) (λ c _. c) (λ _ _ e. clash (cc)) (λ _ _ e. clash (cc))
