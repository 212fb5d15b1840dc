-- Lists in slots: what a slot holds after words were copied, and after words elsewhere were written.
use mathlib.Core.Path.{◌≡◌, refl, sym, ap, subst, ◌∙◌}
use mathlib.Core.Bool.{Bool, true, false}
use mathlib.Core.Logic.{◌⊎◌, inl, inr, ⊎_elim}
use mathlib.Core.List.{List, [], ◌∷◌, ◌++◌, append-nil}
use Prim.Native.Nat.{ℕ, zero, suc, ◌+◌, ◌-◌, ◌*◌, ◌≤◌, ◌<◌}
use native.Mathlib.Omega.{arith}
use lib.Dec.{ltb}
use lib.IntN.{ℤ, pos}
use lib.ListN.{length, take, drop, length-append, length-drop, drop_of_length-le, get_or-append}
use lib.Seq.{length-take-le, take_all, get_or-take, get_or-drop, get_or-append-add}
use borrow.Author.Tests.{ltb-true, ltb-false}
use Rattle.zone.specs.declared.Zone.{Zone}
use Rattle.words.specs.Words.{word, zone_at, codes, overwrite}
use Rattle.words.proofs.Words.{same_zone, written_zone, zone_word, overwrite_length, overwrite_below, overwrite_in, overwrite_above}
use Rattle.list.specs.Slots.{list_at, Free, Slot, Source, Sound, Holds, Kept, Disjoint, Copied}

pub below_or_not : (a b : ℕ) → (a < b) ⊎ (b ≤ a)
below_or_not a b = go (ltb a b) refl
  where
    go : (t : Bool) → ltb a b ≡ t → (a < b) ⊎ (b ≤ a)
    go true e = inl (ltb-true a b e)
    go false e = inr (ltb-false a b e)

-- ---- words that were kept

pub kept_refl : (base size : ℕ) (ws : List ℤ) → Kept base size ws ws
kept_refl base size ws = record { same_length = refl; below = λ k h. refl; above = λ k h. refl }

pub kept_trans : {base size : ℕ} {us vs ws : List ℤ} → Kept base size us vs → Kept base size vs ws → Kept base size us ws
kept_trans p q = record { same_length = q.same_length ∙ p.same_length; below = λ k h. q.below k h ∙ p.below k h; above = λ k h. q.above k h ∙ p.above k h }

-- words written inside a part of a region
pub kept_within : {b s base size : ℕ} {ws vs : List ℤ} → base ≤ b → b + s ≤ base + size → Kept b s ws vs → Kept base size ws vs
kept_within h g p = record { same_length = p.same_length; below = λ k l. p.below k (omega arith); above = λ k l. p.above k (omega arith) }

-- a region that has no word in common with the one that was written
pub kept_apart : {base size a n : ℕ} {ws vs : List ℤ} → Kept base size ws vs → (a + n ≤ base) ⊎ (base + size ≤ a) → (k : ℕ) → k < n → word vs (a + k) ≡ word ws (a + k)
kept_apart p (inl h) k l = p.below _ (omega arith)
kept_apart p (inr h) k l = p.above _ (omega arith)

-- ---- the list of a slot

pub list_at_length : (ws : List ℤ) (base n : ℕ) → length (list_at ws base n) ≡ n
unfolding list_at
list_at_length ws base zero = refl
list_at_length ws base (suc n) = ap suc (list_at_length ws (base + 6) n)

-- the same words hold the same list
pub list_at_same : (ws vs : List ℤ) (a b n : ℕ) → ((k : ℕ) → k < n * 6 → word vs (b + k) ≡ word ws (a + k)) → list_at vs b n ≡ list_at ws a n
unfolding list_at
list_at_same ws vs a b zero f = refl
list_at_same ws vs a b (suc n) f =
    let head : zone_at vs b ≡ zone_at ws a = same_zone vs ws b a (λ k h. f k (omega arith)) in
    let tail : list_at vs (b + 6) n ≡ list_at ws (a + 6) n = list_at_same ws vs (a + 6) (b + 6) n (λ k h. ap (word vs) (omega arith) ∙ f (6 + k) (omega arith) ∙ ap (word ws) (omega arith)) in
    λ i. head i ∷ tail i

pub list_at_kept : (a n : ℕ) {base size : ℕ} {ws vs : List ℤ} → Kept base size ws vs → (a + n * 6 ≤ base) ⊎ (base + size ≤ a) → list_at vs a n ≡ list_at ws a n
list_at_kept a n {ws = ws} {vs = vs} p h = list_at_same ws vs a a n (kept_apart p h)

-- the list of a slot while another slot is written
pub list_there : (from n : ℕ) {target : ℕ} {ws vs : List ℤ} → Kept target 768 ws vs → Disjoint from target → n ≤ 128 → list_at vs from n ≡ list_at ws from n
list_there from n k (inl h) few = list_at_kept from n k (inl (omega arith))
list_there from n k (inr h) few = list_at_kept from n k (inr h)

-- and it can be combined still
pub still_source : (from n : ℕ) {target : ℕ} {ws vs : List ℤ} → Source ws from n → Kept target 768 ws vs → Disjoint from target → Source vs from n
still_source from n s k d = record { few = s.few; room = omega (arith, s.room, k.same_length); sound = subst Sound (sym (list_there from n k d s.few)) s.sound }

pub still_slot : {base n m target size : ℕ} {ws vs : List ℤ} → Slot ws base n → Kept target size ws vs → m ≤ 128 → Slot vs base m
still_slot s k h = record { few = h; room = omega (arith, s.room, k.same_length) }

-- a free slot has an empty list
pub still_empty : {base target size : ℕ} {ws vs : List ℤ} → Kept target size ws vs → Free ws base → Slot vs base 0
still_empty k h = record { few = omega arith; room = omega (arith, k.same_length) }

pub list_at_copied : {from to : ℕ} (n : ℕ) {ws vs : List ℤ} → Copied from to (n * 6) ws vs → list_at vs to n ≡ list_at ws from n
list_at_copied {from} {to} n {ws} {vs} c = list_at_same ws vs from to n c.moved

-- the zones from the i-th on: the i-th, and those after it
pub list_at_next : (ws : List ℤ) (base n i : ℕ) → i < n → list_at ws (base + i * 6) (n - i) ≡ zone_at ws (base + i * 6) ∷ list_at ws (base + (i + 1) * 6) (n - (i + 1))
unfolding list_at
list_at_next ws base n i h =
    let e : n - i ≡ suc (n - (i + 1)) = omega arith in
    let f : base + i * 6 + 6 ≡ base + (i + 1) * 6 = omega arith in
    ap (list_at ws (base + i * 6)) e ∙ ap (λ (a : ℕ). zone_at ws (base + i * 6) ∷ list_at ws a (n - (i + 1))) f

-- one zone more, at the end
pub list_at_snoc : (ws : List ℤ) (base n : ℕ) → list_at ws base (suc n) ≡ list_at ws base n ++ (zone_at ws (base + n * 6) ∷ [])
unfolding list_at
list_at_snoc ws base zero = let e : base ≡ base + 0 * 6 = omega arith in ap (λ (a : ℕ). zone_at ws a ∷ []) e
list_at_snoc ws base (suc n) =
    let e : base + 6 + n * 6 ≡ base + suc n * 6 = omega arith in
    ap (λ (l : List Zone). zone_at ws base ∷ l) (list_at_snoc ws (base + 6) n ∙ ap (λ (a : ℕ). list_at ws (base + 6) n ++ (zone_at ws a ∷ [])) e)

-- ---- copying

-- a list is its first k zones and the rest
pub list_at_split : (ws : List ℤ) (base k m : ℕ) → list_at ws base (k + m) ≡ list_at ws base k ++ list_at ws (base + k * 6) m
unfolding list_at
list_at_split ws base zero m =
    let e : zero + m ≡ m = omega arith in
    let f : base + zero * 6 ≡ base = omega arith in
    rw (e, f)
list_at_split ws base (suc k) m =
    let e : suc k + m ≡ suc (k + m) = omega arith in
    let f : base + 6 + k * 6 ≡ base + suc k * 6 = omega arith in
    ap (list_at ws base) e ∙ ap (λ (L : List Zone). zone_at ws base ∷ L) (list_at_split ws (base + 6) k m ∙ ap (λ (at : ℕ). list_at ws (base + 6) k ++ list_at ws at m) f)

-- words copied in two goes, the second behind the first
pub copied_on : {from to k m n : ℕ} {ws us vs : List ℤ} → Copied from to k ws us → Copied (from + k) (to + k) m us vs → (to ≤ from) ⊎ (from + n ≤ to) → k + m ≤ n → Copied from to (k + m) ws vs
copied_on {from} {to} {k} {m} {n} {ws} {us} {vs} c d h l =
    record {
      moved = λ j g. ⊎_elim (λ b. d.kept.below (to + j) (omega arith) ∙ c.moved j b) (λ b. later j b g) (below_or_not j k);
      kept =
          record {
            same_length = d.kept.same_length ∙ c.kept.same_length;
            below = λ j g. d.kept.below j (omega arith) ∙ c.kept.below j g;
            above = λ j g. d.kept.above j (omega arith) ∙ c.kept.above j (omega arith);
          };
    }
  where
    unmoved : (j : ℕ) → k ≤ j → j < k + m → (to ≤ from) ⊎ (from + n ≤ to) → word us (from + j) ≡ word ws (from + j)
    unmoved j b g (inl e) = c.kept.above (from + j) (omega arith)
    unmoved j b g (inr e) = c.kept.below (from + j) (omega arith)

    later : (j : ℕ) → k ≤ j → j < k + m → word vs (to + j) ≡ word ws (from + j)
    later j b g =
        let e : to + k + (j - k) ≡ to + j = omega arith in
        let f : from + k + (j - k) ≡ from + j = omega arith in
        sym (ap (word vs) e) ∙ d.moved (j - k) (omega arith) ∙ ap (word us) f ∙ unmoved j b g h

-- words that stand there already
pub copied_there : {from to : ℕ} (n : ℕ) (ws : List ℤ) → from ≡ to → Copied from to n ws ws
copied_there {from} n ws e = subst (λ (at : ℕ). Copied from at n ws ws) e (record { moved = λ k h. refl; kept = kept_refl from n ws })

-- ---- the words from `at` on, lent as a part

module _ (ws : List ℤ) (at : ℕ) (h : at ≤ length ws) where
  pub part_length : length (take (length ws - at) (drop at ws)) ≡ length ws - at
  part_length = length-take-le (length ws - at) (drop at ws) (omega (arith, length-drop at ws))

  part_word : (j : ℕ) → word (take (length ws - at) (drop at ws)) j ≡ word ws (at + j)
  part_word j = ap (λ (us : List ℤ). word us j) (take_all (length ws - at) (drop at ws) (omega (arith, length-drop at ws))) ∙ get_or-drop at ws j (pos 0)

  -- all words, with ys in the place of the part
  abbrev Back : List ℤ → List ℤ
  Back ys = take at ws ++ (ys ++ drop (length ws - at) (drop at ws))

  back_is : (ys : List ℤ) → Back ys ≡ take at ws ++ ys
  back_is ys = ap (λ (us : List ℤ). take at ws ++ (ys ++ us)) (drop_of_length-le (drop at ws) {i = length ws - at} (omega (arith, length-drop at ws))) ∙ ap (λ (us : List ℤ). take at ws ++ us) (append-nil ys)

  front : (ys : List ℤ) (k : ℕ) → k < at → word (take at ws ++ ys) k ≡ word ws k
  front ys k l = get_or-append (take at ws) ys (pos 0) k (omega (arith, length-take-le at ws h)) ∙ get_or-take at ws k (pos 0) l

  behind : (ys : List ℤ) (j : ℕ) → word (take at ws ++ ys) (at + j) ≡ word ys j
  behind ys j =
      let e : at + j ≡ length (take at ws) + j = omega (arith, length-take-le at ws h) in
      ap (word (take at ws ++ ys)) e ∙ get_or-append-add (take at ws) ys j (pos 0)

  -- the gap that was closed in the part is closed in all of them
  pub gap_closed : {n : ℕ} {ys : List ℤ} → Copied 6 0 n (take (length ws - at) (drop at ws)) ys → Copied (at + 6) at n ws (Back ys)
  gap_closed {n} {ys} c =
      subst (Copied (at + 6) at n ws) (sym (back_is ys))
      (record {
        moved = λ k l.
            let e : k ≡ 0 + k = omega arith in
            let f : at + (6 + k) ≡ at + 6 + k = omega arith in
            behind ys k ∙ ap (word ys) e ∙ c.moved k l ∙ part_word (6 + k) ∙ ap (word ws) f;
        kept =
            record {
              same_length = length-append (take at ws) ys ∙ omega (arith, length-take-le at ws h, c.kept.same_length, part_length);
              below = front ys;
              above = λ k l.
                  let e : k ≡ at + (k - at) = omega arith in
                  ap (word (take at ws ++ ys)) e ∙ behind ys (k - at) ∙ c.kept.above (k - at) (omega arith) ∙ part_word (k - at) ∙ ap (word ws) (sym e);
            };
      })

-- ---- a zone written behind the list

pub kept_written : (ws : List ℤ) (at : ℕ) (z : Zone) → at + 6 ≤ length ws → Kept at 6 ws (overwrite ws at (codes z))
kept_written ws at z h = record { same_length = overwrite_length ws at (codes z) h; below = overwrite_below ws at (codes z) h; above = overwrite_above ws at (codes z) h }

pub copied_zone : (ws : List ℤ) (from to : ℕ) → to + 6 ≤ length ws → Copied from to 6 ws (overwrite ws to (codes (zone_at ws from)))
copied_zone ws from to h = record { moved = λ k l. overwrite_in ws to (codes (zone_at ws from)) h k l ∙ zone_word ws from k l; kept = kept_written ws to (zone_at ws from) h }

pub holds_more : {ws : List ℤ} {base n : ℕ} {L : List Zone} (z : Zone) → Holds ws base n L → n < 128 → base + 768 ≤ length ws → Holds (overwrite ws (base + n * 6) (codes z)) base (n + 1) (L ++ (z ∷ []))
holds_more {ws} {base} {n} {L} z h l fits =
    let at = base + n * 6 in
    let room : at + 6 ≤ length ws = omega arith in
    let vs = overwrite ws at (codes z) in
    let k = kept_written ws at z room in
    record {
      count = simp lib.ListN.length-append (omega (arith, h.count));
      few = omega arith;
      zones =
          ap (list_at vs base) (native.Mathlib.Numerals.add-one n)
          ∙ list_at_snoc vs base n
          ∙ (λ i. (list_at_kept base n k (inl (omega arith)) ∙ h.zones) i ++ (written_zone ws at z room i ∷ []));
    }
