-- Tightening keeps the members, and its answer is tight; the meet holds what both zones hold.
use Rattle.std.specs.Prelude.{Option, Some, None}
use mathlib.Core.Path.{◌≡◌, refl, sym, ap, ◌∙◌}
use mathlib.Core.Bool.{cond}
use mathlib.Core.Logic.{◌↔◌}
use Prim.Native.Nat.{ℕ, ◌<◌}
use lib.Dec.{T_not}
use Rattle.limit.specs.Time.{Time}
use Rattle.limit.specs.declared.Limit.{Limit}
use Rattle.limit.specs.Limit.{at_most, ◌≤ᴸ◌, ◌⊕◌, lesser, nought}
use Rattle.zone.specs.Zone.{Zone, In, InMaybe, where_room, both, tighter, tighten, meet}
use Rattle.zone.proofs.Closed.{Closed, ClosedMaybe}
use Rattle.limit.proofs.Linear.{test}
use Rattle.zone.proofs.Common.{in_ground, InOver}
use Rattle.limit.proofs.Common.{both_den, KeepsOver, widen, through, round}
use Rattle.limit.proofs.Order.{≤_trans, flip, ⊕-mono, fst, snd, keep_l, lesser_l, lesser_r, lesser_of, lesser_2}

pub room_is : (l m : Limit) (a : Option Zone) (P : Option Zone → Type 0) → (nought ≤ᴸ l ⊕ m → P a) → (¬ (nought ≤ᴸ l ⊕ m) → P None) → P (where_room l m a)
unfolding where_room
room_is l m a P f g = test (at_most nought (l ⊕ m)) (λ c. P (cond c a None)) (λ t. f (record { le = t })) (λ t. g (λ h. T_not (at_most nought (l ⊕ m)) t h.le))

-- ---- over a common denominator

tighter_at : (z : Zone) {D X Y : ℕ} → InOver D z X Y → InOver D (tighter z) X Y
unfolding tighter
tighter_at z {D} {X} {Y} h =
    record {
      start = lesser_of (λ l. KeepsOver D l X 0) h.start (through h.nlength h.end);
      nstart = lesser_of (λ l. KeepsOver D l 0 X) h.nstart (through h.nend h.length);
      end = lesser_of (λ l. KeepsOver D l Y 0) h.end (through h.length h.start);
      nend = lesser_of (λ l. KeepsOver D l 0 Y) h.nend (through h.nstart h.nlength);
      length = lesser_of (λ l. KeepsOver D l Y X) h.length (through h.end h.nstart);
      nlength = lesser_of (λ l. KeepsOver D l X Y) h.nlength (through h.start h.nend);
    }

-- each limit of z is at most that of w
pub record ◌⊑◌ (z w : Zone) : Type 0 where
  pub start : z.start ≤ᴸ w.start
  pub nstart : z.nstart ≤ᴸ w.nstart
  pub end : z.end ≤ᴸ w.end
  pub nend : z.nend ≤ᴸ w.nend
  pub length : z.length ≤ᴸ w.length
  pub nlength : z.nlength ≤ᴸ w.nlength

infix 50 ◌⊑◌
pub ⊑-at : {z w : Zone} {D X Y : ℕ} → 0 < D → z ⊑ w → InOver D z X Y → InOver D w X Y
⊑-at hD g h =
    record {
      start = widen hD g.start h.start;
      nstart = widen hD g.nstart h.nstart;
      end = widen hD g.end h.end;
      nend = widen hD g.nend h.nend;
      length = widen hD g.length h.length;
      nlength = widen hD g.nlength h.nlength;
    }

tighter-⊑ : (z : Zone) → tighter z ⊑ z
unfolding tighter
tighter-⊑ z =
    record {
      start = lesser_l _ _;
      nstart = lesser_l _ _;
      end = lesser_l _ _;
      nend = lesser_l _ _;
      length = lesser_l _ _;
      nlength = lesser_l _ _;
    }

both_l : (z w : Zone) → both z w ⊑ z
unfolding both
both_l z w = record { start = lesser_l _ _; nstart = lesser_l _ _; end = lesser_l _ _; nend = lesser_l _ _; length = lesser_l _ _; nlength = lesser_l _ _ }

both_r : (z w : Zone) → both z w ⊑ w
unfolding both
both_r z w = record { start = lesser_r _ _; nstart = lesser_r _ _; end = lesser_r _ _; nend = lesser_r _ _; length = lesser_r _ _; nlength = lesser_r _ _ }

both_at : {z w : Zone} {D X Y : ℕ} → InOver D z X Y → InOver D w X Y → InOver D (both z w) X Y
unfolding both
both_at {z} {w} {D} {X} {Y} h k =
    record {
      start = lesser_of (λ l. KeepsOver D l X 0) h.start k.start;
      nstart = lesser_of (λ l. KeepsOver D l 0 X) h.nstart k.nstart;
      end = lesser_of (λ l. KeepsOver D l Y 0) h.end k.end;
      nend = lesser_of (λ l. KeepsOver D l 0 Y) h.nend k.nend;
      length = lesser_of (λ l. KeepsOver D l Y X) h.length k.length;
      nlength = lesser_of (λ l. KeepsOver D l X Y) h.nlength k.nlength;
    }

pub ⊑-in : {z w : Zone} {x y : Time} → z ⊑ w → In z x y → In w x y
⊑-in {z} {w} {x} {y} g h = (in_ground x y).1 (⊑-at (both_den x y) g ((in_ground x y).0 h))

-- ---- the same for times of any denominators

module _ (x y : Time) where
  pub tighten_is : (z : Zone) → InMaybe (tighten z) x y ↔ In z x y
  unfolding tighten
  tighten_is z =
      let t = tighter z in
      let P : Option Zone → Type 0 = λ a. InMaybe a x y ↔ In z x y in
      room_is t.start t.nstart (where_room t.end t.nend (where_room t.length t.nlength (Some t))) P
      (λ _. room_is t.end t.nend (where_room t.length t.nlength (Some t)) P
      (λ _. room_is t.length t.nlength (Some t) P
      (λ _. (λ h. (in_ground x y).1 (⊑-at (both_den x y) (tighter-⊑ z) ((in_ground x y).0 h)), λ h. (in_ground x y).1 (tighter_at z ((in_ground x y).0 h))))
      (λ n. (λ h. absurd h, λ h. absurd (n (round (both_den x y) (through (tighter_at z ((in_ground x y).0 h)).length (tighter_at z ((in_ground x y).0 h)).nlength))))))
      (λ n. (λ h. absurd h, λ h. absurd (n (round (both_den x y) (through (tighter_at z ((in_ground x y).0 h)).end (tighter_at z ((in_ground x y).0 h)).nend))))))
      (λ n. (λ h. absurd h, λ h. absurd (n (round (both_den x y) (through (tighter_at z ((in_ground x y).0 h)).start (tighter_at z ((in_ground x y).0 h)).nstart)))))

  pub meet_is : (z w : Zone) → InMaybe (meet z w) x y ↔ (In z x y × In w x y)
  unfolding meet
  meet_is z w = (
    λ h. let k = (in_ground x y).0 ((tighten_is (both z w)).0 h) in ((in_ground x y).1 (⊑-at (both_den x y) (both_l z w) k), (in_ground x y).1 (⊑-at (both_den x y) (both_r z w) k)),
    λ h. (tighten_is (both z w)).1 ((in_ground x y).1 (both_at ((in_ground x y).0 h.0) ((in_ground x y).0 h.1))),
  )

-- ---- the answer is tight

triangle : (ij ik kj jk ki : Limit) → nought ≤ᴸ ik ⊕ ki → nought ≤ᴸ jk ⊕ kj → nought ≤ᴸ (jk ⊕ ki) ⊕ ij → lesser ij (ik ⊕ kj) ≤ᴸ lesser ik (ij ⊕ jk) ⊕ lesser kj (ki ⊕ ij)
triangle ij ik kj jk ki a b c =
    lesser_2 ik (ij ⊕ jk) kj (ki ⊕ ij) (lesser ij (ik ⊕ kj))
    (lesser_r ij (ik ⊕ kj))
    (≤_trans (lesser_l ij (ik ⊕ kj)) (snd ik ki ij a))
    (≤_trans (lesser_l ij (ik ⊕ kj)) (fst ij jk kj b))
    (≤_trans (lesser_l ij (ik ⊕ kj)) (keep_l ij jk ki ij c))

tighter_tight : (z : Zone) → z.nstart ≤ᴸ nought → z.nlength ≤ᴸ nought → nought ≤ᴸ (tighter z).start ⊕ (tighter z).nstart → nought ≤ᴸ (tighter z).end ⊕ (tighter z).nend → nought ≤ᴸ (tighter z).length ⊕ (tighter z).nlength → Closed (tighter z)
unfolding tighter
tighter_tight z p q a b c =
    record {
      start = triangle z.start z.nlength z.end z.nend z.length (flip _ _ c2) (flip _ _ b2) (flip _ _ a3);
      nstart = triangle z.nstart z.nend z.length z.nlength z.end (flip _ _ b2) (flip _ _ c2) b3;
      end = triangle z.end z.length z.start z.nstart z.nlength c2 (flip _ _ a2) (flip _ _ d3);
      nend = triangle z.nend z.nstart z.nlength z.length z.start (flip _ _ a2) c2 e3;
      length = triangle z.length z.end z.nstart z.start z.nend b2 a2 (flip _ _ f3);
      nlength = triangle z.nlength z.start z.nend z.end z.nstart a2 b2 g3;
      round_start = a;
      round_end = b;
      round_length = c;
      after_0 = ≤_trans (lesser_l _ _) p;
      onward = ≤_trans (lesser_l _ _) q;
    }
  where
    a2 : nought ≤ᴸ z.start ⊕ z.nstart
    a2 = ≤_trans a (⊕-mono (lesser_l _ _) (lesser_l _ _))

    b2 : nought ≤ᴸ z.end ⊕ z.nend
    b2 = ≤_trans b (⊕-mono (lesser_l _ _) (lesser_l _ _))

    c2 : nought ≤ᴸ z.length ⊕ z.nlength
    c2 = ≤_trans c (⊕-mono (lesser_l _ _) (lesser_l _ _))

    a3 : nought ≤ᴸ z.start ⊕ (z.nend ⊕ z.length)
    a3 = ≤_trans a (⊕-mono (lesser_l _ _) (lesser_r _ _))

    b3 : nought ≤ᴸ (z.nlength ⊕ z.end) ⊕ z.nstart
    b3 = ≤_trans a (⊕-mono (lesser_r _ _) (lesser_l _ _))

    d3 : nought ≤ᴸ z.end ⊕ (z.nstart ⊕ z.nlength)
    d3 = ≤_trans b (⊕-mono (lesser_l _ _) (lesser_r _ _))

    e3 : nought ≤ᴸ (z.length ⊕ z.start) ⊕ z.nend
    e3 = ≤_trans b (⊕-mono (lesser_r _ _) (lesser_l _ _))

    f3 : nought ≤ᴸ z.length ⊕ (z.start ⊕ z.nend)
    f3 = ≤_trans c (⊕-mono (lesser_l _ _) (lesser_r _ _))

    g3 : nought ≤ᴸ (z.end ⊕ z.nstart) ⊕ z.nlength
    g3 = ≤_trans c (⊕-mono (lesser_r _ _) (lesser_l _ _))

pub tighten_tight : (z : Zone) → z.nstart ≤ᴸ nought → z.nlength ≤ᴸ nought → ClosedMaybe (tighten z)
unfolding tighten
tighten_tight z p q =
    let t = tighter z in
    room_is t.start t.nstart (where_room t.end t.nend (where_room t.length t.nlength (Some t))) ClosedMaybe
    (λ a. room_is t.end t.nend (where_room t.length t.nlength (Some t)) ClosedMaybe
    (λ b. room_is t.length t.nlength (Some t) ClosedMaybe (λ c. tighter_tight z p q a b c) (λ n. tt))
    (λ n. tt))
    (λ n. tt)

pub meet_tight : {z : Zone} (w : Zone) → Closed z → ClosedMaybe (meet z w)
unfolding meet both
meet_tight {z} w h = tighten_tight (both z w) (≤_trans (lesser_l _ _) h.after_0) (≤_trans (lesser_l _ _) h.onward)

-- ---- a closed zone is not changed

lesser_same : {l m : Limit} → l ≤ᴸ m → lesser l m ≡ l
unfolding lesser
lesser_same {l} {m} h = test (at_most l m) (λ c. cond c l m ≡ l) (λ t. refl) (λ t. absurd (T_not (at_most l m) t h.le))

tighter_same : {z : Zone} → Closed z → tighter z ≡ z
unfolding tighter
tighter_same h =
    λ i. record {
      start = lesser_same h.start i;
      nstart = lesser_same h.nstart i;
      end = lesser_same h.end i;
      nend = lesser_same h.nend i;
      length = lesser_same h.length i;
      nlength = lesser_same h.nlength i;
    }

room_same : (l m : Limit) {a : Option Zone} → nought ≤ᴸ l ⊕ m → where_room l m a ≡ a
room_same l m {a} h = room_is l m a (λ r. r ≡ a) (λ _. refl) (λ n. absurd (n h))

pub tighten_same : {z : Zone} → Closed z → tighten z ≡ Some z
unfolding tighten
tighten_same {z} h =
    ap (λ (t : Zone). where_room t.start t.nstart (where_room t.end t.nend (where_room t.length t.nlength (Some t)))) (tighter_same h)
    ∙ room_same z.start z.nstart h.round_start ∙ room_same z.end z.nend h.round_end ∙ room_same z.length z.nlength h.round_length

-- ---- a test for room that comes first changes no answer: higher limits leave no less room than lower ones

room_first : {l m l' m' : Limit} (a : Option Zone) → l ≤ᴸ l' → m ≤ᴸ m' → where_room l' m' (where_room l m a) ≡ where_room l m a
room_first {l} {m} {l'} {m'} a g h =
    room_is l' m' (where_room l m a) (λ r. r ≡ where_room l m a) (λ _. refl)
    (λ n. sym (room_is l m a (λ r. r ≡ None) (λ p. absurd (n (≤_trans p (⊕-mono g h)))) (λ _. refl)))

tighten_first : (z : Zone) {l m : Limit} → z.start ≤ᴸ l → z.nstart ≤ᴸ m → where_room l m (tighten z) ≡ tighten z
unfolding tighten
tighten_first z g h = room_first _ (≤_trans (tighter-⊑ z).start g) (≤_trans (tighter-⊑ z).nstart h)

-- the starts of one zone against those of the other
pub meet_first_l : (z w : Zone) → where_room z.start w.nstart (meet z w) ≡ meet z w
unfolding meet
meet_first_l z w = tighten_first (both z w) (both_l z w).start (both_r z w).nstart

pub meet_first_r : (z w : Zone) → where_room w.start z.nstart (meet z w) ≡ meet z w
unfolding meet
meet_first_r z w = tighten_first (both z w) (both_r z w).start (both_l z w).nstart
