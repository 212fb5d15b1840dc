-- A closed zone has a member; and with one more limit on one of its sides, which leaves room, it is again a closed zone.
use mathlib.Core.Path.{refl}
use mathlib.Core.List.{[], ◌∷◌}
use Prim.Native.Nat.{ℕ, ◌*◌, ◌<◌}
use native.Mathlib.Omega.{arith}
use Rattle.limit.specs.Time.{Time}
use Rattle.limit.specs.declared.Limit.{Limit}
use Rattle.limit.specs.Limit.{◌≤ᴸ◌, ◌⊕◌, lesser, nought}
use Rattle.zone.specs.Zone.{Side, limit, opposite, on-start, on-nstart, on-end, on-nend, on-length, on-nlength, Zone, In}
use Rattle.zone.proofs.Closed.{Closed}
use Rattle.limit.proofs.Common.{over_scale, widen, self}
use Rattle.zone.proofs.Common.{InOver, in_over}
use Rattle.limit.proofs.Order.{≤-refl, ≤_trans, flip, ⊕-mono, ⊕-assoc, fst, snd, keep_l, lesser_l, lesser_r, lesser_of, lesser_2}
use Rattle.zone.proofs.Tighten.{◌⊑◌}
use Rattle.limit.proofs.Helly.{helly}
use Rattle.zone.proofs.Compose.{forwards}

-- ---- a member

member_at : {z : Zone} → Closed z → (X : ℕ) × (Y : ℕ) × InOver 4 z X Y
member_at {z} h =
    let one : 0 < 1 = omega arith in
    let two : 0 < 2 = omega arith in
    let r = helly 1 (record { at = 0; lim = z.nstart }) [] (record { at = 0; lim = z.start }) [] (forwards 1 0 h.after_0)
    ((widen one (flip _ _ h.round_start) self, tt), tt) in
    let x = r.0 in
    let q = helly 2 (record { at = x; lim = z.nlength }) (record { at = 0; lim = z.nend } ∷ []) (record { at = x; lim = z.length }) (record { at = 0; lim = z.end } ∷ []) (forwards 2 x h.onward) (
      (widen two (flip _ _ h.round_length) self, (widen two h.start r.2.0, tt)),
      ((widen two h.nstart r.1.0, (widen two (flip _ _ h.round_end) self, tt)), tt),
    ) in (
      2 * x,
      q.0,
      record {
        start = over_scale 2 two r.2.0;
        nstart = over_scale 2 two r.1.0;
        end = q.2.1.0;
        nend = q.1.1.0;
        length = q.2.0;
        nlength = q.1.0;
      },
    )

pub member : {z : Zone} → Closed z → (x : Time) × (y : Time) × In z x y
member {z} h =
    let r = member_at h in
    let four : 0 < 4 = omega arith in
    let x : Time = record { num = r.0; den = 4; some = four } in
    let y : Time = record { num = r.1; den = 4; some = four } in
    (x, y, (in_over four (record { same = refl }) (record { same = refl })).1 r.2)

-- ---- three times i, j, k, and a limit on each of the six differences

record Triangle (ij ji ik ki jk kj : Limit) : Type 0 where
  t_ij : ij ≤ᴸ ik ⊕ kj
  t_ji : ji ≤ᴸ jk ⊕ ki
  t_ik : ik ≤ᴸ ij ⊕ jk
  t_ki : ki ≤ᴸ kj ⊕ ji
  t_jk : jk ≤ᴸ ji ⊕ ik
  t_kj : kj ≤ᴸ ki ⊕ ij
  c_ij : nought ≤ᴸ ij ⊕ ji
  c_ik : nought ≤ᴸ ik ⊕ ki
  c_jk : nought ≤ᴸ jk ⊕ kj

-- j and i change places; j and k do
sw1 : {ij ji ik ki jk kj : Limit} → Triangle ij ji ik ki jk kj → Triangle ji ij jk kj ik ki
sw1 h =
    record {
      t_ij = h.t_ji;
      t_ji = h.t_ij;
      t_ik = h.t_jk;
      t_ki = h.t_kj;
      t_jk = h.t_ik;
      t_kj = h.t_ki;
      c_ij = flip _ _ h.c_ij;
      c_ik = h.c_jk;
      c_jk = h.c_ik;
    }

sw2 : {ij ji ik ki jk kj : Limit} → Triangle ij ji ik ki jk kj → Triangle ik ki ij ji kj jk
sw2 h =
    record {
      t_ij = h.t_ik;
      t_ji = h.t_ki;
      t_ik = h.t_ij;
      t_ki = h.t_ji;
      t_jk = h.t_kj;
      t_kj = h.t_jk;
      c_ij = h.c_ik;
      c_ik = h.c_ij;
      c_jk = flip _ _ h.c_jk;
    }

-- one more limit on j − i, which leaves room: only two other limits change, and the six are closed again
narrow : {ij ji ik ki jk kj : Limit} (m : Limit) → Triangle ij ji ik ki jk kj → nought ≤ᴸ ij ⊕ m
    → Triangle ij (lesser ji m) ik (lesser ki (kj ⊕ m)) (lesser jk (m ⊕ ik)) kj
narrow {ij} {ji} {ik} {ki} {jk} {kj} m h a =
    record {
      t_ij = h.t_ij;
      t_ji = lesser_2 jk (m ⊕ ik) ki (kj ⊕ m) (lesser ji m)
          (≤_trans (lesser_l ji m) h.t_ji)
          (≤_trans (lesser_r ji m) (snd jk kj m h.c_jk))
          (≤_trans (lesser_r ji m) (fst m ik ki h.c_ik))
          (≤_trans (lesser_r ji m) (keep_l m ik kj m b));
      t_ik = lesser_of (λ x. ik ≤ᴸ ij ⊕ x) h.t_ik (snd ij m ik a);
      t_ki = lesser_of (λ x. lesser ki (kj ⊕ m) ≤ᴸ kj ⊕ x) (≤_trans (lesser_l _ _) h.t_ki) (lesser_r _ _);
      t_jk = lesser_of (λ x. lesser jk (m ⊕ ik) ≤ᴸ x ⊕ ik) (≤_trans (lesser_l _ _) h.t_jk) (lesser_r _ _);
      t_kj = lesser_of (λ x. kj ≤ᴸ x ⊕ ij) h.t_kj (fst kj m ij (flip _ _ a));
      c_ij = lesser_of (λ x. nought ≤ᴸ ij ⊕ x) h.c_ij a;
      c_ik = lesser_of (λ x. nought ≤ᴸ ik ⊕ x) h.c_ik (rw (← ⊕-assoc ik kj m) b);
      c_jk = lesser_of (λ x. nought ≤ᴸ x ⊕ kj) h.c_jk (rw (⊕-assoc m ik kj) (flip _ _ b));
    }
  where
    b : nought ≤ᴸ (ik ⊕ kj) ⊕ m
    b = ≤_trans a (⊕-mono h.t_ij (≤-refl m))

-- ---- a zone's own six: i is the start, j the origin, k the end
triangle : {z : Zone} → Closed z → Triangle z.start z.nstart z.nlength z.length z.nend z.end
triangle h = record { t_ij = h.start; t_ji = h.nstart; t_ik = h.nlength; t_ki = h.length; t_jk = h.nend; t_kj = h.end; c_ij = h.round_start; c_ik = flip _ _ h.round_length; c_jk = flip _ _ h.round_end }

tight : {z : Zone} → Triangle z.start z.nstart z.nlength z.length z.nend z.end → z.nstart ≤ᴸ nought → z.nlength ≤ᴸ nought → Closed z
tight h a b =
    record {
      start = h.t_ij;
      nstart = h.t_ji;
      end = h.t_kj;
      nend = h.t_jk;
      length = h.t_ki;
      nlength = h.t_ik;
      round_start = h.c_ij;
      round_end = flip _ _ h.c_jk;
      round_length = flip _ _ h.c_ik;
      after_0 = a;
      onward = b;
    }

-- z with the limit m too on side k
pub record Narrowed (z : Zone) (m : Limit) (k : Side) : Type 0 where
  pub within : Zone
  pub closed : Closed within
  pub inside : within ⊑ z
  pub low : limit within k ≤ᴸ m

module _ {z : Zone} (h : Closed z) (m : Limit) where
  made : (n : Zone) (k : Side) → Triangle n.start n.nstart n.nlength n.length n.nend n.end → n ⊑ z → limit n k ≤ᴸ m → Narrowed z m k
  made n k t g l = record { within = n; closed = tight t (≤_trans g.nstart h.after_0) (≤_trans g.nlength h.onward); inside = g; low = l }

  -- there is one where the limit on the opposite side leaves room for m
  pub narrowed : (k : Side) → nought ≤ᴸ limit z k ⊕ m → Narrowed z m (opposite k)
  narrowed on-start a =
      made (record { start = z.start; nstart = lesser z.nstart m; end = z.end; nend = lesser z.nend (m ⊕ z.nlength); length = lesser z.length (z.end ⊕ m); nlength = z.nlength }) on-nstart
      (narrow m (triangle h) a)
      (record { start = ≤-refl _; nstart = lesser_l _ _; end = ≤-refl _; nend = lesser_l _ _; length = lesser_l _ _; nlength = ≤-refl _ })
      (lesser_r _ _)
  narrowed on-nstart a =
      made (record { start = lesser z.start m; nstart = z.nstart; end = lesser z.end (z.length ⊕ m); nend = z.nend; length = z.length; nlength = lesser z.nlength (m ⊕ z.nend) }) on-start
      (sw1 (narrow m (sw1 (triangle h)) a))
      (record { start = lesser_l _ _; nstart = ≤-refl _; end = lesser_l _ _; nend = ≤-refl _; length = ≤-refl _; nlength = lesser_l _ _ })
      (lesser_r _ _)
  narrowed on-end a =
      made (record { start = z.start; nstart = lesser z.nstart (m ⊕ z.length); end = z.end; nend = lesser z.nend m; length = z.length; nlength = lesser z.nlength (z.start ⊕ m) }) on-nend
      (sw1 (sw2 (sw1 (narrow m (sw1 (sw2 (sw1 (triangle h)))) a))))
      (record { start = ≤-refl _; nstart = lesser_l _ _; end = ≤-refl _; nend = lesser_l _ _; length = ≤-refl _; nlength = lesser_l _ _ })
      (lesser_r _ _)
  narrowed on-nend a =
      made (record { start = lesser z.start (z.nlength ⊕ m); nstart = z.nstart; end = lesser z.end m; nend = z.nend; length = lesser z.length (m ⊕ z.nstart); nlength = z.nlength }) on-end
      (sw1 (sw2 (narrow m (sw2 (sw1 (triangle h))) a)))
      (record { start = lesser_l _ _; nstart = ≤-refl _; end = lesser_l _ _; nend = ≤-refl _; length = lesser_l _ _; nlength = ≤-refl _ })
      (lesser_r _ _)
  narrowed on-length a =
      made (record { start = lesser z.start (m ⊕ z.end); nstart = z.nstart; end = z.end; nend = lesser z.nend (z.nstart ⊕ m); length = z.length; nlength = lesser z.nlength m }) on-nlength
      (sw2 (sw1 (narrow m (sw1 (sw2 (triangle h))) a)))
      (record { start = lesser_l _ _; nstart = ≤-refl _; end = ≤-refl _; nend = lesser_l _ _; length = ≤-refl _; nlength = lesser_l _ _ })
      (lesser_r _ _)
  narrowed on-nlength a =
      made (record { start = z.start; nstart = lesser z.nstart (z.nend ⊕ m); end = lesser z.end (m ⊕ z.start); nend = z.nend; length = lesser z.length m; nlength = z.nlength }) on-length
      (sw2 (narrow m (sw2 (triangle h)) a))
      (record { start = ≤-refl _; nstart = lesser_l _ _; end = lesser_l _ _; nend = ≤-refl _; length = lesser_l _ _; nlength = ≤-refl _ })
      (lesser_r _ _)
