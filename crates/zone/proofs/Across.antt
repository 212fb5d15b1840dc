-- The composition of two tight zones is tight as it stands: nothing is left to tighten.
use Rattle.std.specs.Prelude.{Some}
use mathlib.Core.Path.{◌≡◌, sym, ap, ◌∙◌}
use Rattle.limit.specs.declared.Limit.{Limit}
use Rattle.limit.specs.Limit.{◌≤ᴸ◌, ◌⊕◌, lesser, nought}
use Rattle.zone.specs.Zone.{Zone, where_room, across, compose}
use Rattle.zone.proofs.Closed.{Closed, ClosedMaybe}
use Rattle.limit.proofs.Order.{≤-refl, ≤_trans, flip, ⊕-mono, ⊕-comm, ⊕-assoc, fst, snd, right, left, mid, keep_l, keep_r, lesser_l, lesser_r, lesser_2}
use Rattle.zone.proofs.Tighten.{room_is}

-- a way from a time of one zone to the origin, over a time of the other zone
out : (a c' p q q' r r' b p' : Limit) → p ≤ᴸ r' ⊕ q → nought ≤ᴸ r' ⊕ r → a ≤ᴸ c' ⊕ b → nought ≤ᴸ q' ⊕ q → p' ≤ᴸ q' ⊕ r → nought ≤ᴸ p' ⊕ b
    → lesser a (c' ⊕ p) ≤ᴸ lesser (c' ⊕ r') (a ⊕ q') ⊕ lesser q (r ⊕ b)
out a c' p q q' r r' b p' h1 h2 h3 h4 h5 h6 =
    lesser_2 (c' ⊕ r') (a ⊕ q') q (r ⊕ b) (lesser a (c' ⊕ p))
    (≤_trans (lesser_r a (c' ⊕ p)) (right c' p r' q h1))
    (≤_trans (lesser_l a (c' ⊕ p)) (≤_trans h3 (mid c' r' r b h2)))
    (≤_trans (lesser_l a (c' ⊕ p)) (fst a q' q h4))
    (≤_trans (lesser_l a (c' ⊕ p)) (keep_l a q' r b (≤_trans h6 (⊕-mono h5 (≤-refl b)))))

-- and back
back : (a' c p' q q' r r' b' p : Limit) → p' ≤ᴸ q' ⊕ r → nought ≤ᴸ r' ⊕ r → a' ≤ᴸ b' ⊕ c → nought ≤ᴸ q' ⊕ q → p ≤ᴸ r' ⊕ q → nought ≤ᴸ b' ⊕ p
    → lesser a' (p' ⊕ c) ≤ᴸ lesser q' (b' ⊕ r') ⊕ lesser (r ⊕ c) (q ⊕ a')
back a' c p' q q' r r' b' p h1 h2 h3 h4 h5 h6 =
    lesser_2 q' (b' ⊕ r') (r ⊕ c) (q ⊕ a') (lesser a' (p' ⊕ c))
    (≤_trans (lesser_r a' (p' ⊕ c)) (left c p' q' r h1))
    (≤_trans (lesser_l a' (p' ⊕ c)) (snd q' q a' h4))
    (≤_trans (lesser_l a' (p' ⊕ c)) (≤_trans h3 (mid b' r' r c h2)))
    (≤_trans (lesser_l a' (p' ⊕ c)) (keep_r b' r' q a' (≤_trans h6 (⊕-mono (≤-refl b') h5))))

-- from a time of one zone to a time of the other, over the origin
through : (r c q a' b p' : Limit) → r ≤ᴸ q ⊕ p' → c ≤ᴸ b ⊕ a' → nought ≤ᴸ b ⊕ p' → lesser (r ⊕ c) (q ⊕ a') ≤ᴸ lesser q (r ⊕ b) ⊕ lesser a' (p' ⊕ c)
through r c q a' b p' h1 h2 h3 =
    lesser_2 q (r ⊕ b) a' (p' ⊕ c) (lesser (r ⊕ c) (q ⊕ a'))
    (lesser_r (r ⊕ c) (q ⊕ a'))
    (≤_trans (lesser_l (r ⊕ c) (q ⊕ a')) (left c r q p' h1))
    (≤_trans (lesser_l (r ⊕ c) (q ⊕ a')) (right r c b a' h2))
    (≤_trans (lesser_l (r ⊕ c) (q ⊕ a')) (mid r b p' c h3))

-- round, from a time to the origin and back
round_0 : (a c' p a' p' c b b' : Limit) → nought ≤ᴸ a ⊕ a' → b ≤ᴸ c ⊕ a → nought ≤ᴸ p' ⊕ b → b' ≤ᴸ a' ⊕ c' → nought ≤ᴸ b' ⊕ p → nought ≤ᴸ c' ⊕ c → nought ≤ᴸ p ⊕ p'
    → nought ≤ᴸ lesser a (c' ⊕ p) ⊕ lesser a' (p' ⊕ c)
round_0 a c' p a' p' c b b' h1 h2 h3 h4 h5 h6 h7 =
    lesser_2 a (c' ⊕ p) a' (p' ⊕ c) nought h1
    (flip (p' ⊕ c) a (rw (⊕-assoc p' c a) (≤_trans h3 (⊕-mono (≤-refl p') h2))))
    (flip a' (c' ⊕ p) (rw (← ⊕-assoc a' c' p) (≤_trans h5 (⊕-mono h4 (≤-refl p)))))
    (≤_trans h6 (mid c' p p' c h7))

rotate : (r c a q : Limit) → (r ⊕ c) ⊕ (a ⊕ q) ≡ (c ⊕ a) ⊕ (q ⊕ r)
rotate r c a q = ⊕-assoc r c (a ⊕ q) ∙ ⊕-comm r (c ⊕ (a ⊕ q)) ∙ ap (λ (x : Limit). x ⊕ r) (sym (⊕-assoc c a q)) ∙ ⊕-assoc (c ⊕ a) q r

nought_2 : nought ⊕ nought ≤ᴸ nought
unfolding ◌⊕◌
nought_2 = ≤-refl nought

-- round, from a time of one zone to a time of the other and back
round_t : (r c q a' c' r' a q' b b' p p' : Limit) → nought ≤ᴸ c ⊕ c' → nought ≤ᴸ r ⊕ r' → nought ≤ᴸ a' ⊕ a → nought ≤ᴸ q ⊕ q'
    → b ≤ᴸ c ⊕ a → p' ≤ᴸ q' ⊕ r → nought ≤ᴸ p' ⊕ b → b' ≤ᴸ a' ⊕ c' → p ≤ᴸ r' ⊕ q → nought ≤ᴸ b' ⊕ p
    → nought ≤ᴸ lesser (r ⊕ c) (q ⊕ a') ⊕ lesser (c' ⊕ r') (a ⊕ q')
round_t r c q a' c' r' a q' b b' p p' h1 h2 h3 h4 h5 h6 h7 h8 h9 h10 =
    lesser_2 (r ⊕ c) (q ⊕ a') (c' ⊕ r') (a ⊕ q') nought
    (≤_trans h2 (mid r c c' r' h1))
    (rw (rotate r c a q') (≤_trans (flip p' b h7) (⊕-mono h5 h6)))
    (rw (rotate q a' c' r') (≤_trans h10 (⊕-mono h8 h9)))
    (≤_trans h4 (mid q a' a q' h3))

across_tight : {z w : Zone} → Closed z → Closed w → nought ≤ᴸ w.nstart ⊕ z.end → nought ≤ᴸ z.nend ⊕ w.start → Closed (across z w)
unfolding across
across_tight {z} {w} h k a b =
    record {
      start = out z.start z.nlength w.start w.end w.nend w.length w.nlength z.end w.nstart k.start (flip _ _ k.round_length) h.start (flip _ _ k.round_end) k.nstart a;
      nstart = back z.nstart z.length w.nstart w.end w.nend w.length w.nlength z.nend w.start k.nstart (flip _ _ k.round_length) h.nstart (flip _ _ k.round_end) k.start b;
      end = out w.end w.length z.end z.start z.nstart z.nlength z.length w.start z.nend h.end h.round_length k.end (flip _ _ h.round_start) h.nend b;
      nend = back w.nend w.nlength z.nend z.start z.nstart z.nlength z.length w.nstart z.end h.nend h.round_length k.nend (flip _ _ h.round_start) h.end a;
      length = through w.length z.length w.end z.nstart z.end w.nstart k.length h.length (flip _ _ a);
      nlength = through z.nlength w.nlength z.start w.nend w.start z.nend h.nlength k.nlength (flip _ _ b);
      round_start = round_0 z.start z.nlength w.start z.nstart w.nstart z.length z.end z.nend h.round_start h.end a h.nend b (flip _ _ h.round_length) k.round_start;
      round_end = round_0 w.end w.length z.end w.nend z.nend w.nlength w.start w.nstart k.round_end k.start b k.nstart a k.round_length h.round_end;
      round_length = round_t w.length z.length w.end z.nstart z.nlength w.nlength z.start w.nend z.end z.nend w.start w.nstart h.round_length k.round_length (flip _ _ h.round_start) k.round_end h.end k.nstart a h.nend k.start b;
      after_0 = ≤_trans (lesser_l _ _) h.after_0;
      onward = ≤_trans (lesser_l _ _) (≤_trans (⊕-mono h.onward k.onward) nought_2);
    }

pub compose_tight : {z w : Zone} → Closed z → Closed w → ClosedMaybe (compose z w)
unfolding compose
compose_tight {z} {w} h k =
    room_is w.nstart z.end (where_room z.nend w.start (Some (across z w))) ClosedMaybe
    (λ a. room_is z.nend w.start (Some (across z w)) ClosedMaybe (λ b. across_tight h k a b) (λ n. tt))
    (λ n. tt)
