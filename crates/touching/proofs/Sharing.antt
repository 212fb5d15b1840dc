-- Ranges that have a time in common, and zones: what is left of a pair whose ranges have none, and when two zones touch.
use Rattle.std.specs.Prelude.{Option, Some, None}
use mathlib.Core.Path.{◌≡◌, refl, sym, ap, subst, ◌∙◌}
use mathlib.Core.Bool.{Bool, true, false, cond, ◌&&◌}
use mathlib.Core.Logic.{◌↔◌}
use lib.Dec.{T}
use Rattle.signed.proofs.Integers.{T_is}
use Rattle.limit.specs.declared.Limit.{Limit}
use Rattle.limit.specs.Limit.{at_most, ◌≤ᴸ◌, ◌⊕◌, nought}
use Rattle.limit.proofs.Order.{≤-refl, ≤_trans, ⊕-mono, ⊕-comm}
use Rattle.zone.specs.declared.Zone.{Zone}
use Rattle.zone.specs.Zone.{Tight, TightMaybe, Touches, where_room, meet, compose, across}
use Rattle.zone.proofs.Laws.{tight_member, compose_tight, compose_cut, compose_empty}
use Rattle.zone.proofs.Tighten.{meet_first_l, meet_first_r}
use Rattle.touching.specs.Sharing.{Share}

-- what two tests say
pub share_tests : {upper nupper start nstart : Limit} {a b : Bool} → a ≡ at_most nought (nstart ⊕ upper) → b ≡ at_most nought (start ⊕ nupper) → T (a && b) ↔ Share upper nupper start nstart
share_tests {a = true} {b = true} e f = (λ _. record { over = record { le = subst T e tt }; under = record { le = subst T f tt } }, λ _. tt)
share_tests {a = true} {b = false} e f = (λ t. absurd t, λ s. subst T (sym f) s.under.le)
share_tests {a = false} {b = b} e f = (λ t. absurd t, λ s. subst T (sym e) s.over.le)

-- a range that reaches further has no fewer times in common
pub share_more : {upper nupper start nstart start' nstart' : Limit} → start ≤ᴸ start' → nstart ≤ᴸ nstart' → Share upper nupper start nstart → Share upper nupper start' nstart'
share_more a b s = record { over = ≤_trans s.over (⊕-mono b (≤-refl _)); under = ≤_trans s.under (⊕-mono a (≤-refl _)) }

-- an answer behind two tests that do not both hold
module _ (l m k n : Limit) (answer : Option Zone) where
  lacks : ¬ ((nought ≤ᴸ l ⊕ m) × (nought ≤ᴸ k ⊕ n)) → where_room l m (where_room k n answer) ≡ None
  unfolding where_room
  lacks f = go (at_most nought (l ⊕ m)) (at_most nought (k ⊕ n)) refl refl
    where
      go : (a b : Bool) → at_most nought (l ⊕ m) ≡ a → at_most nought (k ⊕ n) ≡ b → cond a (cond b answer None) None ≡ None
      go true true p q = absurd (f (record { le = subst T (sym p) tt }, record { le = subst T (sym q) tt }))
      go true false p q = refl
      go false b p q = refl

  has : nought ≤ᴸ l ⊕ m → nought ≤ᴸ k ⊕ n → where_room l m (where_room k n answer) ≡ answer
  unfolding where_room
  has p q =
      let e : at_most nought (l ⊕ m) ≡ true = T_is p.le in
      let f : at_most nought (k ⊕ n) ≡ true = T_is q.le in
      rw (e, f)

module _ (z w : Zone) where
  -- the ends of z and the starts of w have a time in common, by their limits
  abbrev pub Abut : Type 0
  Abut = Share z.end z.nend w.start w.nstart

  pub compose_apart : ¬ Abut → compose z w ≡ None
  unfolding compose
  compose_apart f = lacks w.nstart z.end z.nend w.start (Some (across z w)) (λ r. f (record { over = r.0; under = subst (λ (l : Limit). nought ≤ᴸ l) (⊕-comm z.nend w.start) r.1 }))

  pub meet_apart : ¬ Share z.start z.nstart w.start w.nstart → meet z w ≡ None
  meet_apart f =
      sym (meet_first_l z w) ∙ ap (where_room z.start w.nstart) (sym (meet_first_r z w))
      ∙ lacks z.start w.nstart w.start z.nstart (meet z w) (λ r. f (record { over = subst (λ (l : Limit). nought ≤ᴸ l) (⊕-comm z.start w.nstart) r.0; under = r.1 }))

  composed : Abut → compose z w ≡ Some (across z w)
  unfolding compose
  composed s = has w.nstart z.end z.nend w.start (Some (across z w)) s.over (subst (λ (l : Limit). nought ≤ᴸ l) (⊕-comm w.start z.nend) s.under)

  abut? : Dec Abut
  abut? = go (at_most nought (w.nstart ⊕ z.end)) (at_most nought (w.start ⊕ z.nend)) refl refl
    where
      go : (a b : Bool) → at_most nought (w.nstart ⊕ z.end) ≡ a → at_most nought (w.start ⊕ z.nend) ≡ b → Dec Abut
      go true true e f = yes (record { over = record { le = subst T (sym e) tt }; under = record { le = subst T (sym f) tt } })
      go true false e f = no (λ s. subst T f s.under.le)
      go false b e f = no (λ s. subst T e s.over.le)

  -- some end of the one is a start of the other exactly where the limits leave room for a cut
  module _ (h : Tight z) (k : Tight w) where
    cut : Abut → Touches z w
    cut s =
        let m = tight_member (subst TightMaybe (composed s) (compose_tight h k)) in
        let c = compose_cut h k (composed s) m.0 m.1 m.2 in
        (m.0, c.0, m.1, c.1, c.2)

    pub touches_share : Touches z w ↔ Abut
    touches_share = (λ t. go t abut?, cut)
      where
        go : Touches z w → Dec Abut → Abut
        go t (yes s) = s
        go t (no n) = absurd ((compose_empty h k).0 (compose_apart n) t.0 t.1 t.2 t.3 t.4)
