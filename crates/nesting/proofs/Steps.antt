-- The steps of inclusion on words: what a test that was passed or failed says of the definition.
use mathlib.Core.Path.{◌≡◌, refl, sym, ap, subst, ◌∙◌}
use mathlib.Core.Bool.{Bool, true, false, ◌&&◌}
use lib.Dec.{T}
use Rattle.limit.specs.Limit.{at_most}
use Rattle.zone.specs.declared.Zone.{Zone}
use Rattle.zone.specs.Zone.{contains}

-- one that fails fails them all

pub fails_here : (a : Bool) {b : Bool} → b ≡ false → false ≡ a && b
fails_here true e = sym e
fails_here false e = refl

pub fails_before : {a : Bool} (b : Bool) → false ≡ a → false ≡ a && b
fails_before b e = ap (λ (a : Bool). a && b) e

-- after the starts the lengths decide, if one of them fails
pub lengths_decide : (z w : Zone) {l nl : Bool} → l ≡ at_most w.length z.length → nl ≡ at_most w.nlength z.nlength → l && nl ≡ false → false ≡ contains z w
lengths_decide z w {l} {nl} p q e = go l nl (sym p) (sym q) e
  where
    four : Bool
    four = at_most w.start z.start && at_most w.nstart z.nstart && at_most w.end z.end && at_most w.nend z.nend

    go : (l nl : Bool) → at_most w.length z.length ≡ l → at_most w.nlength z.nlength ≡ nl → l && nl ≡ false → false ≡ contains z w
    go true nl p q e = fails_here (four && at_most w.length z.length) (q ∙ e)
    go false nl p q e = fails_before (at_most w.nlength z.nlength) (fails_here four p)

-- and then the ends
pub ends_decide : (z w : Zone) {e ne l nl : Bool} → at_most w.start z.start ≡ true → at_most w.nstart z.nstart ≡ true
    → l ≡ at_most w.length z.length → nl ≡ at_most w.nlength z.nlength → l && nl ≡ true → e ≡ at_most w.end z.end → ne ≡ at_most w.nend z.nend
    → e && ne ≡ contains z w
ends_decide z w {e} {ne} {l} {nl} p q a b t f g = rw (f, g, p, q) (go l nl (sym a) (sym b) t)
  where
    and_true : (x : Bool) → x ≡ x && true && true
    and_true true = refl
    and_true false = refl

    go : (l nl : Bool) → at_most w.length z.length ≡ l → at_most w.nlength z.nlength ≡ nl → l && nl ≡ true
        → at_most w.end z.end && at_most w.nend z.nend ≡ at_most w.end z.end && at_most w.nend z.nend && at_most w.length z.length && at_most w.nlength z.nlength
    go true true a b t = rw (a, b) (and_true (at_most w.end z.end && at_most w.nend z.nend))
    go true false a b t = absurd (subst T (sym t) tt)
    go false nl a b t = absurd (subst T (sym t) tt)

-- a start that reaches further than the other's: that zone does not lie inside the other
pub starts_decide : (z w : Zone) → at_most w.start z.start ≡ false → false ≡ contains z w
starts_decide z w e =
    fails_before (at_most w.nlength z.nlength) (fails_before (at_most w.length z.length) (fails_before (at_most w.nend z.nend) (fails_before (at_most w.end z.end) (fails_before (at_most w.nstart z.nstart) (sym e)))))
