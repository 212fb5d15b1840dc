-- The steps of the functions' code: what a test that was passed or failed says of the definition.
use Rattle.std.specs.Prelude.{Option, Some, None}
use mathlib.Core.Path.{◌≡◌, sym, ap, subst, ◌∙◌}
use mathlib.Core.Bool.{Bool, true, false, cond}
use lib.Dec.{T}
use Rattle.limit.specs.declared.Limit.{Limit}
use Rattle.limit.specs.Limit.{at_most, ◌≤ᴸ◌, ◌⊕◌, nought}
use Rattle.zone.specs.Zone.{Zone, where_room, tighter, tighten}

module _ (l m : Limit) (a : Option Zone) {b : Bool} (e : b ≡ at_most nought (l ⊕ m)) where
  pub no_room : b ≡ false → None ≡ where_room l m a
  unfolding where_room
  no_room t = ap (λ (c : Bool). cond c a None) (sym t ∙ e)

  pub has_room : b ≡ true → a ≡ where_room l m a
  unfolding where_room
  has_room t = ap (λ (c : Bool). cond c a None) (sym t ∙ e)

-- the same by the order
module _ (l m : Limit) {b : Bool} (e : b ≡ at_most nought (l ⊕ m)) where
  pub lacks_room : b ≡ false → ¬ (nought ≤ᴸ l ⊕ m)
  lacks_room t h = subst T (sym e ∙ t) h.le

  pub leaves_room : b ≡ true → nought ≤ᴸ l ⊕ m
  leaves_room t = record { le = subst T (sym t ∙ e) tt }

-- the last step of tightening, from the tighter zone
unfoldable pub checked : Zone → Option Zone
checked t = where_room t.start t.nstart (where_room t.end t.nend (where_room t.length t.nlength (Some t)))

pub tighten_checked : (z : Zone) {t : Zone} {r : Option Zone} → t ≡ tighter z → r ≡ checked t → r ≡ tighten z
unfolding checked tighten
tighten_checked z e f = f ∙ ap checked e
