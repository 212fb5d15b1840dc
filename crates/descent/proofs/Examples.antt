-- Small texts, read by computing.
use Rattle.std.proofs.Common.{Some, None}
use mathlib.Core.Path.{◌≡◌, refl, sym, ap, ◌∙◌}
use mathlib.Core.Bool.{Bool, true, false}
use mathlib.Core.List.{List, [], ◌∷◌}
use Prim.Native.Nat.{ℕ}
use Prim.Native.String.{String, [] as []ₛ, ◌∷◌ as ◌∷ₛ◌}
use Prim.Native.Char.{code}
use Rattle.expression.specs.declared.Range.{Range}
use Rattle.expression.specs.declared.End.TheVariants.{Closed, Open}
use Rattle.expression.specs.declared.Sign.TheVariants.{High, Low, Rise, Fall}
use Rattle.expression.specs.declared.Join.TheVariants.{Union, Intersection, Concatenation}
use Rattle.expression.specs.declared.Unary.TheVariants.{Star, Band, Absence}
use Rattle.expression.specs.Expression.{Expression, epsilon, literal, join, unary}
use Rattle.expression.specs.Grammar.{Form, alternative}
use Rattle.tokens.specs.Tokens.{Got, no, yes, branch, bind, starts, rest, expect, ranged, signed, digits, numeral, numbered, bound, upper_end, limits}
use Rattle.descent.specs.Descent.{postfixes, joining, read, height, descent}
use Rattle.descent.proofs.Complete.{whole_sound, whole_complete}

abbrev bytes : String → List ℕ
bytes []ₛ = []
bytes (c ∷ₛ s) = code c ∷ bytes s

-- the text is the drill e
abbrev Is : String → Expression → Type 0
Is s e = Form alternative (bytes s) e

-- the text is no drill
abbrev IsNo : String → Type 0
IsNo s = (e : Expression) → Form alternative (bytes s) e → ⊥

-- nothing is read, or some text is left
leftover : Got Expression → Bool
leftover no = true
leftover (yes e []) = false
leftover (yes e (c ∷ r)) = true

none : (s : List ℕ) → leftover (descent (joining Union) s) ≡ true → (e : Expression) → Form alternative s e → ⊥
unfolding leftover
none s h e f = let w = sym (ap leftover (whole_complete f)) ∙ h in cc

abbrev a : Expression
a = literal High 0

abbrev within : ℕ → ℕ → Range
within lo hi = record { lo = Closed lo; hi = Some (Closed hi) }

-- Stars and bands are applied left to right, `~` to the whole repeat after it, joins group to the left and bind as the grammar says, brackets add nothing.
pub drills : Is "_" epsilon × Is "p" (literal High 15) × Is "!p" (literal Low 15) × Is "a**" (unary Star (unary Star a)) × Is "a*{1,2}*" (unary Star (unary (Band (within 1 2)) (unary Star a)))
    × Is "a.b|c&d" (join Union (join Concatenation a (literal High 1)) (join Intersection (literal High 2) (literal High 3))) × Is "a.b.c" (join Concatenation (join Concatenation a (literal High 1)) (literal High 2))
    × Is "a|b|c" (join Union (join Union a (literal High 1)) (literal High 2)) × Is "a.(b.c)" (join Concatenation a (join Concatenation (literal High 1) (literal High 2)))
    × Is "(a|!a)*" (unary Star (join Union a (literal Low 0))) × Is "a{0,}" (unary (Band (record { lo = Closed 0; hi = None })) a) × Is "(a{2,2})*" (unary Star (unary (Band (within 2 2)) a))
    × Is "((a))" a × Is "a{10,205}" (unary (Band (within 10 205)) a)
    × Is "a{<2,5}" (unary (Band (record { lo = Open 2; hi = Some (Closed 5) })) a) × Is "a{2,<5}" (unary (Band (record { lo = Closed 2; hi = Some (Open 5) })) a)
    × Is "a{<2,<50}" (unary (Band (record { lo = Open 2; hi = Some (Open 50) })) a) × Is "a{<200,}" (unary (Band (record { lo = Open 200; hi = None })) a)
    × Is "+a" (literal Rise 0) × Is "-p" (literal Fall 15) × Is "+a.-a{0,0}" (join Concatenation (literal Rise 0) (unary (Band (within 0 0)) (literal Fall 0)))
    × Is "~a*" (unary Absence (unary Star a)) × Is "~a{1,2}*" (unary Absence (unary Star (unary (Band (within 1 2)) a))) × Is "a.~b" (join Concatenation a (unary Absence (literal High 1)))
    × Is "~a.b" (join Concatenation (unary Absence a) (literal High 1)) × Is "~(~a)" (unary Absence (unary Absence a)) × Is "(~a)*" (unary Star (unary Absence a)) × Is "~!a" (unary Absence (literal Low 0))
unfolding descent read height branch bind starts rest expect ranged signed digits numeral numbered bound upper_end limits postfixes
drills = (
  whole_sound _ _ refl,
  whole_sound _ _ refl,
  whole_sound _ _ refl,
  whole_sound _ _ refl,
  whole_sound _ _ refl,
  whole_sound _ _ refl,
  whole_sound _ _ refl,
  whole_sound _ _ refl,
  whole_sound _ _ refl,
  whole_sound _ _ refl,
  whole_sound _ _ refl,
  whole_sound _ _ refl,
  whole_sound _ _ refl,
  whole_sound _ _ refl,
  whole_sound _ _ refl,
  whole_sound _ _ refl,
  whole_sound _ _ refl,
  whole_sound _ _ refl,
  whole_sound _ _ refl,
  whole_sound _ _ refl,
  whole_sound _ _ refl,
  whole_sound _ _ refl,
  whole_sound _ _ refl,
  whole_sound _ _ refl,
  whole_sound _ _ refl,
  whole_sound _ _ refl,
  whole_sound _ _ refl,
  whole_sound _ _ refl,
)

-- A leading zero, a missing lo, comma, brace or operand, blanks, letters beyond `p`, a `<` without a number behind it,
-- a sign without a letter behind it, and a `~` without a repeat behind it are not of the form.
pub no_drills : IsNo "a{01,2}" × IsNo "a{,2}" × IsNo "a{2}" × IsNo "()" × IsNo "a b" × IsNo "q" × IsNo "!_" × IsNo "a." × IsNo "|a" × IsNo "a&" × IsNo "a{1,2" × IsNo "(a" × IsNo "a)"
    × IsNo "a{2,<}" × IsNo "a{<,5}" × IsNo "a{<02,5}" × IsNo "a{<<2,5}" × IsNo "a{2<,5}" × IsNo "a{< 2,5}" × IsNo "a{2,5<}"
    × IsNo "+" × IsNo "+(a)" × IsNo "!+a" × IsNo "++a" × IsNo "+!a" × IsNo "-" × IsNo "a+" × IsNo "+_" × IsNo "+q"
    × IsNo "~" × IsNo "~~a" × IsNo "!~a" × IsNo "a~" × IsNo "a~b" × IsNo "(~)" × IsNo "~*"
unfolding descent read height branch bind starts rest expect ranged signed digits numeral numbered bound upper_end limits postfixes leftover
no_drills = (
  none _ refl,
  none _ refl,
  none _ refl,
  none _ refl,
  none _ refl,
  none _ refl,
  none _ refl,
  none _ refl,
  none _ refl,
  none _ refl,
  none _ refl,
  none _ refl,
  none _ refl,
  none _ refl,
  none _ refl,
  none _ refl,
  none _ refl,
  none _ refl,
  none _ refl,
  none _ refl,
  none _ refl,
  none _ refl,
  none _ refl,
  none _ refl,
  none _ refl,
  none _ refl,
  none _ refl,
  none _ refl,
  none _ refl,
  none _ refl,
  none _ refl,
  none _ refl,
  none _ refl,
  none _ refl,
  none _ refl,
  none _ refl,
)
