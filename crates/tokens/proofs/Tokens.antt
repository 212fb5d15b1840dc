-- Letters with their sign, and operators after their operand, read from a place of the text.
use mathlib.Core.Path.{◌≡◌, refl, ap}
use mathlib.Core.Bool.{false}
use mathlib.Core.List.{List}
use Prim.Native.Nat.{ℕ, ◌+◌, ◌<◌, ◌≤◌}
use native.Mathlib.Omega.{arith}
use lib.ListN.{length, get_or, drop, drop_of_length-le}
use borrow.Author.Tests.{ne_eqb}
use Rattle.expression.specs.declared.Range.{Range}
use Rattle.expression.specs.declared.Sign.{Sign}
use Rattle.expression.specs.declared.Sign.TheVariants.{High, Low, Rise, Fall}
use Rattle.expression.specs.declared.Unary.TheVariants.{Star, Band}
use Rattle.tokens.specs.Tokens.{no, branch, bind, starts, rest, ranged, limits, postfix, signed, lettered, capped_range, capped_unary, Got-at, Letter-at}
use Rattle.tokens.specs.Readers.{Past, Offset-at, Signed-at}
use Rattle.tokens.proofs.Text.{head, rest_past}

module _ (text : List ℕ) (at : ℕ) where
  -- a sign of one byte, another byte, and the end of the text
  module _ {b : ℕ} (h : at < length text) (is : b ≡ get_or text at 0) where
    pub low_is : b ≡ 33 → Signed-at text at (at + 1) Low
    unfolding signed branch starts rest
    low_is e = record { ahead = omega arith; read = rw (head text at h, ← is, e) }

    pub rise_is : b ≡ 43 → Signed-at text at (at + 1) Rise
    unfolding signed branch starts rest
    rise_is e = record { ahead = omega arith; read = rw (head text at h, ← is, e) }

    pub fall_is : b ≡ 45 → Signed-at text at (at + 1) Fall
    unfolding signed branch starts rest
    fall_is e = record { ahead = omega arith; read = rw (head text at h, ← is, e) }

    pub unsigned : (b ≡ 33 → ⊥) → (b ≡ 43 → ⊥) → (b ≡ 45 → ⊥) → Signed-at text at at High
    unfolding signed branch starts
    unsigned x y z = record { ahead = omega arith; read = rw (head text at h, ← is, ne_eqb _ _ x, ne_eqb _ _ y, ne_eqb _ _ z) }

  pub unsigned_end : length text ≤ at → Signed-at text at at High
  unfolding signed branch starts
  unsigned_end h = record { ahead = omega arith; read = rw (drop_of_length-le text h) }

  -- a sign, and then a letter or none
  module _ {a : ℕ} {s : Sign} (g : Signed-at text at a s) where
    pub no_letter : ranged 97 16 (drop a text) ≡ no → lettered (drop at text) ≡ no
    unfolding bind
    no_letter e = rw (g.read, e)

    pub letter_is : {k : ℕ} → Offset-at 97 16 text a k → Letter-at text at (a + 1) s k
    unfolding bind
    letter_is o =
        record { ahead = omega (arith, g.ahead); inside = omega (arith, o.inside); small = o.small; read = rw (g.read, o.read) }

  pub star_is : {a : ℕ} → Past 42 text at a → Got-at postfix capped_unary text at a Star
  unfolding branch
  star_is p =
      record { ahead = omega (arith, p.next); inside = omega (arith, p.next, p.inside); x = Star; is = refl; read = rw (p.here, rest_past text at p) }

  -- no `*`
  module _ (m : starts 42 (drop at text) ≡ false) where
    pub no_operator : starts 123 (drop at text) ≡ false → postfix (drop at text) ≡ no
    unfolding branch
    no_operator e = rw (m, e)

    -- a brace
    module _ {s : ℕ} (p : Past 123 text at s) where
      pub no_band : limits (drop s text) ≡ no → postfix (drop at text) ≡ no
      unfolding branch bind
      no_band e = rw (m, p.here, rest_past text at p, e)

      pub band_is : {b : ℕ} {r : Range} → Got-at limits capped_range text s b r → Got-at postfix capped_unary text at b (Band r)
      unfolding branch bind
      band_is x =
          record {
            ahead = omega (arith, p.next, x.ahead);
            inside = x.inside;
            x = Band x.x;
            is = ap Band x.is;
            read = rw (m, p.here, rest_past text at p, x.read);
          }
