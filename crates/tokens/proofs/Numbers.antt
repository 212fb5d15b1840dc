-- Numbers and ranges, read from a place of the text.
use Rattle.std.proofs.Common.{Option, Some, None}
use mathlib.Core.Path.{◌≡◌, refl, sym, ap, ◌∙◌}
use mathlib.Core.Bool.{false}
use mathlib.Core.List.{List, [], ◌∷◌}
use Prim.Native.Nat.{ℕ, ◌+◌, ◌*◌, ◌<◌, ◌≤◌, min}
use native.Mathlib.Omega.{arith}
use lib.ListN.{length, drop}
use Rattle.expression.specs.declared.End.{End}
use Rattle.expression.specs.declared.End.TheVariants.{Closed, Open}
use Rattle.tokens.specs.Tokens.{no, yes, branch, bind, starts, expect, ranged, digits, numeral, numbered, bound, upper_end, limits, cap, capped_end, capped_upper, capped_range, Got-at}
use Rattle.tokens.specs.Readers.{Past, Offset-at, OffsetAs}
use Rattle.tokens.proofs.Text.{rest_past}
use Rattle.tokens.proofs.Grammar.{ranged_sound, digits_on, digits_off}

pub cap_small : (n : ℕ) → n < 1000001 → n ≡ cap n
unfolding cap
cap_small n h = omega arith

pub cap_is : (n m : ℕ) → m ≡ min n 1000001 → m ≡ cap n
unfolding cap
cap_is n m e = e

cap_step : (m d : ℕ) → d < 10 → cap (cap m * 10 + d) ≡ cap (m * 10 + d)
unfolding cap
cap_step m d h = omega arith

cap_le : (n : ℕ) → cap n ≤ 1000001
unfolding cap
cap_le n = omega arith

cap_zero : (n : ℕ) → cap n ≤ 0 → n ≡ 0
unfolding cap
cap_zero n h = omega arith

cap_some : (n : ℕ) → 0 < cap n → 0 < n
unfolding cap
cap_some n h = omega arith

digits_zero : (s : List ℕ) → digits 0 s ≡ yes 0 s
unfolding digits branch
digits_zero [] = refl
digits_zero (c ∷ s) = refl

-- the loop: the number so far is `size`, of which v is kept
pub record Counted (text : List ℕ) (at pos v : ℕ) : Type 0 where
  pub ahead : at < pos
  pub inside : pos ≤ length text
  pub size : ℕ
  pub is : v ≡ cap size
  pub most : v ≤ 1000001
  pub read : numeral (drop at text) ≡ digits size (drop pos text)

pub number_none : (s : List ℕ) → ranged 48 10 s ≡ no → numeral s ≡ no
unfolding numeral bind
number_none s e = rw e

pub number_first : {text : List ℕ} {at k : ℕ} → Offset-at 48 10 text at k → Counted text at (at + 1) k
unfolding numeral bind
number_first {k = k} o =
    record { ahead = omega arith; inside = omega (arith, o.inside); size = k; is = cap_small k (omega (arith, o.small)); most = omega (arith, o.small); read = rw o.read }

counted : {text : List ℕ} {at pos v : ℕ} (s : Counted text at pos v) → digits s.size (drop pos text) ≡ yes s.size (drop pos text) → Got-at numeral cap text at pos v
counted s e = record { ahead = s.ahead; inside = s.inside; x = s.size; is = s.is; read = s.read ∙ e }

pub counts_zero : {text : List ℕ} {at pos v : ℕ} → Counted text at pos v → v ≤ 0 → Got-at numeral cap text at pos v
counts_zero {text} {pos = pos} s h =
    let z : s.size ≡ 0 = cap_zero s.size (omega (arith, s.is)) in
    counted s (rw z (digits_zero (drop pos text)))

-- no digit follows
pub counts_end : {text : List ℕ} {at pos v : ℕ} → Counted text at pos v → (r : Option ℕ) → OffsetAs 48 10 text pos r → r ≡ None → Got-at numeral cap text at pos v
counts_end s (Some k) o e = cc
counts_end {text} {pos = pos} s None o e = counted s (digits_off s.size (drop pos text) o)

pub counts_on : {text : List ℕ} {at pos v w d : ℕ} → Counted text at pos v → 0 < v → Offset-at 48 10 text pos d → w ≡ cap (v * 10 + d) → Counted text at (pos + 1) w
counts_on {text} {pos = pos} {v = v} {d = d} s h o e =
    let p : 0 < s.size = cap_some s.size (omega (arith, s.is)) in
    record {
      ahead = omega (arith, s.ahead);
      inside = omega (arith, o.inside);
      size = s.size * 10 + d;
      is = e ∙ ap (λ (n : ℕ). cap (n * 10 + d)) s.is ∙ cap_step s.size d o.small;
      most = omega (arith, e, cap_le (v * 10 + d));
      read = s.read ∙ ap (digits s.size) (ranged_sound 48 10 (drop pos text) d (drop (pos + 1) text) o.read).1 ∙ digits_on s.size d (drop (pos + 1) text) p o.small;
    }

-- ENDS

-- a number as an end of either kind
module _ (kind : ℕ → End) (capped-kind : (n : ℕ) → capped_end (kind n) ≡ kind (cap n)) (text : List ℕ) (at : ℕ) where
  numbered_none : numeral (drop at text) ≡ no → numbered kind (drop at text) ≡ no
  unfolding numbered bind
  numbered_none e = rw e

  numbered_is : {a v : ℕ} → Got-at numeral cap text at a v → Got-at (numbered kind) capped_end text at a (kind v)
  unfolding numbered bind
  numbered_is n =
      record { ahead = n.ahead; inside = n.inside; x = kind n.x; is = ap kind n.is ∙ sym (capped-kind n.x); read = rw n.read }

-- no `<` stands before it
module _ (text : List ℕ) (at : ℕ) (plain : starts 60 (drop at text) ≡ false) where
  bound_plain : bound (drop at text) ≡ numbered Closed (drop at text)
  unfolding bound branch
  bound_plain = rw plain

  pub closed_none : numeral (drop at text) ≡ no → bound (drop at text) ≡ no
  closed_none e = bound_plain ∙ numbered_none Closed (λ n. refl) text at e

  pub closed_is : {a v : ℕ} → Got-at numeral cap text at a v → Got-at bound capped_end text at a (Closed v)
  closed_is n = let m = numbered_is Closed (λ n. refl) text at n in record { ahead = m.ahead; inside = m.inside; x = m.x; is = m.is; read = bound_plain ∙ m.read }

-- one does
module _ (text : List ℕ) (at : ℕ) {s : ℕ} (sign : Past 60 text at s) where
  bound_sign : bound (drop at text) ≡ numbered Open (drop s text)
  unfolding bound branch
  bound_sign = rw (sign.here, rest_past text at sign)

  pub open_none : numeral (drop s text) ≡ no → bound (drop at text) ≡ no
  open_none e = bound_sign ∙ numbered_none Open (λ n. refl) text s e

  pub open_is : {a v : ℕ} → Got-at numeral cap text s a v → Got-at bound capped_end text at a (Open v)
  open_is n =
      let m = numbered_is Open (λ n. refl) text s n in
      record { ahead = omega (arith, sign.next, m.ahead); inside = m.inside; x = m.x; is = m.is; read = bound_sign ∙ m.read }

-- RANGES

-- the closing brace stands where hi may
pub upper_endless : {text : List ℕ} {at a : ℕ} → Past 125 text at a → Got-at upper_end capped_upper text at a None
unfolding upper_end branch
upper_endless {text} {at} p =
    record { ahead = omega (arith, p.next); inside = omega (arith, p.next, p.inside); x = None; is = refl; read = rw (p.here, rest_past text at p) }

-- it does not
module _ (text : List ℕ) (at : ℕ) (more : starts 125 (drop at text) ≡ false) where
  upper_is : upper_end (drop at text) ≡ bind (bound (drop at text)) (λ e r. expect 125 (Some e) r)
  unfolding upper_end branch
  upper_is = rw more

  pub upper_none : bound (drop at text) ≡ no → upper_end (drop at text) ≡ no
  unfolding bind
  upper_none e = upper_is ∙ rw e

  -- hi ends at b
  module _ {b : ℕ} {w : End} (m : Got-at bound capped_end text at b w) where
    pub upper_unclosed : starts 125 (drop b text) ≡ false → upper_end (drop at text) ≡ no
    unfolding bind expect branch
    upper_unclosed e = upper_is ∙ rw m.read (rw e)

    pub upper_closed : {a : ℕ} → Past 125 text b a → Got-at upper_end capped_upper text at a (Some w)
    unfolding bind expect branch
    upper_closed p =
        record {
          ahead = omega (arith, m.ahead, p.next);
          inside = omega (arith, p.next, p.inside);
          x = Some m.x;
          is = ap Some m.is;
          read = upper_is ∙ rw m.read (rw (p.here, rest_past text b p));
        }

pub range_none : (s : List ℕ) → bound s ≡ no → limits s ≡ no
unfolding limits bind
range_none s e = rw e

-- lo ends at a
module _ {text : List ℕ} {at a : ℕ} {v : End} (n : Got-at bound capped_end text at a v) where
  pub range_stops : starts 44 (drop a text) ≡ false → limits (drop at text) ≡ no
  unfolding limits bind expect branch
  range_stops e = rw n.read (rw e)

  -- the comma is there
  module _ {s : ℕ} (comma : Past 44 text a s) where
    range_on : limits (drop at text) ≡ bind (upper_end (drop s text)) (λ u p. yes (record { lo = n.x; hi = u }) p)
    unfolding limits bind expect branch
    range_on = rw n.read (rw (comma.here, rest_past text a comma))

    pub range_open : upper_end (drop s text) ≡ no → limits (drop at text) ≡ no
    unfolding bind
    range_open e = range_on ∙ rw e

    pub range_is : {b : ℕ} {u : Option End} → Got-at upper_end capped_upper text s b u → Got-at limits capped_range text at b (record { lo = v; hi = u })
    unfolding bind
    range_is u =
        record {
          ahead = omega (arith, n.ahead, comma.next, u.ahead);
          inside = u.inside;
          x = record { lo = n.x; hi = u.x };
          is = rw (n.is, u.is);
          read = range_on ∙ rw u.read;
        }
