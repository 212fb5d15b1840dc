-- How long a sheet can be.
use mathlib.Core.Path.{◌≡◌, refl, sym, subst}
use mathlib.Core.List.Memᴰ.{append_left}
use mathlib.Core.List.Memᴰ.{append_right}
use mathlib.Core.List.{List, [], ◌∷◌, Memᴰ}
use Prim.Native.Nat.{ℕ, zero, suc, ◌+◌, ◌*◌, ◌^◌, ◌≤◌, ◌<◌}
use native.Mathlib.Omega.{arith}
use lib.IntN.{ℤ, pos, negsuc, neg_ℤ}
use lib.ListN.{length, length-append}
use lib.Signed.{mag}
use Rattle.signed.proofs.Integers.{arithZ, neg, size}
use Rattle.limit.specs.declared.Limit.{Limit}
use Rattle.limit.specs.declared.Limit.TheVariants.{AtMost, Below}
use Rattle.limit.specs.Limit.{value, Small}
use Rattle.zone.specs.declared.Zone.{Zone}
use Rattle.zone.specs.Zone.{Ranged}
use Rattle.words.specs.Words.{zone_at}
use Rattle.list.specs.Slots.{list_at}
use Rattle.list.proofs.Slots.{list_at_snoc}
use Rattle.text.specs.Decimal.{integer}
use Rattle.text.proofs.Digits.{places}
use Rattle.sheet.specs.Sheet.{bracket, range, line, lines, finished, refused}

-- an i32 and its negation have at most ten digits and a sign
signed : (z : ℤ) → mag z ≤ 2147483648 → length (integer z) ≤ 11
unfolding integer
signed (pos n) h = omega (arith, places 9 n (omega arith))
signed (negsuc n) h = omega (arith, places 9 (suc n) (omega arith))

bracket_length : (l : Limit) (a b : ℕ) → length (bracket l (a ∷ []) (b ∷ [])) ≡ 1
bracket_length (AtMost v) a b = refl
bracket_length (Below v) a b = refl

range_length : (lower upper : Limit) → Small 2147483647 lower → Small 2147483647 upper → length (range lower upper) ≤ 25
unfolding range
range_length l u h k =
    simp length-append
    (omega (arithZ, bracket_length l 91 40, bracket_length u 93 41, signed (neg_ℤ (value l)) (omega (arithZ, neg (value l), size (value l), size (neg_ℤ (value l)))), signed (value u) (omega arith)))

line_length : (z : Zone) → Ranged 2147483647 z → length (line z) ≤ 95
unfolding line
line_length z r =
    simp length-append
    (omega (arith, range_length z.nstart z.start r.nstart r.start, range_length z.nend z.end r.nend r.end, range_length z.nlength z.length r.nlength r.length))

module _ (front : List ℤ) where
  -- the zones that stand in the first words, six a zone, have limits that an i32 holds
  abbrev pub Held : ℕ → Type 0
  Held n = (z : Zone) → Memᴰ z (list_at front 0 n) → Ranged 2147483647 z

  lines_length : (n : ℕ) → Held n → length (lines front n) ≤ n * 95
  unfolding lines
  lines_length zero h = omega arith
  lines_length (suc n) h =
      let e = sym (list_at_snoc front 0 n) in
      let before : Held n = λ z m. h z (subst (Memᴰ z) e (append_left (zone_at front (0 + n * 6) ∷ []) m)) in
      let last = h (zone_at front (0 + n * 6)) (subst (Memᴰ (zone_at front (0 + n * 6))) e (append_right (list_at front 0 n) (Memᴰ.head refl))) in
      simp length-append (omega (arith, lines_length n before, line_length (zone_at front (n * 6)) (subst (λ (k : ℕ). Ranged 2147483647 (zone_at front k)) (omega arith) last)))

  -- The sheet of a finished list has at most 95 bytes for each zone and 55 for its first line: 12,215 for 128 zones.
  pub finished_length : (zones rounds : ℕ) → Held zones → zones < 2 ^ 64 → rounds < 2 ^ 64 → length (finished zones rounds front) ≤ 55 + zones * 95
  unfolding finished
  finished_length zones rounds h m n =
      simp length-append (omega (arith, places 19 zones (omega arith), places 19 rounds (omega arith), lines_length zones h))

-- A refusal has one or two digits.
pub refused_length : (n : ℕ) → n < 100 → length (refused n) ≤ 11
unfolding refused
refused_length n h = simp length-append (omega (arith, places 1 n (omega arith)))
