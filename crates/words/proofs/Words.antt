-- What a buffer holds after it was written to.
use mathlib.Core.Path.{◌≡◌, refl, sym, ap, ◌∙◌}
use mathlib.Core.List.{List, [], ◌∷◌, ◌++◌, append_assoc}
use Prim.Native.Nat.{ℕ, zero, suc, ◌+◌, ◌-◌, ◌≤◌, ◌<◌}
use native.Mathlib.Omega.{arith}
use native.Mathlib.Nat.{add-zero}
use lib.IntN.{ℤ, pos}
use lib.ListN.{length, set, take, drop, length-append, length-take, length-drop, get_or-append}
use lib.Seq.{paste, drop-cons, sets-eq, length-take-le, get_or-append-add, get_or-take, get_or-drop}
use Rattle.limit.specs.Limit.{decode}
use Rattle.zone.specs.declared.Zone.{Zone}
use Rattle.words.specs.Words.{zone_words, word, codes, zone_at, overwrite}
use Rattle.limit.proofs.Coding.{code_decode, decode_code}

-- ---- a buffer that was written to

module _ (ws : List ℤ) (at : ℕ) (vs : List ℤ) (fits : at + length vs ≤ length ws) where
  front : length (take at ws) ≡ at
  front = length-take-le at ws (omega arith)

  pub overwrite_length : length (overwrite ws at vs) ≡ length ws
  unfolding overwrite
  overwrite_length = simp (length-append, length-drop, length-take) (omega arith)

  pub overwrite_below : (k : ℕ) → k < at → word (overwrite ws at vs) k ≡ word ws k
  unfolding overwrite
  overwrite_below k h = get_or-append (take at ws) (vs ++ drop (at + length vs) ws) (pos 0) k (omega (arith, front)) ∙ get_or-take at ws k (pos 0) h

  pub overwrite_in : (k : ℕ) → k < length vs → word (overwrite ws at vs) (at + k) ≡ word vs k
  unfolding overwrite
  overwrite_in k h =
      ap (λ (n : ℕ). word (take at ws ++ (vs ++ drop (at + length vs) ws)) (n + k)) (sym front)
      ∙ get_or-append-add (take at ws) (vs ++ drop (at + length vs) ws) k (pos 0)
      ∙ get_or-append vs (drop (at + length vs) ws) (pos 0) k h

  pub overwrite_above : (k : ℕ) → at + length vs ≤ k → word (overwrite ws at vs) k ≡ word ws k
  unfolding overwrite
  overwrite_above k h =
      let n = k - (at + length vs) in
      let e : k ≡ length (take at ws) + (length vs + n) = omega (arith, front) in
      ap (word (take at ws ++ (vs ++ drop (at + length vs) ws))) e
      ∙ get_or-append-add (take at ws) (vs ++ drop (at + length vs) ws) (length vs + n) (pos 0)
      ∙ get_or-append-add vs (drop (at + length vs) ws) n (pos 0)
      ∙ get_or-drop (at + length vs) ws n (pos 0)
      ∙ ap (word ws) (omega arith)

-- the zone of six codes
pub zone_of_codes : (ws : List ℤ) (at : ℕ) (z : Zone) → ((k : ℕ) → k < zone_words → word ws (at + k) ≡ word (codes z) k) → zone_at ws at ≡ z
unfolding zone_at
zone_of_codes ws at z f =
    let f0 = rw add-zero at (f 0 (omega arith)) in
    λ i. record {
      start = (ap decode f0 ∙ decode_code z.start) i;
      nstart = (ap decode (f 1 (omega arith)) ∙ decode_code z.nstart) i;
      end = (ap decode (f 2 (omega arith)) ∙ decode_code z.end) i;
      nend = (ap decode (f 3 (omega arith)) ∙ decode_code z.nend) i;
      length = (ap decode (f 4 (omega arith)) ∙ decode_code z.length) i;
      nlength = (ap decode (f 5 (omega arith)) ∙ decode_code z.nlength) i;
    }

-- the codes of a zone that was read are the words that it was read from
pub codes_read : (ws : List ℤ) (at : ℕ) → codes (zone_at ws at) ≡ word ws at ∷ word ws (at + 1) ∷ word ws (at + 2) ∷ word ws (at + 3) ∷ word ws (at + 4) ∷ word ws (at + 5) ∷ []
unfolding zone_at
codes_read ws at = simp code_decode

pub zone_word : (ws : List ℤ) (at k : ℕ) → k < zone_words → word (codes (zone_at ws at)) k ≡ word ws (at + k)
unfolding zone_at
zone_word ws at zero h = code_decode (word ws at) ∙ ap (word ws) (omega arith)
zone_word ws at (suc zero) h = code_decode (word ws (at + 1))
zone_word ws at (suc (suc zero)) h = code_decode (word ws (at + 2))
zone_word ws at (suc (suc (suc zero))) h = code_decode (word ws (at + 3))
zone_word ws at (suc (suc (suc (suc zero)))) h = code_decode (word ws (at + 4))
zone_word ws at (suc (suc (suc (suc (suc zero))))) h = code_decode (word ws (at + 5))
zone_word ws at (suc (suc (suc (suc (suc (suc k)))))) h = absurd (omega arith)

-- two buffers with the same six words have the same zone there
pub same_zone : (ws vs : List ℤ) (i j : ℕ) → ((k : ℕ) → k < zone_words → word ws (i + k) ≡ word vs (j + k)) → zone_at ws i ≡ zone_at vs j
unfolding zone_at
same_zone ws vs i j f =
    let f0 = rw (add-zero, add-zero) at (f 0 (omega arith)) in
    λ m. record { start = decode (f0 m); nstart = decode (f 1 (omega arith) m); end = decode (f 2 (omega arith) m); nend = decode (f 3 (omega arith) m); length = decode (f 4 (omega arith) m); nlength = decode (f 5 (omega arith) m) }

-- a zone that was written is read there
pub written_zone : (ws : List ℤ) (at : ℕ) (z : Zone) → at + zone_words ≤ length ws → zone_at (overwrite ws at (codes z)) at ≡ z
written_zone ws at z h = zone_of_codes (overwrite ws at (codes z)) at z (λ k p. overwrite_in ws at (codes z) h k p)

-- six words stored one after the other
pub six_stores : (ws : List ℤ) (at : ℕ) (v0 v1 v2 v3 v4 v5 : ℤ) → at + zone_words ≤ length ws →
    set (set (set (set (set (set ws at v0) (at + 1) v1) (at + 2) v2) (at + 3) v3) (at + 4) v4) (at + 5) v5 ≡ overwrite ws at (v0 ∷ v1 ∷ v2 ∷ v3 ∷ v4 ∷ v5 ∷ [])
unfolding overwrite
six_stores ws at v0 v1 v2 v3 v4 v5 h =
    let vs = v0 ∷ v1 ∷ v2 ∷ v3 ∷ v4 ∷ v5 ∷ [] in
    let e1 : at + 1 ≡ suc at = omega arith in
    let e2 : at + 2 ≡ suc (suc at) = omega arith in
    let e3 : at + 3 ≡ suc (suc (suc at)) = omega arith in
    let e4 : at + 4 ≡ suc (suc (suc (suc at))) = omega arith in
    let e5 : at + 5 ≡ suc (suc (suc (suc (suc at)))) = omega arith in
    rw (e1, e2, e3, e4, e5) (sets-eq vs ws at h ∙ append_assoc (take at ws) vs (drop (at + zone_words) ws))

-- six words of a list, cut out of it
pub six_words : (ws : List ℤ) (at : ℕ) → at + zone_words ≤ length ws → take zone_words (drop at ws) ≡ word ws at ∷ word ws (at + 1) ∷ word ws (at + 2) ∷ word ws (at + 3) ∷ word ws (at + 4) ∷ word ws (at + 5) ∷ []
six_words ws at h =
    let e1 : at + 1 ≡ suc at = omega arith in
    let e2 : at + 2 ≡ suc (suc at) = omega arith in
    let e3 : at + 3 ≡ suc (suc (suc at)) = omega arith in
    let e4 : at + 4 ≡ suc (suc (suc (suc at))) = omega arith in
    let e5 : at + 5 ≡ suc (suc (suc (suc (suc at)))) = omega arith in
    let d0 = drop-cons ws at (pos 0) (omega arith) in
    let d1 = drop-cons ws (suc at) (pos 0) (omega arith) in
    let d2 = drop-cons ws (suc (suc at)) (pos 0) (omega arith) in
    let d3 = drop-cons ws (suc (suc (suc at))) (pos 0) (omega arith) in
    let d4 = drop-cons ws (suc (suc (suc (suc at)))) (pos 0) (omega arith) in
    let d5 = drop-cons ws (suc (suc (suc (suc (suc at))))) (pos 0) (omega arith) in
    rw (e1, e2, e3, e4, e5, d0, d1, d2, d3, d4, d5) refl

-- .. and all of a list of six
pub six_of : (w : List ℤ) → length w ≡ 6 → word w 0 ∷ word w 1 ∷ word w 2 ∷ word w 3 ∷ word w 4 ∷ word w 5 ∷ [] ≡ w
six_of (a ∷ b ∷ c ∷ d ∷ e ∷ f ∷ []) h = refl
six_of [] h = absurd (omega arith)
six_of (a ∷ []) h = absurd (omega arith)
six_of (a ∷ b ∷ []) h = absurd (omega arith)
six_of (a ∷ b ∷ c ∷ []) h = absurd (omega arith)
six_of (a ∷ b ∷ c ∷ d ∷ []) h = absurd (omega arith)
six_of (a ∷ b ∷ c ∷ d ∷ e ∷ []) h = absurd (omega arith)
six_of (a ∷ b ∷ c ∷ d ∷ e ∷ f ∷ g ∷ w) h = absurd (omega arith)

-- a zone's words pasted over others
pub pasted_zone : (ws : List ℤ) (from to n : ℕ) → n ≡ zone_words → from + zone_words ≤ length ws → paste ws to (drop from ws) n ≡ overwrite ws to (codes (zone_at ws from))
unfolding overwrite
pasted_zone ws from to n e h = rw (e, six_words ws from h, ← codes_read ws from) (append_assoc (take to ws) (codes (zone_at ws from)) (drop (to + zone_words) ws))
