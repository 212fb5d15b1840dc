-- What `line` hands out of a place: the line that it holds, or the first 256 bytes of a longer one.
use mathlib.Core.Path.{◌≡◌, sym, subst, ◌∙◌}
use mathlib.Core.List.{List, [], ◌∷◌, Memᴰ}
use Prim.Native.Nat.{ℕ, ◌+◌, ◌-◌, ◌*◌, ◌≤◌, ◌<◌, min}
use native.Mathlib.Decide.{dec_lt}
use native.Mathlib.Omega.{arith}
use lib.ListN.{length, get_or, take, drop, length-append, length-take, length-drop, get_or-append}
use lib.Seq.{get_or-append_seam, get_or-take, get_or-drop, ext_get_or, take_all}
use Rattle.lines.specs.Lines.{most_lines, newline, terminated, Unbroken}
use Rattle.lines.specs.Taken.{place_bytes, store_bytes, Held}
use Rattle.lines.specs.Steps.{LengthAs}
use Rattle.lines.proofs.Lined.{at_mem}

-- n bytes stand before the first newline of a place that holds a line
module _ {store drill : List ℕ} {k n : ℕ} (plain : Unbroken drill) (held : Held store k (terminated drill)) (a : LengthAs store k n) where
  total : length (terminated drill) ≡ length drill + 1
  total = length-append drill (newline ∷ [])

  byte : (i : ℕ) → i < place_bytes → i < length drill → get_or store (k * place_bytes + i) 0 ≡ get_or drill i 0
  byte i small within = held.at i small (omega (arith, total)) ∙ get_or-append drill (newline ∷ []) 0 i within

  -- the newline is none of the drill's bytes ..
  early : n < place_bytes → ¬ (n < length drill)
  early small within = plain (subst (λ (b : ℕ). Memᴰ b drill) (sym (byte n small within) ∙ a.found small) (at_mem drill n 0 within))

  -- .. and none that stands behind the one that ends it
  late : ¬ (length drill < n)
  late past = a.before (length drill) past (held.at (length drill) (omega arith) (omega (arith, total)) ∙ get_or-append_seam drill newline [] 0)

  -- They are as many as the line has, or as the place has room for.
  pub line_length : n ≡ min place_bytes (length drill)
  line_length = elim (dec_lt n place_bytes) [
    | yes small ↦ omega (arith, early small, late)
    | no full ↦ omega (arith, late)
  ]

  -- And they are the line's: from k × 256 on, to where they end.
  pub line_bytes : k < most_lines → store_bytes ≤ length store → take (k * place_bytes + n - k * place_bytes) (drop (k * place_bytes) store) ≡ take place_bytes drill
  line_bytes small room = rw size (ext_get_or 0 _ _ (long ∙ sym short) (λ i within. same i (omega (arith, long))))
    where
      size : k * place_bytes + n - k * place_bytes ≡ n
      size = omega arith

      long : length (take n (drop (k * place_bytes) store)) ≡ n
      long = simp (length-take, length-drop) (omega arith)

      short : length (take place_bytes drill) ≡ n
      short = length-take place_bytes drill ∙ sym line_length

      same : (i : ℕ) → i < n → get_or (take n (drop (k * place_bytes) store)) i 0 ≡ get_or (take place_bytes drill) i 0
      same i h =
          let fits : i < place_bytes = omega arith in
          rw (get_or-take n (drop (k * place_bytes) store) i 0, get_or-drop, get_or-take place_bytes drill i 0) (byte i fits (omega (arith, line_length)))

-- A line of at most 256 bytes is handed out whole.
pub line_whole : {drill : List ℕ} → length drill ≤ place_bytes → take place_bytes drill ≡ drill
line_whole {drill} h = take_all place_bytes drill h

-- What is handed out of a line of more than 255 bytes, which is too long for a drill, has more than 255 too: both are refused by 4.
pub line_long : (drill : List ℕ) → 255 < length drill → 255 < length (take place_bytes drill)
line_long drill h = rw (length-take place_bytes drill) (omega arith)
