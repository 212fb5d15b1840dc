-- What is left to tighten of all stretches with limits on their length: nothing where no length is left; else the latest start and the
-- earliest end, which the shortest length moves.
use Rattle.std.specs.Prelude.{Option, Some, None}
use mathlib.Core.Path.{◌≡◌, refl, sym}
use Prim.Native.Nat.{ℕ}
use Rattle.limit.specs.declared.Limit.{Limit}
use Rattle.limit.specs.Limit.{◌≤ᴸ◌, ◌⊕◌, lesser, most, least, nought}
use Rattle.limit.proofs.Order.{≤-refl, ≤_trans, ⊕-mono, ⊕-assoc, ⊕-nought, nought-⊕, off_nought, flip, lesser_l, lesser_of, lesser_is_l}
use Rattle.zone.specs.Zone.{Zone, tighter, tighten, everything, limited, band}
use Rattle.zone.proofs.Steps.{checked, tighten_checked}
use Rattle.zone.proofs.Tighten.{room_is}

-- z with its latest start and its earliest end moved by the shortest length
abbrev pub shifted : Zone → Zone
shifted z =
    record {
      start = lesser z.start (z.nlength ⊕ z.end);
      nstart = z.nstart;
      end = z.end;
      nend = lesser z.nend (z.nstart ⊕ z.nlength);
      length = z.length;
      nlength = z.nlength;
    }

module _ (from to : ℕ) (longest shortest : Limit) where
  abbrev lengths : Zone
  lengths = limited (everything from to) longest shortest

  -- no stretch is longer than all of from..to, and none has a length below 0
  longest_is : lengths.length ≤ᴸ most to ⊕ least from
  unfolding limited everything ◌⊕◌
  longest_is = lesser_l _ _

  shortest_is : lengths.nlength ≤ᴸ nought
  unfolding limited everything
  shortest_is = lesser_l _ _

  pub no_length : ¬ (nought ≤ᴸ lengths.length ⊕ lengths.nlength) → None ≡ band from to longest shortest
  unfolding band tighten tighter
  no_length n =
      let t = tighter lengths in
      let P : Option Zone → Type 0 = λ a. None ≡ a in
      room_is t.start t.nstart _ P
      (λ _. room_is t.end t.nend _ P
      (λ _. room_is t.length t.nlength (Some t) P (λ h. absurd (n (≤_trans h (⊕-mono (lesser_l _ _) (lesser_l _ _))))) (λ _. refl))
      (λ _. refl))
      (λ _. refl)

  module _ (some : nought ≤ᴸ lengths.length ⊕ lengths.nlength) where
    long : nought ≤ᴸ lengths.length
    long = ≤_trans some (≤_trans (⊕-mono (≤-refl _) shortest_is) (off_nought _))

    wide : nought ≤ᴸ most to ⊕ least from
    wide = ≤_trans long longest_is

    tighter_is : shifted lengths ≡ tighter lengths
    unfolding tighter limited everything
    tighter_is i =
        record {
          start = lesser (most to) (lengths.nlength ⊕ most to);
          nstart = sym (lesser_is_l (≤_trans (⊕-nought (least from)) (⊕-mono (≤-refl _) long))) i;
          end = sym (lesser_is_l (≤_trans (nought-⊕ (most to)) (⊕-mono long (≤-refl _)))) i;
          nend = lesser (least from) (least from ⊕ lengths.nlength);
          length = sym (lesser_is_l longest_is) i;
          nlength = sym (lesser_is_l (≤_trans shortest_is wide)) i;
        }

    -- some start is left, and some end
    starts : nought ≤ᴸ (shifted lengths).start ⊕ (shifted lengths).nstart
    unfolding limited everything
    starts = lesser_of (λ l. nought ≤ᴸ l ⊕ least from) wide (rw (⊕-assoc lengths.nlength (most to) (least from)) (≤_trans (flip _ _ some) (⊕-mono (≤-refl _) longest_is)))

    ends : nought ≤ᴸ (shifted lengths).end ⊕ (shifted lengths).nend
    unfolding limited everything
    ends = lesser_of (λ l. nought ≤ᴸ most to ⊕ l) wide (rw (← ⊕-assoc (most to) (least from) lengths.nlength) (≤_trans some (⊕-mono longest_is (≤-refl _))))

    pub some_length : Some (shifted lengths) ≡ band from to longest shortest
    unfolding band checked
    some_length =
        let t = shifted lengths in
        let P : Option Zone → Type 0 = λ a. Some t ≡ a in
        tighten_checked lengths tighter_is
        (room_is t.start t.nstart _ P
        (λ _. room_is t.end t.nend _ P
        (λ _. room_is t.length t.nlength (Some t) P (λ _. refl) (λ n. absurd (n some)))
        (λ n. absurd (n ends)))
        (λ n. absurd (n starts)))
