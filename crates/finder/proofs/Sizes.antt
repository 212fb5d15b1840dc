-- How large an accepted call's list and total can be, for a caller who lends buffers.
use mathlib.Core.Path.{◌≡◌, refl, ap, ◌∙◌}
use mathlib.Core.List.Memᴰ.{append_right}
use mathlib.Core.List.{List, [], ◌∷◌, ◌++◌, Memᴰ}
use Prim.Native.Nat.{ℕ, ◌*◌, ◌≤◌}
use native.Mathlib.Decide.{dec_le}
use native.Mathlib.Omega.{arith}
use lib.IntN.{ℤ}
use lib.ListN.{length}
use Rattle.zone.specs.declared.Zone.{Zone}
use Rattle.zone.specs.Zone.{Ranged}
use Rattle.zone.proofs.Laws.{ranged, ranged_more}
use Rattle.words.specs.Words.{zone_words}
use Rattle.list.specs.Slots.{list_at}
use Rattle.recording.specs.Reading.{ticks, wrong_head}
use Rattle.runs.specs.Levels.{Shows}
use Rattle.recording.proofs.Rounding.{tick_range}
use Rattle.calls.specs.Outcome.{Err, RecordingHead, DrillLength, DrillForm, DrillLetter, DrillRange, DrillDepth, NoCause, front_of, FindAs}
use Rattle.outcome.proofs.Listing.{listing}
use Rattle.meaning.proofs.Evaluation.{evaluates_well}
use Rattle.calls.proofs.Rounds.{most_rounds, comes_few}
use Rattle.calls.proofs.Causes.{number_none}
use Rattle.calls.proofs.Outcomes.{recordings}
use Rattle.finder.proofs.Answered.{words_length}
use Rattle.finder.proofs.Calls.{front_call, call_exact}

module _ {bytes text : List ℕ} {answer work answer' work' : List ℤ} {zones rounds : ℕ} (h : FindAs bytes text answer work (listing zones rounds) answer' work') where
  none : NoCause bytes text (length answer) (length work)
  none = (number_none (λ _ _ c. c) h.outcome).0 refl

  some_few : (1 ≤ ticks bytes) × (ticks bytes ≤ 1_000_000)
  some_few = elim (dec_le 1 (ticks bytes)) [
    | yes k ↦ (k, elim (dec_le (ticks bytes) 1_000_000) [ yes l ↦ l | no l ↦ absurd (none (Err RecordingHead) (Memᴰ.tail (Memᴰ.head refl)) (wrong_head (λ d. l (tick_range d.long d.short).1))) ])
    | no k ↦ absurd (none (Err RecordingHead) (Memᴰ.tail (Memᴰ.head refl)) (wrong_head (λ d. k (tick_range d.long d.short).0)))
  ]

  -- At most 128 zones ..
  pub few_zones : zones ≤ 128
  few_zones =
      let c = h.buffers.finishes.means in
      let w = (evaluates_well (Shows bytes) (omega arith) c.drill rounds c.evaluates).short in
      omega (arith, h.buffers.finishes.count)

  -- .. and so few rounds, of all `*` together.
  pub few_rounds : rounds ≤ most_rounds
  few_rounds =
      comes_few some_few.0 some_few.1 (none (Err DrillDepth) (append_right (recordings ++ (Err DrillLength ∷ Err DrillForm ∷ Err DrillLetter ∷ Err DrillRange ∷ [])) (Memᴰ.head refl)))
      h.buffers.finishes.means

  -- The front holds six words a zone, and every limit in it is within 1,000,000 of 0.
  pub front_length : length (front_of answer' zones) ≡ zones * zone_words
  front_length = let c = front_call h in ap length c.3 ∙ words_length c.0 ∙ ap (λ (n : ℕ). n * zone_words) c.2

  pub front_ranged : (z : Zone) → Memᴰ z (list_at (front_of answer' zones) 0 zones) → Ranged 1_000_000 z
  front_ranged z m = ranged_more some_few.1 (ranged ((call_exact h).proper z m))
