-- There is room for the sheet of every outcome.
use mathlib.Core.Path.{◌≡◌, refl, ap, subst, ◌∙◌}
use mathlib.Core.List.{List}
use Prim.Native.Nat.{ℕ, ◌*◌, ◌≤◌}
use native.Mathlib.Decide.{dec_le}
use native.Mathlib.Omega.{arith}
use lib.IntN.{ℤ, pos}
use lib.ListN.{length, take, drop, replicate, length-take}
use Rattle.io.specs.Counts.{IsPrefixLen}
use Rattle.zone.proofs.Laws.{ranged_more}
use Rattle.outcome.specs.declared.Returned.{Returned}
use Rattle.outcome.specs.Outcome.{Outcome}
use Rattle.outcome.specs.Outcome.{returned, front_of}
use Rattle.outcome.proofs.Numbers.{zero_finished}
use Rattle.calls.specs.Outcome.{room, FindAs}
use Rattle.finder.proofs.Sizes.{few_zones, few_rounds, front_length, front_ranged}
use Rattle.std.specs.Result.{IsOk}
use Rattle.sheet.specs.Sheet.{sheet}
use Rattle.std.specs.Prelude.{Result, Ok, Err}
use Rattle.sheet.specs.declared.Unprinted.{Unprinted}
use Rattle.sheet.specs.Buffer.{answer, left}
use Rattle.sheet.proofs.Sheet.{refusal_sheet, finished_sheet, fits, stands}
use Rattle.sheet.proofs.Bounds.{Held, refused_length, finished_length}
use Rattle.marking.specs.Marking.{answer_words, MarkedAs}

-- no sheet is longer
abbrev pub longest : ℕ
longest = 12_288

-- the words of the zones that an outcome lists
abbrev pub listed : Outcome → List ℤ → List ℤ
listed o answer = front_of answer (returned o).zones

-- Of an outcome that is refused, or of a call that `find` would have so: all words of the listed zones are there, and the text is short.
pub roomy : {bytes text : List ℕ} (o : Outcome) {answer work answer' work' : List ℤ} → ((returned o).number ≡ 0 → FindAs bytes text answer work o answer' work')
    → ((returned o).zones * 6 ≤ length (listed o answer')) × (length (sheet (returned o) (listed o answer')) ≤ longest)
roomy {bytes} {text} o {answer} {work} {answer'} {work'} call = elim (dec_le 1 (returned o).number) [ yes h ↦ refused h | no h ↦ finished (omega arith) ]
  where
    refused : 1 ≤ (returned o).number → ((returned o).zones * 6 ≤ length (listed o answer')) × (length (sheet (returned o) (listed o answer')) ≤ longest)
    refused h = let r = refusal_sheet o h (listed o answer') in (omega (arith, r.1), rw r.0 (omega (arith, refused_length (returned o).number r.2)))

    finished : (returned o).number ≡ 0 → ((returned o).zones * 6 ≤ length (listed o answer')) × (length (sheet (returned o) (listed o answer')) ≤ longest)
    finished e =
        let c = subst (λ (p : Outcome). FindAs bytes text answer work p answer' work') (zero_finished o e) (call e) in
        let held : Held (listed o answer') (returned o).zones = λ z m. ranged_more (omega arith) (front_ranged c z m) in
        let n = few_zones c in
        let r = few_rounds c in
        (omega (arith, front_length c), rw (finished_sheet (returned o) (listed o answer') e) (omega (arith, finished_length (listed o answer') (returned o).zones (returned o).rounds held (omega arith) (omega arith))))

module _ {bytes text : List ℕ} {o : Outcome} {answer₁ work₁ : List ℤ} (call : FindAs bytes text (replicate answer_words (pos 0)) (replicate room (pos 0)) o answer₁ work₁) where
  abbrev front : List ℤ
  front = listed o answer₁

  -- What is answered is the length of the whole text: that many bytes of the buffer are the sheet, and those behind it are as they were.
  abbrev pub Prints : List ℕ → List ℕ → Result ℕ Unprinted → Type 0
  Prints out out' (Ok n) = MarkedAs bytes text (take n out') × (IsPrefixLen n out' × (drop n out' ≡ drop n out))
  Prints out out' (Err e) = ⊥

  pub is_printed : (out out' : List ℕ) (w : Result ℕ Unprinted) → Prints out out' w → IsOk w
  is_printed out out' (Ok n) p = refl
  is_printed out out' (Err e) p = absurd p

  pub prints : {told : Returned} {words : List ℤ} (out out' : List ℕ) (w : Result ℕ Unprinted) → told ≡ returned o → words ≡ front_of answer₁ told.zones → longest ≤ length out
      → w ≡ answer (returned o) words (length out) → out' ≡ left (returned o) words out → Prints out out' w
  prints {told} {words} out out' w t f long a b =
      let g : words ≡ front = f ∙ ap (λ (r : Returned). front_of answer₁ r.zones) t in
      whole w (a ∙ ap (λ (ws : List ℤ). answer (returned o) ws (length out)) g)
    where
      same : out' ≡ left (returned o) front out
      same = b ∙ ap (λ (ws : List ℤ). left (returned o) ws out) (f ∙ ap (λ (r : Returned). front_of answer₁ r.zones) t)

      all : answer (returned o) front (length out) ≡ Ok (length (sheet (returned o) front))
      all = let r = roomy o (λ _. call) in fits (returned o) front (length out) r.0 (omega (arith, r.1))

      whole : (v : Result ℕ Unprinted) → v ≡ answer (returned o) front (length out) → Prints out out' v
      whole (Ok n) e =
          let p = stands (returned o) front out e in
          let s : take n out' ≡ sheet (returned o) front = ap (take n) same ∙ p.bytes in
          let l = ap length s in
          (record { outcome = o; answer = answer₁; work = work₁; call = call; sheet = s }, ((omega (arith, p.size, length-take n out'), omega (arith, p.size)), ap (drop n) same ∙ p.rest))
      whole (Err u) e = let q = e ∙ all in cc
