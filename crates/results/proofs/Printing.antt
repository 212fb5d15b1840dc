-- The results of drills, one behind the other.
use mathlib.Core.Path.{◌≡◌, refl, sym, ap, subst, ◌∙◌}
use mathlib.Core.Logic.{inl, inr}
use mathlib.Core.List.{List, [], ◌∷◌, ◌++◌, append_assoc, append-nil}
use Prim.Native.Nat.{ℕ, suc, ◌+◌, ◌*◌, ◌≤◌, ◌<◌}
use native.Mathlib.Decide.{dec_le}
use native.Mathlib.Omega.{arith}
use native.Mathlib.Numerals.{add-one}
use lib.IntN.{ℤ}
use lib.ListN.{length, take, get_or, length-append, length-take}
use lib.Seq.{take-suc}
use Rattle.std.specs.Prelude.{Some}
use Rattle.text.specs.declared.Text.{Text}
use Rattle.text.specs.Buffer.{Appends, Begins, Puts}
use Rattle.text.specs.Decimal.{decimal}
use Rattle.text.proofs.Buffer.{◌then◌, nothing, both}
use Rattle.text.proofs.Digits.{places}
use Rattle.outcome.specs.Outcome.{Outcome}
use Rattle.outcome.specs.Outcome.{returned, front_of}
use Rattle.calls.specs.Within.{WithinAs}
use Rattle.finder.proofs.Unstopped.{not_stopped}
use Rattle.finder.proofs.Longer.{Alike, longer_drill}
use Rattle.sheet.specs.Sheet.{sheet}
use Rattle.marking.proofs.Printing.{roomy}
use Rattle.lines.specs.Lines.{newline}
use Rattle.lines.specs.Taken.{place_bytes}
use Rattle.lines.proofs.Places.{line_whole, line_long}
use Rattle.results.specs.Results.{purse, ResultAs, Results, Results.none, Results.next, number_line, with_numbers, ResultsPrinted}
use Rattle.results.specs.Steps.{ResultPrinted}
use Rattle.results.proofs.Unique.{results_length}

-- ---- one result

module _ {bytes text : List ℕ} {told left : ℕ} {answer work answer' work' : List ℤ} {o : Outcome} (call : WithinAs bytes text told answer work o left answer' work') where
  -- all words of the listed zones are there, and the text is short
  pub result_roomy : ((returned o).zones * 6 ≤ length (front_of answer' (returned o).zones)) × (length (sheet (returned o) (front_of answer' (returned o).zones)) ≤ 12_288)
  result_roomy = roomy o (λ e. not_stopped call (λ s. omega arith))

  pub result_printed : {number : ℕ} {t u v w : Text} → number < 10 → Puts (decimal number) t u → Puts (newline ∷ []) u v
      → Puts (sheet (returned o) (front_of answer' (returned o).zones)) v w
      → ResultPrinted bytes text number told answer work answer' work' t w
  result_printed {number} few a b c =
      record {
        result = sheet (returned o) (front_of answer' (returned o).zones);
        means = record { outcome = o; left = left; call = call; prints = refl };
        puts = (a then b) then c;
        short = omega (arith, length-append (number_line number) (sheet (returned o) (front_of answer' (returned o).zones)), length-append (decimal number) (newline ∷ []), places 0 number few, result_roomy.1);
      }

-- a drill's result is that of its first 256 bytes: a longer one is refused for its length, and so are they
drill_result : {bytes said drill result : List ℕ} {told : ℕ} {answer work answer' work' : List ℤ} → said ≡ take place_bytes drill
    → ResultAs bytes said told answer work result answer' work' → ResultAs bytes drill told answer work result answer' work'
drill_result {said = said} {drill = drill} e r = record { outcome = r.outcome; left = r.left; call = longer_drill alike r.call; prints = r.prints }
  where
    alike : Alike 255 said drill
    alike = elim (dec_le (length drill) place_bytes) [
      | yes h ↦ inl (e ∙ line_whole h)
      | no h ↦ inr (subst (λ (s : List ℕ). 255 < length s) (sym e) (line_long drill (omega arith)), omega arith)
    ]

-- ---- the results, one more each time

-- one more drill behind those that were run
results_snoc : {bytes : List ℕ} {answer work a w answer' work' : List ℤ} {ds rs : List (List ℕ)} {d r : List ℕ} → Results bytes answer work ds rs a w
    → ResultAs bytes d purse a w r answer' work' → Results bytes answer work (ds ++ (d ∷ [])) (rs ++ (r ∷ [])) answer' work'
results_snoc none h = next h none
results_snoc (next g t) h = next g (results_snoc t h)

-- and one more result behind their text
with_numbers_snoc : (k : ℕ) (rs : List (List ℕ)) (r : List ℕ) → with_numbers k rs ++ (number_line (k + length rs) ++ r) ≡ with_numbers k (rs ++ (r ∷ []))
unfolding with_numbers
with_numbers_snoc k [] r = rw (append-nil r) (ap (λ (n : ℕ). number_line n ++ r) (omega arith))
with_numbers_snoc k (s ∷ rs) r =
    let e = with_numbers_snoc (suc k) rs r in
    let n : k + length (s ∷ rs) ≡ suc k + length rs = omega arith in
    append_assoc (number_line k) (s ++ with_numbers (suc k) rs) _
    ∙ ap (λ (t : List ℕ). number_line k ++ t) (append_assoc s (with_numbers (suc k) rs) _ ∙ ap (λ (t : List ℕ). s ++ t) (rw n e))

-- no drill yet
pub printed_none : {bytes : List ℕ} {answer work : List ℤ} {out : List ℕ} {t : Text} (drills : List (List ℕ)) → Begins out t
    → ResultsPrinted bytes (take 0 drills) answer work answer work t.out.now t.out.now t.written
unfolding with_numbers
printed_none drills b = record { each = []; results = none; appends = rw b.answer nothing; short = omega arith }

-- drill k
pub printed_more : {bytes said : List ℕ} {answer work a w answer' work' : List ℤ} {out : List ℕ} {t u : Text} (drills : List (List ℕ)) (k : ℕ)
    → k < length drills → said ≡ take place_bytes (get_or drills k [])
    → ResultsPrinted bytes (take k drills) answer work a w out t.out.now t.written → ResultPrinted bytes said (k + 1) purse a w answer' work' t u
    → ResultsPrinted bytes (take (k + 1) drills) answer work answer' work' out u.out.now u.written
printed_more {bytes} {answer = answer} {work} {answer' = answer'} {work'} {out} {t} {u} drills k some e before one =
    subst (λ (ds : List (List ℕ)). ResultsPrinted bytes ds answer work answer' work' out u.out.now u.written) (sym (take-suc drills k [] some) ∙ ap (λ (n : ℕ). take n drills) (sym (add-one k)))
    (record {
      each = before.each ++ (one.result ∷ []);
      results = results_snoc before.results (drill_result e one.means);
      appends = subst (λ (s : List ℕ). Appends s out (Some 0) u.out.now u.written) text (both before.appends one.puts.step);
      short = rw (sym text) (omega (arith, before.short, one.short, length-append (with_numbers 1 before.each) (number_line (k + 1) ++ one.result), length-append (take k drills) (get_or drills k [] ∷ [])));
    })
  where
    text : with_numbers 1 before.each ++ (number_line (k + 1) ++ one.result) ≡ with_numbers 1 (before.each ++ (one.result ∷ []))
    text =
        let n : k + 1 ≡ 1 + length before.each = omega (arith, results_length before.results, length-take k drills) in
        rw n (with_numbers_snoc 1 before.each one.result)
