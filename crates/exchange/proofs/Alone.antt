-- A drill's result hangs on the recording, its own text and the lengths of both buffers, and not on what they hold.
use mathlib.Core.Path.{◌≡◌, sym, ap, subst, ◌∙◌}
use mathlib.Core.List.{List, []}
use Prim.Native.Nat.{ℕ, zero, suc, ◌≤◌, ◌<◌}
use native.Mathlib.Decide.{dec_le}
use native.Mathlib.Nat.{le_of_suc-le-suc}
use native.Mathlib.Omega.{arith}
use lib.IntN.{ℤ}
use lib.ListN.{length, get_or}
use Rattle.outcome.proofs.Numbers.{zero_finished}
use Rattle.calls.specs.Outcome.{Outcome, returned, front_of, FindAs}
use Rattle.calls.specs.Within.{CallWithin, WithinAs}
use Rattle.calls.proofs.Causes.{call_unique}
use Rattle.calls.proofs.Comes.{comes_unique, finishes_once}
use Rattle.finder.proofs.Calls.{front_call}
use Rattle.finder.proofs.Unstopped.{not_stopped}
use Rattle.sheet.specs.Sheet.{sheet}
use Rattle.sheet.proofs.Sheet.{refusal_sheet}
use Rattle.results.specs.Results.{purse, ResultAs, Results, Results.none, Results.next}
use Rattle.exchange.proofs.Lengths.{lengths_kept}

-- the sheets of two calls of one drill, told the same rounds, on buffers of the same lengths
sheet_same : {bytes text : List ℕ} {told l m : ℕ} {answer work answer₁ work₁ a w b v : List ℤ} {o p : Outcome} → length answer ≡ length answer₁ → length work ≡ length work₁
    → WithinAs bytes text told answer work o l a w → WithinAs bytes text told answer₁ work₁ p m b v
    → sheet (returned o) (front_of a (returned o).zones) ≡ sheet (returned p) (front_of b (returned p).zones)
sheet_same {bytes} {text} {told} {answer = answer} {work} {answer₁} {work₁} {a} {w} {b} {v} {o} {p} e f h k =
    elim (dec_le 1 (returned o).number) [ yes n ↦ refused n | no n ↦ finished (omega arith) ]
  where
    same : o ≡ p
    same =
        call_unique finishes_once
        (subst (λ (n : ℕ). CallWithin bytes text told n (length work₁) o) e (subst (λ (n : ℕ). CallWithin bytes text told (length answer) n o) f h.outcome))
        k.outcome

    refused : 1 ≤ (returned o).number → sheet (returned o) (front_of a (returned o).zones) ≡ sheet (returned p) (front_of b (returned p).zones)
    refused n = let x = (refusal_sheet o n (front_of a (returned o).zones)).0 in let y = (refusal_sheet o n (front_of b (returned p).zones)).0 in let s = same in cc

    finished : (returned o).number ≡ 0 → sheet (returned o) (front_of a (returned o).zones) ≡ sheet (returned p) (front_of b (returned p).zones)
    finished n =
        let q = zero_finished o n in
        let g = front_call (subst (λ (x : Outcome). FindAs bytes text answer work x a w) q (not_stopped h (λ t. omega arith))) in
        let i = front_call (subst (λ (x : Outcome). FindAs bytes text answer₁ work₁ x b v) (sym same ∙ q) (not_stopped k (λ t. let s = ap (λ (x : Outcome). (returned x).number) same in omega arith))) in
        let c = comes_unique g.1 i.1 in
        let x = g.3 in
        let y = i.3 in
        let s = same in
        cc

-- One drill has one result, whatever the buffers hold.
pub result_same : {bytes text r s : List ℕ} {told : ℕ} {answer work answer₁ work₁ a w b v : List ℤ} → length answer ≡ length answer₁ → length work ≡ length work₁
    → ResultAs bytes text told answer work r a w → ResultAs bytes text told answer₁ work₁ s b v → r ≡ s
result_same e f h k = h.prints ∙ sheet_same e f h.call k.call ∙ sym k.prints

-- a result of a drill on some buffers of so many words
pub record ResultOn (bytes : List ℕ) (answer-size work-size : ℕ) (drill result : List ℕ) : Type 0 where
  pub answer : List ℤ
  pub work : List ℤ
  pub answer' : List ℤ
  pub work' : List ℤ
  pub answer_long : length answer ≡ answer-size
  pub work_long : length work ≡ work-size
  pub means : ResultAs bytes drill purse answer work result answer' work'

-- Each result of several drills is one, on buffers of the first one's lengths.
pub results_on : {bytes : List ℕ} {answer work answer' work' : List ℤ} {ds rs : List (List ℕ)} {n m : ℕ} → length answer ≡ n → length work ≡ m
    → Results bytes answer work ds rs answer' work' → (k : ℕ) → k < length ds → ResultOn bytes n m (get_or ds k []) (get_or rs k [])
results_on e f none k h = absurd (omega arith)
results_on e f (next r t) zero h = record { answer = _; work = _; answer' = _; work' = _; answer_long = e; work_long = f; means = r }
results_on e f (next r t) (suc k) h = let l = lengths_kept r.call in results_on (l.0 ∙ e) (l.1 ∙ f) t k (le_of_suc-le-suc h)
