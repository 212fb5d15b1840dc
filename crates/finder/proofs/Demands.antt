-- The three demands on one page, each proved by the theorems it names. `FindAs` is the defined outcome of a call, with both buffers.
use mathlib.Core.Path.{◌≡◌, subst}
use mathlib.Core.List.{List}
use Prim.Native.Nat.{ℕ, ◌≤◌}
use native.Mathlib.Omega.{arith}
use lib.IntN.{ℤ}
use Rattle.outcome.proofs.Numbers.{zero_finished}
use Rattle.calls.specs.Outcome.{Outcome, returned, CallAs, FindAs}
use Rattle.outcome.proofs.Listing.{listing}
use Rattle.calls.specs.Within.{CallWithin, WithinAs}
use Rattle.finder.specs.Demands.{Demand1, Demand1Within, Demand2, Demand3, Total, NoInputCause}
use Rattle.calls.proofs.Causes.{call_unique, number_first, number_none}
use Rattle.calls.proofs.Comes.{finishes_once}
use Rattle.calls.proofs.Rounds.{most_rounds}
use Rattle.calls.proofs.Outcomes.{call_exists}
use Rattle.finder.proofs.Unstopped.{call_find, not_stopped, never_stopped}
use Rattle.finder.proofs.Calls.{call_exact, call_bounded, inputs_bounded, total_unique, find_unique, within_unique, within_exists}

-- ==== Of every call of `find`

-- It has an outcome, and one only.
pub one_outcome : (bytes text : List ℕ) (answer work : ℕ)
    → (o : Outcome) × CallAs bytes text answer work o × ((p : Outcome) → CallAs bytes text answer work p → p ≡ o)
one_outcome bytes text answer work =
    let c = call_exists bytes text most_rounds answer work in
    let d = call_find bytes text most_rounds answer work c.1 (λ e. let l = c.2 e in omega arith) in
    (c.0, d, λ p k. call_unique finishes_once k d)

-- And it leaves one thing in each buffer.
pub one_result : {bytes text : List ℕ} {answer work a w b v : List ℤ} {o p : Outcome} → FindAs bytes text answer work o a w → FindAs bytes text answer work p b v
    → (o ≡ p) × (a ≡ b) × (w ≡ v)
one_result = find_unique

-- Every recording and drill for which none of causes 1 to 8 and 10 holds has one total of rounds, with the bounds of demand 3.
pub one_total : {bytes text : List ℕ} → NoInputCause bytes text → (total : ℕ) × Total bytes text total × ((n : ℕ) → Total bytes text n → n ≡ total)
one_total none = let t = inputs_bounded none in (t.0, t.1, λ n d. total_unique d t.1)

-- ==== The demands on a call that has the defined outcome

module _ {bytes text : List ℕ} {answer work answer' work' : List ℤ} {o : Outcome} (h : FindAs bytes text answer work o answer' work') where
  -- Demand 1: it is refused by the number of the first cause that holds, and accepted exactly where none holds.
  pub demand_1 : Demand1 bytes text answer work o answer' work'
  demand_1 = record { defined = h; refuses = number_first h.outcome; accepts = number_none (λ _ _ c. c) h.outcome }

  finished : (returned o).number ≡ 0 → FindAs bytes text answer work (listing (returned o).zones (returned o).rounds) answer' work'
  finished e = subst (λ (p : Outcome). FindAs bytes text answer work p answer' work') (zero_finished o e) h

  -- Demand 2: where it is accepted, some zone read back from the front of the answer holds a stretch exactly if the stretch fits the
  -- drill; every zone is tight and inside 0..d, none is empty, none lies inside another.
  pub demand_2 : Demand2 bytes text o answer'
  demand_2 e = call_exact (finished e)

  -- Demand 3: there is one total, and it is what an accepted call reports.
  pub demand_3 : Demand3 bytes text o
  demand_3 = record { bounded = one_total; reported = λ e. call_bounded (finished e).outcome }

-- What `find` promises of a call that has the defined outcome.
pub promised : {bytes text : List ℕ} {answer work answer' work' : List ℤ} {o : Outcome} → FindAs bytes text answer work o answer' work'
    → Demand1 bytes text answer work o answer' work' × (Demand2 bytes text o answer' × Demand3 bytes text o)
promised h = (demand_1 h, (demand_2 h, demand_3 h))

-- ==== Of a call that is told the rounds left

-- Every such call has an outcome, and one only.
pub one_outcome_within : (bytes text : List ℕ) (left answer work : ℕ)
    → (o : Outcome) × CallWithin bytes text left answer work o × ((p : Outcome) → CallWithin bytes text left answer work p → p ≡ o)
one_outcome_within bytes text left answer work = let c = call_exists bytes text left answer work in (c.0, c.1, λ p d. call_unique finishes_once d c.1)

-- It leaves some number of rounds, and something in each buffer ..
pub some_result_within : (bytes text : List ℕ) (left : ℕ) (answer work : List ℤ)
    → (o : Outcome) × (left' : ℕ) × (answer' : List ℤ) × (work' : List ℤ) × WithinAs bytes text left answer work o left' answer' work'
some_result_within = within_exists

-- .. and one only.
pub one_result_within : {bytes text : List ℕ} {left l m : ℕ} {answer work a w b v : List ℤ} {o p : Outcome} → WithinAs bytes text left answer work o l a w
    → WithinAs bytes text left answer work p m b v → (o ≡ p) × (l ≡ m) × (a ≡ b) × (w ≡ v)
one_result_within = within_unique

-- What `find_within` promises of a call that has the defined outcome. Demands 2 and 3 are those of `find`: where the call is accepted it is not
-- stopped.
pub promised_within : {bytes text : List ℕ} {left left' : ℕ} {answer work answer' work' : List ℤ} {o : Outcome} → WithinAs bytes text left answer work o left' answer' work'
    → Demand1Within bytes text left answer work o left' answer' work' × (Demand2 bytes text o answer' × Demand3 bytes text o)
promised_within h = (
  record { defined = h; refuses = number_first h.outcome; accepts = number_none (λ _ _ c. c) h.outcome; alone = not_stopped h },
  (λ e. demand_2 (not_stopped h (λ s. omega arith)) e, record { bounded = one_total; reported = λ e. (demand_3 (not_stopped h (λ s. omega arith))).reported e }),
)

-- What `find` promises: told more rounds than any drill begins, it is not stopped.
pub promised_unlimited : {bytes text : List ℕ} {left left' : ℕ} {answer work answer' work' : List ℤ} {o : Outcome} → most_rounds ≤ left
    → WithinAs bytes text left answer work o left' answer' work'
    → Demand1 bytes text answer work o answer' work' × (Demand2 bytes text o answer' × Demand3 bytes text o)
promised_unlimited many h = promised (not_stopped h (never_stopped many h))
