-- The runs that `next_run` hands out one after the other are exactly the maximal runs of the channel at the level, in rising time.
use mathlib.Core.Path.{sym, subst}
use mathlib.Core.List.{List, [], ◌∷◌, ◌++◌, append_assoc, append-nil}
use mathlib.Core.Logic.{◌↔◌}
use Prim.Native.Nat.{ℕ, ◌≤◌, ◌<◌}
use native.Mathlib.Omega.{arith}
use Rattle.runs.specs.Levels.{Shows}
use Rattle.runs.specs.Runs.{Runs}
use Rattle.recording.specs.Changes.{begins}
use Rattle.runs.specs.Scan.{NextRun, position}
use Rattle.runs.specs.declared.Level.{Level}
use Rattle.runs.specs.declared.Run.{Run}
use Rattle.runs.specs.declared.Cursor.{Cursor}
use Rattle.std.specs.Prelude.{Some, None}
use Rattle.runs.proofs.Levels.{shown, shown_is}
use Rattle.runs.proofs.Runs.{Held, Scanned, scanned_none, scanned_more, scanned_all, runs_of_lem, runs_of, covered}

module _ (bytes : List ℕ) (channel : ℕ) (level : Level) (from to : ℕ) where
  -- what a loop over the runs keeps: xs are those handed out up to the cursor
  abbrev pub Taken : Cursor → List Run → Type 0
  Taken cursor xs = Scanned (Shows bytes channel level) from to (position bytes from to cursor) xs

  -- at the start none was handed out
  pub taken_none : Taken (record { change = 0 }) []
  unfolding begins
  taken_none = subst (λ (k : ℕ). Scanned (Shows bytes channel level) from to k []) (omega arith) scanned_none

  -- a run that is found is the next of them
  pub taken_more : (cursor onward : Cursor) {xs : List Run} {x : Run} → Taken cursor xs → NextRun bytes channel level from to cursor (Some (x, onward))
      → Taken onward (xs ++ (x ∷ []))
  taken_more cursor onward {xs} {x} t n =
      subst (λ (k : ℕ). Scanned (Shows bytes channel level) from to k (xs ++ (x ∷ []))) (sym n.1) (scanned_more t n.0)

  -- when there is none, all have been handed out
  pub taken_all : (cursor : Cursor) {xs : List Run} → Taken cursor xs → NextRun bytes channel level from to cursor None
      → Runs (Shows bytes channel level) from to xs
  taken_all cursor t n = (scanned_all t n).runs

  -- the runs handed out from a cursor on, until there is none
  pub data Handed : Cursor → List Run → Type 0 where
    no_more : {cursor : Cursor} → NextRun bytes channel level from to cursor None → Handed cursor []
    one_more : {cursor onward : Cursor} {x : Run} {xs : List Run} → NextRun bytes channel level from to cursor (Some (x, onward)) → Handed onward xs
        → Handed cursor (x ∷ xs)

  handed_after : (cursor : Cursor) {xs ys : List Run} → Taken cursor xs → Handed cursor ys → Runs (Shows bytes channel level) from to (xs ++ ys)
  handed_after cursor t (no_more n) = rw append-nil (taken_all cursor t n)
  handed_after cursor t (one_more {onward = onward} n h) = rw append_assoc at (handed_after onward (taken_more cursor onward t n) h)

  -- from change 0 on they are the maximal runs within from..to
  pub handed_runs : {xs : List Run} → Handed (record { change = 0 }) xs → Runs (Shows bytes channel level) from to xs
  handed_runs h = handed_after (record { change = 0 }) taken_none h

  -- there are such runs, and they can be computed
  pub shows_runs : Runs (Shows bytes channel level) from to (runs_of (shown bytes channel level) from to)
  shows_runs = (runs_of_lem (shown bytes channel level) (shown_is bytes channel level) from to).runs

  -- a tick shows the level exactly if some run holds it
  pub shows_held : {xs : List Run} → Runs (Shows bytes channel level) from to xs
      → (k : ℕ) → from ≤ k → k < to → Shows bytes channel level k ↔ Held xs k
  shows_held r = covered (shown bytes channel level) (shown_is bytes channel level) r
