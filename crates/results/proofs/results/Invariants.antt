use Rattle.std.proofs.Common.{◌≡◌, List, ℕ, length, take}
use Rattle.lines.specs.Lines.{Unbroken}
use Rattle.lines.specs.Taken.{Stored}
use Rattle.results.specs.Results.{purse, ResultsPrinted}
use mathlib.Core.List.{Memᴰ}
use Rattle.results.proofs.results.Given as goal

abbrev pub invariant-loop-k : goal.invariant-loop-k
invariant-loop-k l = record {
  all_rounds : l.left ≡ purse;
  same : l.text.out.ghost_name ≡ l.initial.text.out.ghost_name;
  printed : (drills : List (List ℕ)) → length drills ≡ l.n → Stored l.store drills → ((d : List ℕ) → Memᴰ d drills → Unbroken d)
      → ResultsPrinted l.recording (take l.k drills) l.initial.answer l.initial.work l.answer l.work l.initial.text.out.now l.text.out.now l.text.written;
}
