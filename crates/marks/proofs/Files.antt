-- From what the buffers hold of two files to the files: longer ones are refused for their length, and so are their first bytes.
use mathlib.Core.Path.{◌≡◌, ap, subst}
use mathlib.Core.Logic.{inl, inr, ⊎_elim}
use mathlib.Core.List.{List}
use Prim.Native.Nat.{ℕ, suc, ◌<◌}
use native.Mathlib.Omega.{arith}
use lib.IntN.{ℤ}
use lib.ListN.{length, take}
use Rattle.outcome.specs.Outcome.{Outcome}
use Rattle.calls.specs.Outcome.{largest, FindAs}
use Rattle.finder.proofs.Longer.{Alike, longer}
use Rattle.files.specs.Files.{trimmed, HoldsFile}
use Rattle.files.proofs.Trimmed.{trimmed_length}
use Rattle.files.proofs.Held.{held}
use Rattle.marking.specs.Marking.{MarkedAs}
use Rattle.marks.specs.Marks.{Marks}

held_trimmed : {most : ℕ} {xs ys : List ℕ} → Alike (suc most) xs ys → Alike most (trimmed xs) (trimmed ys)
held_trimmed {xs = xs} {ys = ys} a =
    ⊎_elim (λ (e : xs ≡ ys). inl (ap trimmed e)) (λ l. inr (omega (arith, l.0, trimmed_length xs), omega (arith, l.1, trimmed_length ys))) a

-- A call on the first bytes of the buffers is a call on the files.
on_files : {recording drill drive text said : List ℕ} {n m : ℕ} {answer work answer' work' : List ℤ} {o : Outcome} → largest < length recording → 256 < length drill
    → said ≡ trimmed (take m drill) → FindAs (take n recording) said answer work o answer' work' → HoldsFile recording n drive → HoldsFile drill m text
    → FindAs drive (trimmed text) answer work o answer' work'
on_files {recording} {n = n} {answer = answer} {work} {answer'} {work'} {o} long wide e call h d =
    longer (held long h) (held_trimmed (held wide d)) (subst (λ (t : List ℕ). FindAs (take n recording) t answer work o answer' work') e call)

-- What is printed for them is what is printed for the files.
pub of_files : {recording drill said printed : List ℕ} {n m : ℕ} → largest < length recording → 256 < length drill → said ≡ trimmed (take m drill)
    → MarkedAs (take n recording) said printed → Marks recording n drill m printed
of_files long wide e marked drive text h d =
    record {
      outcome = marked.outcome;
      answer = marked.answer;
      work = marked.work;
      call = on_files long wide e marked.call h d;
      sheet = marked.sheet;
    }
