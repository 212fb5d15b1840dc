use Rattle.std.proofs.Common.{◌≡◌, ℕ, List, ◌++◌, take, drop}
use Rattle.lines.specs.Taken.{store_bytes, Sums}
use Rattle.lines.proofs.take_in.Given as goal

abbrev pub invariant-loop-b : goal.invariant-loop-b
invariant-loop-b l = record {
  sums : (text : List ℕ) → Sums text l.initial.store l.initial.taken → Sums (text ++ take l.b-index l.chunk) l.store l.taken;
  beyond : drop store_bytes l.store ≡ drop store_bytes l.initial.store;
}
