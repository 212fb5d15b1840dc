use Rattle.std.proofs.Common.{◌≡◌, length}
use Rattle.absence.proofs.Cutting.{Cutting}
use Rattle.words.specs.Words.{zone_at}
use Rattle.absence.proofs.put_parts.Given as goal

abbrev pub invariant-loop-k : goal.invariant-loop-k
invariant-loop-k l = Cutting (zone_at l.initial.words l.at) (zone_at l.cut 0) l.initial.grown l.target l.initial.words l.k (zone_at l.rest 0) l.words l.grown × (length l.rest ≡ 6)
