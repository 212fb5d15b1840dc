use Rattle.std.proofs.Common.{◌-◌, ◌≡◌}
use Rattle.recording.proofs.Refusals.{in_time}
use Rattle.recording.specs.Tests.{all_changed}
use Rattle.recording.proofs.all_changed.Given as goal

-- every change before the j-th has been found right, unless it comes too late
abbrev pub invariant-loop-j : goal.invariant-loop-j
invariant-loop-j l = all_changed l.bytes (l.j - 1) ≡ in_time l.bytes (l.j - 1)
