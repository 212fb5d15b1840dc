-- Windows into a recording: their ticks are few, and its channels have room in a byte.
use Prim.Native.Nat.{◌≤◌}
use native.Mathlib.Omega.{arith}
use Rattle.recording.proofs.Refusals.{read_ticks, read_end, read_numbers, read_headed}
use Rattle.primaries.specs.declared.Window.{Window}

module _ (window : Window) where
  -- a recording has at most 1,000,000 ticks
  pub window_forward : window.from ≤ window.to
  window_forward = omega (arith, window.some)

  pub window_small : window.to ≤ 1_000_000
  window_small = let read = window.recording.recorded in omega (arith, window.within, read_end read, (read_ticks read).1)

  -- and 16 channels
  pub few_channels : window.recording.size.channels ≤ 16
  few_channels = let read = window.recording.recorded in rw (read_numbers read) (read_headed read).few
