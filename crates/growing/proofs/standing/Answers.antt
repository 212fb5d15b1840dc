use Rattle.std.proofs.Common.{refl}
use Rattle.growing.proofs.Late.{sound_late}
use Rattle.growing.proofs.standing.Goals as goal

pub returns : goal.returns
returns c = record {
  begins = record { count = refl; changed = refl; pairs = refl };
  late = sound_late;
}
