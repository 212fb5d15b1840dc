-- How one zone lies to another, by their limits and by their members.
use Rattle.std.specs.Prelude.{cond}
use Rattle.zone.specs.declared.Zone.{Zone}
use Rattle.zone.specs.Zone.{Tight, Includes, contains}
pub use Rattle.nesting.specs.declared.Nesting.{Nesting}
pub use Rattle.nesting.specs.declared.Nesting.TheVariants.{Inside as inside, Around as around, Apart as apart}

-- how z lies to w: inside it, else around it, else neither
unfoldable pub nesting : Zone → Zone → Nesting
nesting z w = cond (contains w z) inside (cond (contains z w) around apart)

-- z lies so to w, said of their stretches
abbrev pub Relates : Nesting → Zone → Zone → Type 0
Relates inside z w = Includes w z
Relates around z w = Includes z w × ¬ Includes w z
Relates apart z w = ¬ Includes z w × ¬ Includes w z

-- the answer to how z lies to w
pub record Nests (z w : Zone) (r : Nesting) : Type 0 where
  pub members : Tight z → Tight w → Relates r z w
