-- Zones over a common denominator: what `In` says there is linear.
use mathlib.Core.Logic.{◌↔◌}
use Prim.Native.Nat.{ℕ, ◌*◌, ◌<◌}
use Rattle.limit.specs.Time.{Time, origin}
use Rattle.zone.specs.Zone.{Zone, In}
use Rattle.limit.proofs.Common.{KeepsOver, Is, Is_origin, bridge, both_den, is_left, is_right}

pub record InOver (D : ℕ) (z : Zone) (X Y : ℕ) : Type 0 where
  pub start : KeepsOver D z.start X 0
  pub nstart : KeepsOver D z.nstart 0 X
  pub end : KeepsOver D z.end Y 0
  pub nend : KeepsOver D z.nend 0 Y
  pub length : KeepsOver D z.length Y X
  pub nlength : KeepsOver D z.nlength X Y

pub in_over : {z : Zone} {x y : Time} {X Y D : ℕ} → 0 < D → Is X D x → Is Y D y → In z x y ↔ InOver D z X Y
in_over {z} {x} {y} {X} {Y} {D} hD ix iy =
    let o : Is 0 D origin = Is_origin D in (
      λ h. record {
        start = (bridge z.start x origin hD ix o).0 h.start;
        nstart = (bridge z.nstart origin x hD o ix).0 h.nstart;
        end = (bridge z.end y origin hD iy o).0 h.end;
        nend = (bridge z.nend origin y hD o iy).0 h.nend;
        length = (bridge z.length y x hD iy ix).0 h.length;
        nlength = (bridge z.nlength x y hD ix iy).0 h.nlength;
      },
      λ h. record {
        start = (bridge z.start x origin hD ix o).1 h.start;
        nstart = (bridge z.nstart origin x hD o ix).1 h.nstart;
        end = (bridge z.end y origin hD iy o).1 h.end;
        nend = (bridge z.nend origin y hD o iy).1 h.nend;
        length = (bridge z.length y x hD iy ix).1 h.length;
        nlength = (bridge z.nlength x y hD ix iy).1 h.nlength;
      },
    )

-- for two times of any denominators, the product of theirs
module _ (x y : Time) where
  pub in_ground : {z : Zone} → In z x y ↔ InOver (x.den * y.den) z (x.num * y.den) (y.num * x.den)
  in_ground = in_over (both_den x y) (is_left x y) (is_right x y)
