use Rattle.std.proofs.Common.{arith, ℕ, ⊎_elim, sym, ap}
use Rattle.list.proofs.Copies.{copy_kept, copy_order}
use Rattle.list.proofs.Slots.{kept_refl, list_at_copied}
use Rattle.list.specs.Slots.{list_at}
use Rattle.list.proofs.bring.Goals as goal

pub returns-then-at-target : goal.returns-then-at-target
returns-then-at-target c = record {
  list = ap (λ (a : ℕ). list_at c.args.words.now a c.args.n) (sym c.if-at-target.true);
  kept = kept_refl _ _ _;
}

pub copy_zones-requires : goal.copy_zones-requires
copy_zones-requires c = (omega arith, omega arith, ⊎_elim (λ e. absurd (c.if-at-target.false e)) (λ d. copy_order d c.requires.0) c.requires.3)

pub returns : goal.returns
returns c = record {
  list = list_at_copied c.args.n c.copy_zones.ensures;
  kept = copy_kept c.requires.0 c.copy_zones.ensures;
}
