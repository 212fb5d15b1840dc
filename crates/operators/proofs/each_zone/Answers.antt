use Rattle.std.specs.Prelude.{Some}
use Rattle.std.proofs.Common.{[], ◌∷◌, map, ◌≡◌, refl, sym, ap, ◌∙◌, ◌+◌, ◌-◌, ◌*◌, arith}
use Rattle.std.proofs.lemmas.Result.{err_from_is_err_and}
use Rattle.growing.proofs.Going.{Going, going_start, going_same, going_on, going_overflow, going_end}
use Rattle.list.proofs.Scan.{nothing_left}
use Rattle.list.specs.Insert.{insert_each}
use Rattle.list.specs.Slots.{list_at}
use Rattle.operators.proofs.Listings.{zones_next}
use Rattle.pairs.proofs.Zones.{supply_zones, read_there}
use Rattle.words.specs.Words.{zone_at}
use Rattle.operators.proofs.each_zone.Goals as goal
use Rattle.operators.proofs.each_zone.Goals.{After-grow_from}

-- the zone at hand is the next to be put
ahead : (c : After-grow_from) → Going (Some (zone_at c.loop-i.words (c.args.source + c.loop-i.i * 6)) ∷ map Some (list_at c.args.words.now (c.args.source + (c.loop-i.i + 1) * 6) (c.args.n - (c.loop-i.i + 1)))) (insert_each (map Some (list_at c.args.words.now c.args.source c.args.n)) (list_at c.args.words.now c.args.target c.args.g.count)) c.args.g (list_at c.args.words.now c.args.target c.args.g.count) c.args.target c.args.words.now c.loop-i.words c.loop-i.grown
ahead c =
    going_same
    (zones_next _ _ _ c.loop-i.i c.loop-i-test.true ∙ ap (λ z. Some z ∷ map Some (list_at c.args.words.now (c.args.source + (c.loop-i.i + 1) * 6) (c.args.n - (c.loop-i.i + 1)))) (sym (read_there (supply_zones c.requires.0) c.loop-i.i c.loop-i-test.true c.loop-i.invariant.1.frame)))
    c.loop-i.invariant.1

pub loop-i-init : goal.loop-i-init
loop-i-init c =
    let e : c.args.source + 0 * 6 ≡ c.args.source = omega arith in
    let f : c.args.n - 0 ≡ c.args.n = omega arith in
    (refl, going_same (rw (e, f)) (going_start (map Some (list_at c.args.words.now c.args.source c.args.n)) _ _ _ c.requires.1))

pub grow_from-requires : goal.grow_from-requires
grow_from-requires c =
    let turn = c.loop-i.invariant.1 in
    (omega (arith, c.requires.0.list.room, c.requires.0.list.few, turn.frame.same_length), turn.stands)

pub returns-in_err-grown-clause-grown : goal.returns-in_err-grown-clause-grown
returns-in_err-grown-clause-grown c =
    let p = err_from_is_err_and c.from_residual.result c.from_residual.ensures.1 in
    rw p.1 (going_overflow (_ ∷ []) _ (ahead (goal.at.returns-in_err-grown-clause-grown c).After-grow_from) c.in_err-grown.ensures.grown)

pub loop-i-preserved : goal.loop-i-preserved
loop-i-preserved c =
    let grown = c.in_ok-grown.ensures.grown in
    (omega (arith, grown.pairs, grown.counted, c.loop-i.invariant.0), going_on (_ ∷ []) _ (ahead (goal.at.loop-i-preserved c).After-grow_from) grown c.in_ok-grown.ensures.kept)

pub returns : goal.returns
returns c = record {
  grown = going_end (ap (map Some) (nothing_left _ _ _ _ c.loop-i-test.false)) c.loop-i.invariant.1 0 refl (omega (arith, c.loop-i.invariant.0));
  kept = c.loop-i.invariant.1.frame;
}
