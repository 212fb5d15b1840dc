use Rattle.std.proofs.Common.{sym, subst, arith, rules}
use Rattle.std.proofs.lemmas.Result.{err_from_is_err_and}
use Rattle.absence.proofs.Cutting.{Cutting, spent, listable, cutting_start, cutting_on, cutting_overflow, cutting_spent, cutting_end}
use Rattle.list.proofs.Puts.{held}
use Rattle.list.proofs.Slots.{kept_trans}
use Rattle.words.specs.Words.{zone_at}
use Rattle.zone.specs.declared.Zone.{Zone}
use Rattle.absence.proofs.put_parts.Goals as goal

pub loop-k-init : goal.loop-k-init
loop-k-init c =
    let e = held (zone_at c.args.words.now c.args.at) _ c.copy_zone.ensures (omega arith) in
    (subst (λ (u : Zone). Cutting (zone_at c.args.words.now c.args.at) (zone_at c.args.cut.now 0) c.args.g c.args.target c.args.words.now 0 u c.args.words.now c.args.g) (sym e) (cutting_start _ _ _ _ _ c.requires.2 c.requires.1), search rules)

pub part-part-requires : goal.part-part-requires
part-part-requires c = (omega (arith, c.loop-k-test.true), c.loop-k.invariant.0.cuttable, c.requires.3)

pub put_left-requires : goal.put_left-requires
put_left-requires c = (c.loop-k.invariant.0.going.stands, listable c.loop-k.invariant.0 (omega (arith, c.loop-k-test.true)) c.part-part.ensures.value c.part-part.ensures.meaning)

pub returns-in_err-grown-clause-grown : goal.returns-in_err-grown-clause-grown
returns-in_err-grown-clause-grown c =
    let p = err_from_is_err_and c.from_residual.result c.from_residual.ensures.1 in
    rw p.1 (cutting_overflow c.loop-k.invariant.0 (omega (arith, c.loop-k-test.true)) c.part-part.ensures.value c.in_err-grown.ensures.grown)

pub keep-requires : goal.keep-requires
keep-requires c = (omega (arith, c.loop-k-test.true), c.loop-k.invariant.0.cuttable, c.requires.3, c.loop-k.invariant.1)

pub has_room-requires : goal.has_room-requires
has_room-requires c = (omega (arith, c.loop-k-test.true), c.keep.ensures.meaning.cuttable)

pub returns-then-not-has_room : goal.returns-then-not-has_room
returns-then-not-has_room c =
    let turn = c.loop-k.invariant.0 in record {
      grown = cutting_spent (cutting_on turn (omega (arith, c.loop-k-test.true)) c.part-part.ensures.value c.part-part.ensures.meaning c.in_ok-grown.ensures.grown c.put_left.ensures.kept c.keep.ensures.value c.keep.ensures.meaning) c.requires.3 (spent _ c.has_room.result c.has_room.ensures.meaning c.if-not-has_room.true);
      kept = kept_trans turn.going.frame c.put_left.ensures.kept;
    }

pub loop-k-preserved : goal.loop-k-preserved
loop-k-preserved c =
    (cutting_on c.loop-k.invariant.0 (omega (arith, c.loop-k-test.true)) c.part-part.ensures.value c.part-part.ensures.meaning c.in_ok-grown.ensures.grown c.put_left.ensures.kept c.keep.ensures.value c.keep.ensures.meaning, search rules)

pub returns : goal.returns
returns c = record {
  grown = cutting_end c.loop-k.invariant.0 (search rules);
  kept = c.loop-k.invariant.0.going.frame;
}
