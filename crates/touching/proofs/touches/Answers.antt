use Rattle.std.proofs.Common.{◌≡◌, ◌+◌, arith}
use Rattle.touching.proofs.Sharing.{touches_share}
use Rattle.words.specs.Words.{zone_at}
use Rattle.zone.proofs.Laws.{ranged}
use Rattle.touching.proofs.touches.Goals as goal

pub share-requires : goal.share-requires
unfolding zone_at
share-requires c =
    let e : c.args.left + 2 + 1 ≡ c.args.left + 3 = omega arith in
    let z = ranged c.requires.2 in
    (omega (arith, c.requires.0), omega (arith, c.requires.1), omega (arith, z.end), rw e (omega (arith, z.nend)))

pub returns : goal.returns
unfolding zone_at
returns c =
    let ws = c.args.words.now in
    let e : c.args.left + 2 + 1 ≡ c.args.left + 3 = omega arith in
    let f : c.args.right + 0 ≡ c.args.right = omega arith in
    let shared = rw (e, f) at c.share.ensures in
    let touching = touches_share (zone_at ws c.args.left) (zone_at ws c.args.right) c.requires.2.tight c.requires.3.tight in
    (λ t. touching.1 (shared.0 t), λ t. shared.1 (touching.0 t))
