use Rattle.std.proofs.Common.{◌*◌, ◌+◌, arith}
use Rattle.products.proofs.Blocks.{reaches_by, side_ready, side_shares}
use Rattle.words.specs.Words.{word}
use Rattle.products.proofs.reaches.Goals as goal

pub share-requires : goal.share-requires
share-requires g c =
    let ready = side_ready g.C.Combine.op c.args.words.now c.args.left c.requires.0 c.requires.1 in
    rw c.side.ensures (ready.0, omega (arith, c.requires.2), ready.1, ready.2)

pub returns : goal.returns
returns g c =
    let hs = c.args.hulls.now in
    let b = c.args.b in
    let shares = rw c.side.ensures at c.share.ensures in
    reaches_by g.C.Combine.op c.requires.1 c.args.m (omega (arith, c.if-m-le-BLOCK.false)) (word hs (b * 2)) (word hs (b * 2 + 1)) c.share.result (side_shares g.C.Combine.op c.args.words.now c.args.left (word hs (b * 2)) (word hs (b * 2 + 1)) c.share.result shares)
