-- `clear` meets its contract.
use Rattle.std.proofs.Common.{◌≡◌, ◌++◌, sym, ap, ◌∙◌, arith, ℕ, drop, pos, replicate, length-take-le}
use Rattle.std.proofs.lemmas.List.{length-replicate}
use Rattle.delivery.specs.Buffers.{room, fronted, zeroed}
use Rattle.delivery.proofs.clear.Goals as goal

pub returns : goal.returns
unfolding zeroed fronted
returns c =
    let all : c.fill.new.self ≡ replicate room (pos 0) = c.fill.ensures.after (λ y e. e) ∙ ap (λ n. replicate n (pos 0)) (length-take-le room c.args.work.now (omega arith)) in
    rw all (ap (λ (k : ℕ). replicate room (pos 0) ++ drop k c.args.work.now) (sym (length-replicate room (pos 0))))
