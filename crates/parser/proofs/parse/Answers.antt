-- `parse` meets its contract: a right length, the part that the readers come to, and the checks on it.
use Rattle.std.proofs.Common.{◌≡◌, ℕ, ◌==◌, false, sym, inl, inr, eqb-true}
use Rattle.std.proofs.lemmas.Result.{err_from_is_err_and}
use Rattle.parser.specs.declared.Fault.TheVariants.{NoForm}
use Rattle.parser.proofs.Parses.{refused_length, right_length, refused_stop, judged_as}
use Rattle.parser.proofs.parse.Goals as goal
use Rattle.parser.proofs.parse.Goals.{then-is_empty-via-then-is_empty, then-is_empty-via-else-is_empty+then-text-gt255}

some : (n : ℕ) → false ≡ (n == 0) → n ≡ 0 → ⊥
some n e z = cc (rw z at e)

pub returns-then-is_empty : goal.returns-then-is_empty
returns-then-is_empty c =
    refused_length
    (elim c.then-is_empty.branch [
      | then-is_empty-via-then-is_empty w ↦ inl (eqb-true _ _ (sym w.if-is_empty.ensures))
      | then-is_empty-via-else-is_empty+then-text-gt255 w ↦ inr w.if-text-gt255.true
    ])

pub returns-in_err-tree : goal.returns-in_err-tree
returns-in_err-tree c =
    let none = c.in_err-tree.ensures.ok_part in
    let form : c.in_err-tree.field-0.0 ≡ NoForm = cc (rw none at c.in_err-tree.ensures.value) in
    let error = err_from_is_err_and c.from_residual.result c.from_residual.ensures.1 in
    rw (error.1, error.2, form) (refused_stop (right_length c.args.text.now (some _ c.if-is_empty.ensures) c.if-text-gt255.false) (rw none at c.chain.ensures))

pub returns : goal.returns
returns c =
    rw c.judged.ensures
    (judged_as (rw c.in_ok-tree.ensures.ok_part at c.chain.ensures) c.args.channels (right_length c.args.text.now (some _ c.if-is_empty.ensures) c.if-text-gt255.false))
