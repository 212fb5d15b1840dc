-- When two ranges of times have one in common, by their limits.
use Rattle.limit.specs.declared.Limit.{Limit}
use Rattle.limit.specs.Limit.{◌≤ᴸ◌, ◌⊕◌, nought}

-- the times of two ranges, each given by its upper limit and that on the negated time: over the lower limit of each there is room up to
-- the upper one of the other
pub record Share (upper nupper start nstart : Limit) : Type 0 where
  pub over : nought ≤ᴸ nstart ⊕ upper
  pub under : nought ≤ᴸ start ⊕ nupper
