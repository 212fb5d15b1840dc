-- `also` meets its contract, case by case.
use Rattle.list.proofs.Scan.{still_held, still_yields, first_inside}
use Rattle.list.proofs.also.Goals as goal

pub returns-in-Held : goal.returns-in-Held
returns-in-Held c = λ z ws base l e f. still_held z ws base _ (rw c.in-Held.is at l)

pub returns-in-Apart : goal.returns-in-Apart
returns-in-Apart c = λ z ws base l e f. first_inside z ws base _ e f (rw c.in-Apart.is at l)

pub returns-in-One : goal.returns-in-One
returns-in-One c = λ z ws base l e f. still_yields z ws base _ e (rw c.in-One.is at l).yields

pub returns-in-Several : goal.returns-in-Several
returns-in-Several c = λ z ws base l e f. still_yields z ws base _ e (rw c.in-Several.is at l)
