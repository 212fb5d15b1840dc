-- Private contracts alone cite this file: the refusal of a call by what is wrong with its drill.
use Rattle.parser.specs.declared.Fault.{Fault}
use Rattle.parser.specs.declared.Fault.TheVariants.{WrongLength, NoForm, WrongLetter, WrongRange, TooDeep}
use Rattle.outcome.specs.declared.Refusal.{Refusal}
use Rattle.outcome.specs.declared.Refusal.TheVariants.{DrillLength, DrillForm, DrillLetter, DrillRange, DrillDepth}

abbrev pub drill_refusal : Fault → Refusal
drill_refusal WrongLength = DrillLength
drill_refusal NoForm = DrillForm
drill_refusal WrongLetter = DrillLetter
drill_refusal WrongRange = DrillRange
drill_refusal TooDeep = DrillDepth
