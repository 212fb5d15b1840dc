-- The refusal of a call by what is wrong with its recording.
use Rattle.recording.specs.declared.Fault.{Fault}
use Rattle.recording.specs.declared.Fault.TheVariants.{Length, Head, Change}
use Rattle.outcome.specs.declared.Refusal.{Refusal}
use Rattle.outcome.specs.declared.Refusal.TheVariants.{RecordingLength, RecordingHead, RecordingChange}

abbrev pub recording_refusal : Fault → Refusal
recording_refusal Length = RecordingLength
recording_refusal Head = RecordingHead
recording_refusal Change = RecordingChange
