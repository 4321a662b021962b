-- What the record of a completion says.
use Rattle.std.specs.Prelude.{[]}
use Rattle.ccb.specs.Completion.{Outcome}
use Rattle.world_calls.specs.declared.completion_record.Kept.{Kept}
use Rattle.world_calls.specs.declared.completion_record.Kept.TheVariants.{WithoutSense, Whole}

abbrev pub outcome_kept : Kept → Outcome
outcome_kept (WithoutSense ccb status scsi) = record { ccb = ccb; status = status; scsi = scsi; sense = [] }
outcome_kept (Whole completion) = completion.value
