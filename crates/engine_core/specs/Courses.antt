-- What is to be done about a completion.
use Rattle.std.specs.Prelude.{◌≡◌, false, Some}
use Rattle.ccb.specs.declared.ccb.Ccb.{Ccb}
use Rattle.ccb.specs.Completion.{Outcome}
use Rattle.world.specs.declared.ccb_state.CcbState.TheVariants.{Active}
use Rattle.world.specs.World.{Setup, World}
use Rattle.world.specs.Lookups.{ccb_of}
use Rattle.world_calls.specs.declared.call_answer.CallAnswer.TheVariants as answers
use Rattle.world.specs.Event.{Reply, replies, refused}
use Rattle.world.specs.CcbSteps.{run_meets_limit, finishes, recovers}
use Rattle.engine_transport.specs.Listed.{IsPlaceOf}
use Rattle.engine_core.specs.declared.completion_action.CompletionAction.{CompletionAction}
use Rattle.engine_core.specs.declared.completion_action.CompletionAction.TheVariants.{Refuse, Finish, Recover}

-- where each course leads
abbrev pub takes : Setup → World → Outcome → CompletionAction → Reply × World
takes setup world outcome (Refuse refusal) = (refused refusal, world)
takes setup world outcome (Finish ccb) = (replies answers.Done, finishes world ccb outcome.status)
takes setup world outcome (Recover place ccb) = recovers setup world ccb outcome

-- the CCB is the one that is completed, and active
abbrev pub IsActive : World → Outcome → Ccb → Type 0
IsActive world outcome ccb = ccb_of outcome.ccb.0 world.transport.live ≡ Some (record { ccb = ccb; state = Active })

-- what each course needs is there
abbrev pub IsOpen : World → Outcome → CompletionAction → Type 0
IsOpen world outcome (Refuse refusal) = Unit {0}
IsOpen world outcome (Finish ccb) = IsActive world outcome ccb
IsOpen world outcome (Recover place ccb) = IsActive world outcome ccb × IsPlaceOf outcome.ccb.0 world.transport.live place × (run_meets_limit world ≡ false)
