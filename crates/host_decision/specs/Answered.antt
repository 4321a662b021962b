-- What is decided of a failure: what a run of an engine of the configuration says, which begins with lines.
use Rattle.std.specs.Prelude.{◌≡◌, ◌<◌, List, sum_by}
use Rattle.ccb.specs.declared.place.Place.TheVariants.{Device}
use Rattle.world_calls.specs.declared.carried_line.CarriedLine.{CarriedLine}
use Rattle.world.specs.Lookups.{ccb_of}
use Rattle.world.specs.World.{Setup, queue_count}
use Rattle.show_question.specs.declared.Failure.{Failure}
use Rattle.host_decision.specs.Asked.{outcome_of}
use Rattle.host_decision.specs.Decided.{advice_of, end_of, others_of, time_at}
use Rattle.host_decision.specs.Ran.{AreOfRun, IsAtEnd, IsLedTo, instructions_of}
use Rattle.host_decision.specs.declared.decided.Decided.{Decided}

-- The records are those of that failure and of the run that started, to the end of the run, from an engine with these lines; and what was
-- decided is what they and the engine after them say.
pub record IsDecided (config : Setup) (lines : List CarriedLine) (failure : Failure) (it : Decided) : Type 0 where
  pub led : IsLedTo config lines it.ran.records.items it.ran.engine
  pub records : AreOfRun (outcome_of failure) it.ran.run it.ran.freeze it.ran.records.items
  pub ended : IsAtEnd it.ran.engine it.ran.run
  pub instructions : it.ran.instructions ≡ sum_by instructions_of it.ran.records.items
  pub end_is : it.decision.end ≡ end_of (ccb_of 1 it.ran.engine.transport.live) it.ran.records.items
  pub advice_is : it.decision.advice ≡ advice_of (ccb_of 1 it.ran.engine.transport.live)
  pub freeze_is : failure.queue.0 < queue_count config → it.decision.freeze ≡ time_at it.ran.engine (Device failure.queue) it.ran.freeze
  pub others_are : it.decision.others.items ≡ others_of it.ran.engine it.ran.freeze
