-- The law of classes: what may happen in a transport of device queues under controllers may happen where CCBs have a class and an advice,
-- with the class 0 and the advice 0.
use Rattle.std.specs.Prelude.{◌≡◌, Bool, true, false, not, List, map, Some}
use Rattle.std.specs.List.{list_all}
use Rattle.helpers.specs.declared.limits.HelperSet.TheVariants.{Classes, Controllers}
use Rattle.world_calls.specs.declared.call.Call.{Call}
use Rattle.world_calls.specs.declared.call.Call.TheVariants.{Dispatch, Submit, Withdraw}
use Rattle.world_calls.specs.declared.call_answer.CallAnswer.{CallAnswer}
use Rattle.world_calls.specs.declared.call_answer.CallAnswer.TheVariants as answers
use Rattle.world.specs.World.{Setup, World}
use Rattle.world.specs.Lawful.{IsLawful}
use Rattle.world.specs.Event.{Event, called, executes, Reply, replies}
use Rattle.world.specs.WorldRun.{WorldRun}
use Rattle.world.specs.Laws.OneController.{unbudgeted}

-- the same queues under the same controllers, with their openings and instructions, the same words in the tables and the same world
-- that is taken over, if any; and CCBs have a class and an advice
pub record IsClassed (setup other : Setup) : Type 0 where
  pub controllers_too : setup.limits.helpers ≡ Controllers
  pub classes_too : other.limits.helpers ≡ Classes
  pub controllers : other.controllers ≡ setup.controllers
  pub named : other.limits.queues ≡ setup.limits.queues
  pub lengths : other.limits.table_lengths ≡ setup.limits.table_lengths
  pub tables : other.tables ≡ setup.tables
  pub queues : map unbudgeted other.queues ≡ map unbudgeted setup.queues
  pub carried : other.carried ≡ setup.carried

-- the same call: a submission has the class 0
abbrev pub classed_call : Call → Call
classed_call (Submit queue priority retries class) = Submit queue priority retries (Some 0)
classed_call call = call

abbrev pub classed_event : Event → Event
classed_event (called call) = called (classed_call call)
classed_event (executes run instruction) = executes run instruction

-- the same answer: that to a start reports the advice 0
abbrev pub classed_answer : Call → CallAnswer → CallAnswer
classed_answer (Dispatch queue) (answers.Ccb ccb) = answers.Advised ccb 0
classed_answer call answer = answer

abbrev pub classed_reply : Event → Reply → Reply
classed_reply (called call) (replies answer) = replies (classed_answer call answer)
classed_reply event reply = reply

abbrev pub classed : Event × Reply → Event × Reply
classed x = (classed_event x.0, classed_reply x.0 x.1)

-- the call withdraws a CCB
abbrev pub is_withdrawal : Call → Bool
is_withdrawal (Withdraw ccb) = true
is_withdrawal call = false

abbrev pub is_withdrawing : Event → Bool
is_withdrawing (called call) = is_withdrawal call
is_withdrawing (executes run instruction) = false

-- each run of events of the one, of which none is a withdrawal, is so one of the other, to the same world
abbrev pub ClassesToo : Type 0
ClassesToo =
    (setup other : Setup) → IsLawful setup → IsClassed setup other →
    (xs : List (Event × Reply)) (world : World) → list_all (λ x. not (is_withdrawing x.0)) xs ≡ true → WorldRun setup xs world → WorldRun other (map classed xs) world
