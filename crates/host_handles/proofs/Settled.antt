-- What was asked is settled, whatever the result.
use Rattle.std.proofs.Common.{Result, Ok, Err, inr}
use Rattle.world_calls.specs.declared.call_answer.CallAnswer.{CallAnswer}
use Rattle.engine_core.specs.declared.event.Event.{Event}
use Rattle.engine_core.specs.declared.reply.Reply.{Reply}
use Rattle.host_handles.specs.Handles.{HandlesState, IsAsked, IsSettled}
use Rattle.host_handles.specs.declared.unanswered.Unanswered.{Unanswered}
use Rattle.host_handles.specs.declared.unanswered.Unanswered.TheVariants.{NotHeld, NotAdmitted, OutOfMemory}

pub settled : (Replies : Event → Reply → Type 0) (IsFor : Event → Type 0) (Unheld Same : Type 0) (before after : HandlesState) (result : Result CallAnswer Unanswered) → IsAsked Replies IsFor before after result → IsSettled Replies IsFor Unheld Same before after result
settled Replies IsFor Unheld Same before after (Ok answer) asked = asked
settled Replies IsFor Unheld Same before after (Err NotHeld) asked = absurd asked.replied
settled Replies IsFor Unheld Same before after (Err NotAdmitted) asked = asked
settled Replies IsFor Unheld Same before after (Err OutOfMemory) asked = inr asked
