-- What holds of each reply, and where nobody was asked, holds after an advance of what is held.
use Rattle.std.proofs.Common.{Result, Ok, Err, inl, inr}
use Rattle.std.specs.Prelude.{MatchResult}
use Rattle.world_calls.specs.declared.call_answer.CallAnswer.{CallAnswer}
use Rattle.engine_core.specs.declared.event.Event.{Event}
use Rattle.engine_core.specs.declared.reply.Reply.{Reply}
use Rattle.engine_core.specs.declared.reply.Reply.TheVariants as replied
use Rattle.host_handles.specs.declared.unanswered.Unanswered.{Unanswered}
use Rattle.host_handles.specs.declared.unanswered.Unanswered.TheVariants.{NotHeld, NotAdmitted, OutOfMemory}
use Rattle.host_handles.specs.Handles.{HandlesState, IsSettled}

pub settled : {Done : Type 0} (Replies : Event → Reply → Type 0) (IsFor : Event → Type 0) (Unheld Same P : Type 0) (held now : HandlesState) (result : Result Done Unanswered) → MatchResult result (λ done. (answer : CallAnswer) × IsSettled Replies IsFor Unheld Same held now (Ok answer)) (λ fault. IsSettled Replies IsFor Unheld Same held now (Err fault)) → ((event : Event) (reply : Reply) → Replies event reply → P) → (Same → P) → P
settled Replies IsFor Unheld Same P held now (Ok done) its asked same = asked its.1.event its.1.replied.0 its.1.replied.1
settled Replies IsFor Unheld Same P held now (Err NotHeld) its asked same = same its.1
settled Replies IsFor Unheld Same P held now (Err NotAdmitted) its asked same = asked its.event (replied.NotAdmitted its.replied.0) its.replied.1
settled Replies IsFor Unheld Same P held now (Err OutOfMemory) (inl none) asked same = same none.0
settled Replies IsFor Unheld Same P held now (Err OutOfMemory) (inr its) asked same = asked its.event (replied.OutOfMemory its.replied.0) its.replied.1
