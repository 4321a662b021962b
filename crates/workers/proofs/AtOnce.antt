-- A run that is driven in one section: what that says, as advances one by one.
use Rattle.std.proofs.Common.{◌≡◌, ℕ, [], ◌∷◌, refl, ap, sym, subst, ◌∙◌}
use Rattle.std.proofs.lemmas.List.Elements.{All-nil}
use Rattle.world.specs.World.{Setup}
use Rattle.engine_core.specs.RunState.{RunState, StoppedState, before_stop}
use Rattle.engine_core.specs.declared.answers.AdvanceFault.{AdvanceFault}
use Rattle.engine_core.specs.declared.answers.AdvanceFault.TheVariants as faults
use Rattle.engine_core.specs.declared.driving.DriveFault.{DriveFault}
use Rattle.engine_core.specs.declared.event.Event.TheVariants.{Advance}
use Rattle.engine_core.specs.declared.reply.Returned.TheVariants as back
use Rattle.engine_core.specs.declared.reply.Reply.TheVariants.{Success, NotAdmitted, OutOfMemory}
use Rattle.engine_core.specs.declared.reply.Success.TheVariants.{Goes, Ended}
use Rattle.monitor.specs.Telling.{CallerState}
use Rattle.engine_lock.specs.Driving.{ComesToExit, GoesOn, IsBack, comes_on, stands}
use Rattle.workers.specs.Calls.{CallMade, made_none}
use Rattle.workers.specs.declared.driving.Why.{Why}
use Rattle.workers.specs.Serving.{AreCarriedOut, Drives, Ends, IsAdvanceOf, Leaves, why_of}
use Rattle.workers.proofs.Advances.{WasGiven, goes_further, until_after, went_on}

module _ (setup : Setup) (run : RunState) (before : CallerState) where
  -- the run was advanced, each time with success, and is this one
  record Advanced (at : RunState) (now : CallerState) : Type 0 where
    drives : Drives setup run.number [] before now
    went : AreCarriedOut drives.calls
    number : at.number ≡ run.number
    program : at.program ≡ run.program

  number_of : (stopped : StoppedState) (at : RunState) → before_stop stopped ≡ at → at.number ≡ run.number → stopped.number ≡ run.number
  number_of stopped at its number = ap (λ (it : RunState). it.number) its ∙ number

  advanced : (at : RunState) (r0 : ℕ) (now : CallerState) → GoesOn setup run before at r0 now → Advanced at now
  advanced at r0 now stands = record {
    drives = record { calls = []; made = made_none before; advances = All-nil (λ (call : CallMade). IsAdvanceOf run.number call.event); ends = refl };
    went = All-nil (WasGiven setup);
    number = refl;
    program = refl;
  }
  advanced there r0 now (comes_on at again r0_there then stopped between after goes its section) =
      let so_far = advanced at r0_there between goes in
      let number = number_of stopped at its so_far.number in record {
        drives = goes_further setup run.number [] before between after stopped (Success (Goes again then)) so_far.drives number section refl;
        went = went_on setup so_far.drives.calls (record { event = Advance stopped; reply = Success (Goes again then) }) so_far.went refl;
        number = section.answers.gives.0 ∙ number;
        program = section.answers.gives.1 ∙ (ap (λ (it : RunState). it.program) its ∙ so_far.program);
      }

  pub ends : (r0 : ℕ) (after : CallerState) → ComesToExit setup run r0 before after → Ends setup run.number before after
  ends r0 after e =
      let so_far = advanced e.at e.r0_there e.between e.goes in
      let number = number_of e.stopped e.at e.its so_far.number in record {
        drives = goes_further setup run.number (run.number ∷ []) before e.between after e.stopped (Success (Ended r0)) so_far.drives number e.exit (ap (λ (n : ℕ). n ∷ []) number);
        went = went_on setup so_far.drives.calls (record { event = Advance e.stopped; reply = Success (Ended r0) }) so_far.went refl;
      }

  comes_back_by : (fault : AdvanceFault) (there : RunState) (r0 : ℕ) (after : CallerState) → IsBack setup run (record { why = fault; run = there; r0 = r0 }) before after → Leaves setup run there (why_of fault) before after
  comes_back_by faults.NotOut there r0 after b =
      let so_far = advanced there r0 b.between b.goes in record {
        number = so_far.number;
        program = so_far.program;
        drives = goes_further setup run.number [] before b.between after b.stopped (NotAdmitted (back.Run there)) so_far.drives (number_of b.stopped there b.its so_far.number) b.last refl;
        has_left = until_after setup so_far.drives.calls b.stopped so_far.went (NotAdmitted (back.Run there)) _ refl;
      }
  comes_back_by faults.OutOfMemory there r0 after b =
      let so_far = advanced there r0 b.between b.goes in record {
        number = so_far.number;
        program = so_far.program;
        drives = goes_further setup run.number [] before b.between after b.stopped (OutOfMemory (back.Run there)) so_far.drives (number_of b.stopped there b.its so_far.number) b.last refl;
        has_left = until_after setup so_far.drives.calls b.stopped so_far.went (OutOfMemory (back.Run there)) _ refl;
      }

  pub comes_back : (fault : DriveFault) (why : Why) (after : CallerState) → why ≡ why_of fault.why → IsBack setup run fault before after → Leaves setup run fault.run why before after
  comes_back fault why after is b = subst (λ (w : Why). Leaves setup run fault.run w before after) (sym is) (comes_back_by fault.why fault.run fault.r0 after b)
