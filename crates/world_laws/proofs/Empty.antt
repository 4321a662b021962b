-- An advance by no instruction stands for no event.
use Rattle.std.proofs.Common.{◌≡◌, ℕ, ap}
use Rattle.world_calls.specs.declared.record.StoppedAt.TheVariants.{Helper, Trace, Finish, Exit}
use Rattle.world.specs.World.{Setup, World}
use Rattle.world.specs.Told.{Told, plain, traces, finishes}
use Rattle.world.specs.Event.{call, executes, went_on, result, Reply}
use Rattle.world.specs.Step.{WorldStep}
use Rattle.world.specs.Flat.{EmptyAdvanceIsNone}
use Rattle.world_laws.proofs.Steps.Running.{exit_parts}
use Rattle.world_laws.proofs.Steps.Calls.{asks_of}

-- a helper call is answered
no_call_goes_on : (setup : Setup) (before : World) (run : ℕ) (told : Told) (after : World) → WorldStep setup before (executes run (call told)) went_on after → ⊥
no_call_goes_on setup before run told after e =
    let it = asks_of setup before run told went_on after e in
    let bad : went_on ≡ result it.given.r0 = ap (λ (x : Reply × World). x.0) it.answer in cc

pub empty_advance_is_none : EmptyAdvanceIsNone
empty_advance_is_none setup run (Helper helper) r0 before after leads = no_call_goes_on setup before run (plain helper) leads.0 leads.1
empty_advance_is_none setup run (Trace helper bytes) r0 before after leads = no_call_goes_on setup before run (traces helper bytes) leads.0 leads.1
empty_advance_is_none setup run (Finish helper code) r0 before after leads = no_call_goes_on setup before run (finishes helper code) leads.0 leads.1
empty_advance_is_none setup run Exit r0 before after leads =
    let it = exit_parts setup before run went_on leads.0 leads.1 in
    let bad : went_on ≡ result it.r0 = it.reply_is in cc
