-- When a host may withdraw a CCB.
use Rattle.std.specs.Prelude.{◌≡◌, true, Some}
use Rattle.ccb.specs.declared.CcbId.{CcbId}
use Rattle.ccb.specs.declared.call_refusal.CallRefusal.{CallRefusal}
use Rattle.world_calls.specs.declared.call.Call.TheVariants.{Withdraw}
use Rattle.world.specs.declared.ccb_state.CcbState.TheVariants.{Waiting}
use Rattle.world.specs.World.{LiveCcb, Setup, Transport, World, has_classes}
use Rattle.world.specs.Lookups.{ccb_of}
use Rattle.world.specs.Event.{refused}
use Rattle.world.specs.Step.{step_call}

-- the CCB is live, and waits
abbrev pub Waits : CcbId → Transport → Type 0
Waits ccb transport = (live : LiveCcb) × (ccb_of ccb.0 transport.live ≡ Some live) × (live.state ≡ Waiting)

-- CCBs may be withdrawn, and this one waits
abbrev pub MayWithdraw : Setup → CcbId → Transport → Type 0
MayWithdraw setup ccb transport = (has_classes setup ≡ true) × Waits ccb transport

-- the call is refused so, and changes nothing
abbrev pub IsRefusedWithdrawal : Setup → CcbId → CallRefusal → World → Type 0
IsRefusedWithdrawal setup ccb refusal world = step_call setup world (Withdraw ccb) ≡ Some (refused refusal, world)
