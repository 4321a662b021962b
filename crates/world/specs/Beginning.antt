-- Which worlds an engine may take over from the engine before it.
use Rattle.std.specs.Prelude.{◌≡◌, ◌⊎◌, false, true, List, [], All, IfSome}
use Rattle.std.specs.Prelude.{◌||◌}
use Rattle.ccb.specs.declared.cam_status.CamStatus.TheVariants.{RequestInProgress}
use Rattle.freeze_ledger.specs.declared.freeze.Freeze.{Freeze}
use Rattle.world.specs.declared.ccb_state.CcbState.TheVariants.{Active, Waiting}
use Rattle.world.specs.World.{LiveCcb, Setup, World}
use Rattle.world.specs.FreezeSteps.{is_guest, is_timer}
use Rattle.world.specs.Refusals.{is_unknown}
use Rattle.world.specs.Limits.{KeepsLimits}

-- It waits or is active, and nothing is left of an earlier completion, nor of an advice that its start reported.
pub record IsCarriedCcb (live : LiveCcb) : Type 0 where
  pub state : (live.state ≡ Waiting) ⊎ (live.state ≡ Active)
  pub status : live.ccb.status ≡ RequestInProgress
  pub scsi : live.ccb.scsi ≡ 0
  pub sense : live.ccb.sense ≡ []
  pub freeze : live.ccb.freeze_taken ≡ false
  pub advice : live.state ≡ Active → live.ccb.advice ≡ 0

-- A timer or a guest holds it, and what it freezes is there.
pub record IsCarriedFreeze (setup : Setup) (freeze : Freeze) : Type 0 where
  pub place : is_unknown setup freeze.place ≡ false
  pub holder : (is_timer freeze.holder || is_guest freeze.holder) ≡ true

-- A world without runs that keeps every limit. When timers are due, how often a CCB was started and how many CCBs of a queue are active
-- is not restricted.
pub record IsBeginning (setup : Setup) (world : World) : Type 0 where
  pub limits : KeepsLimits setup world
  pub ccbs : All IsCarriedCcb world.transport.live
  pub freezes : All (IsCarriedFreeze setup) world.transport.freezes
  pub no_run : world.runs.list ≡ []
  pub none_ended : world.ended ≡ []

-- an engine may begin so: it follows no other, or it takes over such a world
abbrev pub Begins : Setup → Type 0
Begins setup = IfSome setup.carried (IsBeginning setup)
