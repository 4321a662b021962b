-- What a completion says, and which ones there are.
use Rattle.std.specs.Prelude.{◌≢◌, ◌<◌, ◌≤◌, ℕ, List, length, All}
use Rattle.ccb.specs.declared.CcbId.{CcbId}
use Rattle.ccb.specs.declared.cam_status.CamStatus.{CamStatus}
use Rattle.ccb.specs.declared.cam_status.CamStatus.TheVariants.{RequestInProgress}
use Rattle.base.specs.ShortBytes.{most_bytes}

-- the answer of a device to a CCB: the CCB's number, its CAM status, the SCSI status byte, and the
-- sense bytes
pub record Outcome : Type 0 where
  pub ccb : CcbId
  pub status : CamStatus
  pub scsi : ℕ
  pub sense : List ℕ

-- the CCB is not still in progress, its sense bytes are not too many, and bytes are bytes
pub record IsCompletion (c : Outcome) : Type 0 where
  pub finished : c.status ≢ RequestInProgress
  pub scsi_byte : c.scsi < 256
  pub few : length c.sense ≤ most_bytes
  pub sense_bytes : All (λ byte. byte < 256) c.sense
