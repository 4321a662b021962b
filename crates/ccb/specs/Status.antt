-- The CAM status codes, and what a byte that is to be one stands for.
use Rattle.std.specs.Prelude.{◌≡◌, ◌≢◌, ℕ, Option, MatchOption}
use Rattle.ccb.specs.declared.cam_status.CamStatus.{CamStatus}
use Rattle.ccb.specs.declared.cam_status.CamStatus.TheVariants.{RequestInProgress, RequestCompleted, RequestAborted, Busy, SelectionTimeout, CommandTimeout, ScsiStatusError, ScsiBusReset, BusDeviceResetSent, RequeueRequest}

-- the code of a status, the low six bits of a CCB's status byte
abbrev pub code_of : CamStatus → ℕ
code_of RequestInProgress = 0x00
code_of RequestCompleted = 0x01
code_of RequestAborted = 0x02
code_of Busy = 0x05
code_of SelectionTimeout = 0x0a
code_of CommandTimeout = 0x0b
code_of ScsiStatusError = 0x0c
code_of ScsiBusReset = 0x0e
code_of BusDeviceResetSent = 0x17
code_of RequeueRequest = 0x1b

-- r is the status whose code this is, or `None` where no status has it
abbrev pub IsDecodedFrom : ℕ → Option CamStatus → Type 0
IsDecodedFrom code r = MatchOption r ((s : CamStatus) → code_of s ≢ code) (λ s. code_of s ≡ code)
