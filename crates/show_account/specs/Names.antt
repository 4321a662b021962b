-- How statuses, final codes and advice are named in words.
use Rattle.std.specs.Prelude.{◌≡◌, ◌≢◌, ◌⊎◌, ◌++◌, ◌==◌, if◌then◌else◌, ℕ, List, [], ◌∷◌, codes}
use Rattle.std.specs.Fmt.{decimal}
use Rattle.ccb.specs.Status.{code_of}
use Rattle.ccb.specs.declared.cam_status.CamStatus.{CamStatus}
use Rattle.ccb.specs.declared.cam_status.CamStatus.TheVariants as statuses
use Rattle.cli_text_page.specs.Page.{byte_digits}

abbrev pub status_name : CamStatus → List ℕ
status_name statuses.RequestInProgress = codes "request in progress"
status_name statuses.RequestCompleted = codes "request completed"
status_name statuses.RequestAborted = codes "request aborted"
status_name statuses.Busy = codes "busy"
status_name statuses.SelectionTimeout = codes "selection timeout"
status_name statuses.CommandTimeout = codes "command timeout"
status_name statuses.ScsiStatusError = codes "SCSI status error"
status_name statuses.ScsiBusReset = codes "SCSI bus reset"
status_name statuses.BusDeviceResetSent = codes "bus device reset sent"
status_name statuses.RequeueRequest = codes "requeue request"

-- the usual name of a word of advice; nothing if it has none
abbrev pub advice_name : ℕ → List ℕ
advice_name word =
    if word == 0 then codes "none"
    else if word == 1 then codes "test unit ready"
    else if word == 2 then codes "start unit"
    else if word == 3 then codes "request sense"
    else if word == 4 then codes "abort"
    else if word == 5 then codes "logical unit reset"
    else if word == 6 then codes "target reset"
    else if word == 7 then codes "bus reset"
    else if word == 8 then codes "reconnect"
    else []

-- a word of advice in words: its name and itself, or itself alone
abbrev pub advice_by : (name : List ℕ) → ℕ → List ℕ
advice_by [] word = decimal word
advice_by (character ∷ name) word = (character ∷ name) ++ (codes " (" ++ (decimal word ++ codes ")"))

abbrev pub advice_text : ℕ → List ℕ
advice_text word = advice_by (advice_name word) word

-- it is the name of the status that the code is, or nothing if it is none
abbrev pub IsNameOf : ℕ → List ℕ → Type 0
IsNameOf code name =
    ((status : CamStatus) × (code_of status ≡ code) × (name ≡ status_name status))
    ⊎ (((status : CamStatus) → code_of status ≢ code) × (name ≡ []))

-- a final code in words: its name and its two digits
abbrev pub unnamed_text : ℕ → List ℕ
unnamed_text code = codes "code " ++ byte_digits code

abbrev pub named_text : List ℕ → ℕ → List ℕ
named_text name code = name ++ (codes " (" ++ (byte_digits code ++ codes ")"))

abbrev pub code_text : (name : List ℕ) → ℕ → List ℕ
code_text [] code = unnamed_text code
code_text (character ∷ name) code = named_text (character ∷ name) code

abbrev pub IsCodeText : ℕ → List ℕ → Type 0
IsCodeText code text = (name : List ℕ) × IsNameOf code name × (text ≡ code_text name code)
