-- What a file of devices says: of each number of `Disks`, what stands under its key, or what is meant where nothing does.
use Rattle.std.specs.Prelude.{◌≡◌, ◌≢◌, ◌≤◌, ◌<◌, ◌⊎◌, ◌^◌, ◌==◌, ℕ, Bool, ℤ, pos, List, [], ◌∷◌, Option, Some, None, codes, length, map}
use Rattle.std.specs.List.{AllZip, after_first, before_first, position_or_len}
use Rattle.toml.specs.Data.{Data, table, Members, get, as_integer}
use Rattle.toml.specs.Parse.{parse_document}
use Rattle.ccb.specs.Completion.{Outcome}
use Rattle.ccb.specs.declared.cam_status.CamStatus.TheVariants.{RequestCompleted}
use Rattle.manifest_form.specs.Document.{elements_at, integer_at, text_at}
use Rattle.trace_lines.specs.Texts.{byte_text, sense_text, status_text}
use Rattle.trial_disks.specs.declared.data.Span.{Span}
use Rattle.trial_disks.specs.declared.data.Failure.{Failure}
use Rattle.trial_disks.specs.declared.data.Device.{Device}
use Rattle.trial_disks.specs.declared.data.Disks.{Disks}

-- the whole number of a value, and that one where there is no value
abbrev pub integer_or : ℕ → Option Data → Option ℤ
integer_or other None = Some (pos other)
integer_or other (Some value) = as_integer value

-- The number stands under the key.
abbrev pub IsNumber : List ℕ → Data → ℕ → Type 0
IsNumber key entry number = integer_at key entry ≡ Some (pos number)

-- The number stands under the key, or nothing does, and it is the other one.
abbrev pub IsNumberOr : List ℕ → ℕ → Data → ℕ → Type 0
IsNumberOr key other entry number = integer_or other (get key entry) ≡ Some (pos number)

-- The number stands under the key, or there is none, and nothing stands there.
abbrev pub IsGiven : List ℕ → Data → Option ℕ → Type 0
IsGiven key entry None = get key entry ≡ None
IsGiven key entry (Some number) = IsNumber key entry number

-- One number, which is the least and the most, or an array of the two.
abbrev pub AreEnds : List ℕ → Data → ℤ → ℤ → Type 0
AreEnds key entry least most =
    ((integer_at key entry ≡ Some least) × (most ≡ least))
    ⊎ (map as_integer (elements_at key entry) ≡ Some least ∷ Some most ∷ [])

abbrev pub IsSpan : List ℕ → Data → Span → Type 0
IsSpan key entry span = AreEnds key entry (pos span.least) (pos span.most)

-- The span stands under the key, or there is none, and nothing stands there.
abbrev pub IsSpanGiven : List ℕ → Data → Option Span → Type 0
IsSpanGiven key entry None = get key entry ≡ None
IsSpanGiven key entry (Some span) = IsSpan key entry span

abbrev pub is_blank : ℕ → Bool
is_blank byte = byte == 32

-- The words are three, and the blanks between them are the first two.
pub record AreThree (words first second third : List ℕ) : Type 0 where
  pub one : position_or_len is_blank words < length words
  pub two : position_or_len is_blank (after_first is_blank words) < length (after_first is_blank words)
  pub front : first ≡ before_first is_blank words
  pub middle : second ≡ before_first is_blank (after_first is_blank words)
  pub back : third ≡ after_first is_blank (after_first is_blank words)

-- The words are the CAM status, the SCSI status and the sense data, each as a line of a trace has it; and no request is completed by it.
pub record IsSpelled (words : List ℕ) (completion : Outcome) : Type 0 where
  pub status : List ℕ
  pub scsi : List ℕ
  pub sense : List ℕ
  pub three : AreThree words status scsi sense
  pub status_is : status_text completion.status ≡ Some status
  pub scsi_is : byte_text completion.scsi ≡ Some scsi
  pub sense_is : sense_text completion.sense ≡ Some sense
  pub failed : completion.status ≢ RequestCompleted

-- The completion is spelled under the key.
abbrev pub IsCompletionAt : List ℕ → Data → Outcome → Type 0
IsCompletionAt key entry completion = (words : List ℕ) × (text_at key entry ≡ Some words) × IsSpelled words completion

-- A failure is what its table says. Where the table lacks a key, the failure is of every start, at all times and addresses, and never heals.
pub record IsFailure (entry : Data) (failure : Failure) : Type 0 where
  pub completion : IsCompletionAt (codes "completion") entry failure.completion
  pub latency : IsSpanGiven (codes "latency") entry failure.latency
  pub share : IsNumberOr (codes "share") 1000000 entry failure.share
  pub from : IsNumberOr (codes "from") 0 entry failure.from
  pub until : IsNumberOr (codes "until") (2 ^ 62) entry failure.until
  pub period : IsNumberOr (codes "period") 0 entry failure.period
  pub first : IsNumberOr (codes "first") 0 entry failure.first
  pub last : IsNumberOr (codes "last") (2 ^ 62) entry failure.last
  pub over : IsNumberOr (codes "over") 0 entry failure.over
  pub tries : IsNumberOr (codes "tries") (2 ^ 62) entry failure.tries
  pub heals_after : IsNumberOr (codes "heals-after") (2 ^ 62) entry failure.heals_after
  pub heals_on_advice : IsNumberOr (codes "heals-on-advice") 0 entry failure.heals_on_advice
  pub heals_in : IsNumberOr (codes "heals-in") 0 entry failure.heals_in

-- A device without its failures is what its table says.
pub record IsAlone (entry : Data) (device : Device) : Type 0 where
  pub queue : IsGiven (codes "queue") entry device.queue
  pub depth : IsNumber (codes "depth") entry device.depth
  pub retries : IsNumberOr (codes "retries") 5 entry device.retries
  pub latency : IsSpan (codes "latency") entry device.latency
  pub addresses : IsNumberOr (codes "addresses") 1000000 entry device.addresses

-- The same with its failures, one for each table, in their order.
pub record IsDevice (entry : Data) (device : Device) : Type 0 where
  pub alone : IsAlone entry device
  pub failures : AllZip IsFailure (elements_at (codes "failure") entry) device.failures.items

-- what a document says beside its devices
pub record IsFrame (document : Data) (disks : Disks) : Type 0 where
  pub seed : IsNumber (codes "seed") document disks.seed
  pub requests : IsNumber (codes "requests") document disks.requests
  pub some : 1 ≤ disks.requests
  pub until : IsNumberOr (codes "until") (2 ^ 62) document disks.until
  pub limit : IsNumberOr (codes "limit") 0 document disks.limit

-- The same with its devices, one for each table, in their order.
pub record AreDisks (document : Data) (disks : Disks) : Type 0 where
  pub frame : IsFrame document disks
  pub devices : AllZip IsDevice (elements_at (codes "device") document) disks.devices.items

-- The text is TOML that says these devices.
pub record SaysDisks (text : List ℕ) (disks : Disks) : Type 0 where
  pub document : Members
  pub parsed : parse_document text ≡ Some document
  pub said : AreDisks (table document) disks
