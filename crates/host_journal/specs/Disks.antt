-- What is done to a folder of segments and to standard output, a step at a time.
use Rattle.std.specs.Prelude.{◌≡◌, ◌≤◌, ℕ, Bool, true, false, Option, Some, None, Result, Ok, Err, List, [], ◌∷◌, ◌++◌, length, take, IfSome, ⊤}
use Rattle.std.specs.List.{list_all}
use Rattle.std.specs.Io.KnownBytes.{Consumes, IsAtEnd, Keeps}
use Rattle.host_journal.specs.declared.disk.DiskFault.{DiskFault}
use Rattle.host_journal.specs.declared.disk.DiskFault.TheVariants.{Failed as NotDone}
use Rattle.host_journal.specs.declared.fault.JournalFile.{JournalFile}
use Rattle.host_journal.specs.declared.fault.JournalFile.TheVariants.{Lock, Segment}

pub data Step : Type 0 where
  -- the file `lock` is there, and no other engine has it
  Locked : Step
  -- the folder is made, with nothing in it
  FolderMade : Step
  -- the manifest of that number has these bytes
  ManifestMade : (number : ℕ) (bytes : List ℕ) → Step
  -- the segment of that number has these bytes, and is the open one
  SegmentMade : (number : ℕ) (bytes : List ℕ) → Step
  -- that segment is the open one, and is read from its front
  Opened : (number : ℕ) → Step
  -- the open segment has that many bytes, those from its front, and is appended to
  CutTo : (bytes : ℕ) → Step
  -- these bytes stand after those of the open segment
  Kept : (bytes : List ℕ) → Step
  -- the open segment outlasts a stop of the machine
  Synced : Step
  -- these bytes went to standard output
  Out : (bytes : List ℕ) → Step
  -- another engine has the lock, and nothing was done but that its file may be there
  Refused : Step
  -- a call about that file failed so, and nothing was done
  Failed : (file : JournalFile) (fault : DiskFault) → Step
  -- nothing could be put on standard output
  NotOut : Step

-- the steps that are known, and one more
abbrev pub with_step : Option (List Step) → Step → Option (List Step)
with_step None step = None
with_step (Some steps) step = Some (steps ++ step ∷ [])

-- it was done; or the call about that file failed
abbrev pub Does : {T : Type 0} → JournalFile → Option (List Step) → Result T DiskFault → Step → Option (List Step) → Type 0
Does file old (Ok done) step new = new ≡ with_step old step
Does file old (Err fault) step new = new ≡ with_step old (Failed file fault)

-- that file was read, and nothing was done; or it failed
abbrev pub Reads : {T : Type 0} → JournalFile → Option (List Step) → Result T DiskFault → Option (List Step) → Type 0
Reads file old (Ok read) new = new ≡ old
Reads file old (Err fault) new = new ≡ with_step old (Failed file fault)

-- so many bytes were given, none only at the end; or the read failed, and gave none
abbrev pub Gives : {E : Type 0} → Option (List ℕ) → Result ℕ E → List ℕ → Option (List ℕ) → Type 0
Gives old (Ok count) piece new = (count ≤ length piece) × Consumes old new (take count piece) × (count ≡ 0 → IsAtEnd new)
Gives old (Err fault) piece new = Keeps old new

-- bytes of the segment of that number were read, and nothing was done; or that failed
abbrev pub ReadsBytes : {T E : Type 0} → (number : ℕ) → Option (List Step) → Result T E → Option (List Step) → Type 0
ReadsBytes number old (Ok read) new = new ≡ old
ReadsBytes number old (Err fault) new = new ≡ with_step old (Failed (Segment number) NotDone)

-- the lock was taken; or another engine has it; or it failed
abbrev pub Locks : Option (List Step) → Result Bool DiskFault → Option (List Step) → Type 0
Locks old (Ok true) new = new ≡ with_step old Locked
Locks old (Ok false) new = new ≡ with_step old Refused
Locks old (Err fault) new = new ≡ with_step old (Failed Lock fault)

-- the segment of that number was synced; or that failed
abbrev pub Syncs : {T E : Type 0} → (number : ℕ) → Option (List Step) → Result T E → Option (List Step) → Type 0
Syncs number old (Ok done) new = new ≡ with_step old Synced
Syncs number old (Err fault) new = new ≡ with_step old (Failed (Segment number) NotDone)

-- so many of the bytes were taken, one at least; or none was, and a step says that
abbrev pub TakesSome : {E : Type 0} → Option (List Step) → List ℕ → Result ℕ E → (List ℕ → Step) → (failed : Step) → Option (List Step) → Type 0
TakesSome old bytes (Ok count) step failed new = (1 ≤ count) × (count ≤ length bytes) × (new ≡ with_step old (step (take count bytes)))
TakesSome old bytes (Err fault) step failed new = new ≡ with_step old failed

-- what the steps appended to segments
abbrev pub kept_by : List Step → List ℕ
kept_by [] = []
kept_by (Kept bytes ∷ steps) = bytes ++ kept_by steps
kept_by (step ∷ steps) = kept_by steps

-- that of steps which are known
abbrev pub kept_so_far : Option (List Step) → Option (List ℕ)
kept_so_far None = None
kept_so_far (Some steps) = Some (kept_by steps)

-- what a folder holds, as far as it is known: its names, and the bytes of manifests and segments by their numbers
pub record Held : Type 0 where
  pub names : Option (List (List ℕ))
  pub manifests : ℕ → Option (List ℕ)
  pub segments : ℕ → Option (List ℕ)

-- nothing of it is known
abbrev pub nothing_held : Held
nothing_held = record { names = None; manifests = λ number. None; segments = λ number. None }

-- these are its names, if they are known
abbrev pub AreNames : Held → List (List ℕ) → Type 0
AreNames held names = IfSome held.names (λ its. names ≡ its)

-- these are the bytes, if they are known
abbrev pub IsText : Option (List ℕ) → List ℕ → Type 0
IsText known bytes = IfSome known (λ its. bytes ≡ its)

-- there are no names, if they are known
abbrev pub HoldsNothing : Held → Type 0
HoldsNothing held = IfSome held.names (λ names. names ≡ [])

-- ---- how steps go on

-- a segment is opened, or a call fails, or another engine has the lock: nothing is written, and the lock is not taken
abbrev pub is_quiet : Step → Bool
is_quiet (Opened number) = true
is_quiet (Failed file fault) = true
is_quiet Refused = true
is_quiet step = false

-- the steps that are known went on with such ones
abbrev pub IsQuiet : Option (List Step) → Option (List Step) → Type 0
IsQuiet None new = ⊤
IsQuiet (Some steps) new = (more : List Step) × (new ≡ Some (steps ++ more)) × (list_all is_quiet more ≡ true)

-- no call failed by this step
abbrev pub is_done : Step → Bool
is_done (Failed file fault) = false
is_done NotOut = false
is_done step = true

-- the steps that are known went on, and no call failed
abbrev pub AllDone : Option (List Step) → Option (List Step) → Type 0
AllDone None new = ⊤
AllDone (Some steps) new = (more : List Step) × (new ≡ Some (steps ++ more)) × (list_all is_done more ≡ true)

-- the steps that are known went on, and the last one is of this kind
abbrev pub EndsIn : (Step → Type 0) → Option (List Step) → Option (List Step) → Type 0
EndsIn Is None new = ⊤
EndsIn Is (Some steps) new = (more : List Step) × (last : Step) × Is last × (new ≡ Some (steps ++ (more ++ last ∷ [])))

-- a call about that file failed
abbrev pub IsFailed : JournalFile → Step → Type 0
IsFailed file (Failed other fault) = other ≡ file
IsFailed file step = ⊥

-- a call about that file failed, for that reason
abbrev pub IsFailedBy : JournalFile → DiskFault → Step → Type 0
IsFailedBy file fault (Failed other its) = (other ≡ file) × (its ≡ fault)
IsFailedBy file fault step = ⊥

-- the folder is made
abbrev pub IsFolderMade : Step → Type 0
IsFolderMade FolderMade = ⊤
IsFolderMade step = ⊥

abbrev pub IsNotOut : Step → Type 0
IsNotOut NotOut = ⊤
IsNotOut step = ⊥

abbrev pub IsRefused : Step → Type 0
IsRefused Refused = ⊤
IsRefused step = ⊥
