-- What an export did: to the values in its slots, and with the result that its number stands for.
use Rattle.std.specs.Prelude.{◌≡◌, ◌≢◌, ℕ, Bool, true, false, List, Option, None, Some, SomeIff, Result, Ok, Err, drop, length, min, take}
use Rattle.std.specs.Global.{Box}
use Rattle.ccb.specs.declared.cam_status.CamStatus.{CamStatus}
use Rattle.ccb.specs.Completion.{Outcome, IsCompletion}
use Rattle.ccb.specs.Status.{IsDecodedFrom}
use Rattle.freeze_ledger.specs.declared.freeze.Freeze.{Freeze}
use Rattle.ccb.specs.declared.place.Place.{Place}
use Rattle.freeze_ledger.specs.Deadlines.{some_timer}
use Rattle.engine_transport.specs.Freezing.{IsNextDue}
use Rattle.world_calls.specs.declared.call.Call.{Call}
use Rattle.world_calls.specs.declared.call.Call.TheVariants.{Complete, Dispatch, Submit}
use Rattle.world_calls.specs.declared.call_answer.CallAnswer.TheVariants as answers
use Rattle.world_calls.specs.declared.record.Record.{Record}
use Rattle.world_calls.specs.Answered.{started_answer}
use Rattle.world_calls.specs.declared.trace.Version.TheVariants.{Three}
use Rattle.world.specs.World.{class_kept, version_of}
use Rattle.world_calls.specs.declared.call_answer.CallAnswer.{CallAnswer}
use Rattle.world_calls.specs.declared.totals.Totals.{Totals}
use Rattle.engine_carried.specs.declared.numbering.Numbering.{Numbering}
use Rattle.engine_carried.specs.declared.numbering.Numbering.TheVariants.{Fresh, Same}
use Rattle.engine_core.specs.EngineState.{EngineState}
use Rattle.engine_core.specs.RunState.{RunState}
use Rattle.manifest.specs.declared.fault.ManifestFault.{ManifestFault}
use Rattle.host_embedding.specs.declared.call_result.CallResult.{CallResult}
use Rattle.host_embedding.specs.declared.call_result.CallResult.TheVariants.{Done, OutOfMemory, NoCompletion, NotUtf8, Faulty}
use Rattle.host_embedding.specs.declared.hosted_engine.HostedEngine.{HostedEngine}
use Rattle.host_embedding.specs.declared.run_handle.HeldRun.{HeldRun}
use Rattle.host_embedding.specs.declared.run_handle.RunHandle.{RunHandle}
use Rattle.host_embedding.specs.Calls.{IsCalled, IsCompleted, IsFrozen, IsReleased, IsResumed}
use Rattle.host_embedding.specs.Counting.{CountsRecords, is_same_beside}
use Rattle.host_embedding.specs.Fates.{TellsFate, number_of as fate_number, code_of as fate_code}
use Rattle.host_embedding.specs.declared.fates.Fate.{Fate}
use Rattle.host_embedding.specs.Held.{is_same_run}
use Rattle.host_embedding.specs.Results.{number_of, text_of}
use Rattle.host_opening.specs.declared.opening.OpenFault.{OpenFault}
use Rattle.host_opening.specs.declared.opening.OpenFault.TheVariants as faults
use Rattle.host_opening.specs.declared.recovering.RecoverFault.{RecoverFault}
use Rattle.host_opening.specs.declared.recovering.RecoverFault.TheVariants as unrecovered
use Rattle.host_embedding.specs.Recovering.{TakesRun}
use Rattle.camr_c.specs.declared.engine_exports.Sums.{Sums}
use Rattle.camr_c.specs.declared.engine_slot.EngineSlot.{EngineSlot}
use Rattle.camr_c.specs.declared.run_slot.RunSlot.{RunSlot}

-- ---- the shared forms

-- the number is that of a result, of which this holds
abbrev pub Did : ℕ → (CallResult → Type 0) → Type 0
Did number Told = (its : CallResult) × (number ≡ number_of its) × Told its

-- there was a value, there is one, and this holds of the two
abbrev pub Turns : {X : Type 0} → Option X → Option X → (X → X → Type 0) → Type 0
Turns None new Told = ⊥
Turns (Some before) None Told = ⊥
Turns (Some before) (Some after) Told = Told before after

-- there was a value, which is still there, and this holds of it
abbrev pub Stays : {X : Type 0} → Option X → Option X → (X → Type 0) → Type 0
Stays None new Told = ⊥
Stays (Some it) new Told = (new ≡ Some it) × Told it

-- there was an engine, there is one, this holds of the two, and the runs that are left to be taken and what is counted are the same
abbrev pub EngineTurns : Option HostedEngine → Option HostedEngine → (EngineState → EngineState → Type 0) → Type 0
EngineTurns old new Told = Turns old new (λ before after. Told before.engine after.engine × is_same_beside before after)

-- the same of a call whose records are counted
abbrev pub EngineCounts : Option HostedEngine → Option HostedEngine → (EngineState → EngineState → Type 0) → Type 0
EngineCounts old new Told = Turns old new (λ before after. Told before.engine after.engine × (after.left ≡ before.left) × CountsRecords before after)

-- the front of that result's text was put into a place, as much as finds room, and what stands after it is what stood there before
abbrev pub FrontOf : CallResult → List ℕ → List ℕ → ℕ → Type 0
FrontOf its before place written =
    (written ≡ min (length (text_of its)) (length before)) × (take written place ≡ take written (text_of its)) × (drop written place ≡ drop written before)

-- the same for the result of that number
abbrev pub TextOf : ℕ → List ℕ → List ℕ → ℕ → Type 0
TextOf number before place written = (its : CallResult) × (number ≡ number_of its) × FrontOf its before place written

-- ---- calls that name no run

-- the number of what was opened, and what the slot held before and holds then: if nothing was opened, what it held
abbrev pub IsOpened : Result (Box HostedEngine) OpenFault → ℕ → Option HostedEngine → Option HostedEngine → Type 0
IsOpened (Ok handle) number old new = (number ≡ number_of Done) × (new ≡ Some handle.value)
IsOpened (Err faults.OutOfMemory) number old new = (number ≡ number_of OutOfMemory) × (new ≡ old)
IsOpened (Err faults.NotUtf8) number old new = (number ≡ number_of NotUtf8) × (new ≡ old)
IsOpened (Err (faults.Manifest fault)) number old new = (number ≡ number_of Faulty) × (new ≡ old)

-- the result that stands for why nothing was recovered
abbrev pub unrecovered_result : RecoverFault → CallResult
unrecovered_result unrecovered.OutOfMemory = OutOfMemory
unrecovered_result unrecovered.NotUtf8 = NotUtf8
unrecovered_result (unrecovered.Manifest fault) = Faulty
unrecovered_result (unrecovered.Form fault) = Faulty
unrecovered_result (unrecovered.Replay fault) = Faulty

-- the same of what was recovered
abbrev pub IsRecovered : Result (Box HostedEngine) RecoverFault → ℕ → Option HostedEngine → Option HostedEngine → Type 0
IsRecovered (Ok handle) number old new = (number ≡ number_of Done) × (new ≡ Some handle.value)
IsRecovered (Err fault) number old new = (number ≡ number_of (unrecovered_result fault)) × (new ≡ old)

-- a call of the engine
abbrev pub Called : ℕ → EngineSlot → EngineSlot → CallAnswer → Call → Type 0
Called number old new answer call =
    Did number (λ its. EngineCounts old.held new.held (λ before after. IsCalled its before after answer call))

-- a submission, which says its class if CCBs have one
abbrev pub Submitted : ℕ → EngineSlot → EngineSlot → (queue priority retries class ccb : ℕ) → Type 0
Submitted number old new queue priority retries class ccb =
    Did number (λ its. EngineCounts old.held new.held (λ before after. IsCalled its before after (answers.Ccb (record { 0 = ccb })) (Submit (record { 0 = queue }) priority retries (class_kept before.setup class))))

-- a start, which is answered with its advice if CCBs have one, and has none otherwise
abbrev pub Started : ℕ → EngineSlot → EngineSlot → (queue ccb advice : ℕ) → Type 0
Started number old new queue ccb advice =
    Did number (λ its. EngineCounts old.held new.held (λ before after.
    IsCalled its before after (started_answer (version_of before.setup) (record { ccb = record { 0 = ccb }; advice = advice })) (Dispatch (record { 0 = queue }))
    × (its ≡ Done → version_of before.setup ≢ Three → advice ≡ 0)))

-- a guest freezes a place
abbrev pub Frozen : ℕ → EngineSlot → EngineSlot → ℕ → Place → ℕ → Type 0
Frozen number old new freeze place guest =
    Did number (λ its. EngineCounts old.held new.held (λ before after. IsFrozen its before after freeze place guest))

-- a guest's freeze is given back
abbrev pub Released : ℕ → EngineSlot → EngineSlot → ℕ → ℕ → Type 0
Released number old new left freeze =
    Did number (λ its. EngineCounts old.held new.held (λ before after. IsReleased its before after left freeze))

-- whether a timer holds one of these freezes, and when the first is due
abbrev pub TellsDue : List Freeze → Bool → ℕ → Type 0
TellsDue freezes true due = IsNextDue freezes due
TellsDue freezes false due = some_timer freezes ≡ false

-- the sums as C has them
abbrev pub sums_of : Totals → Sums
sums_of totals = record { history = totals.history; frozen = totals.frozen; active = totals.active; runs = totals.runs }

-- ---- an engine that follows another one

abbrev pub numbering_of : Bool → Numbering
numbering_of true = Fresh
numbering_of false = Same

-- the number of a result, or of a fault of the manifest's text
abbrev pub IsNumberOf : Result CallResult ManifestFault → ℕ → Type 0
IsNumberOf (Ok its) number = number ≡ number_of its
IsNumberOf (Err fault) number = number ≡ number_of Faulty

-- ---- calls with a run

-- a call of the engine with a run, which keeps the run's numbers
abbrev pub CalledWith : ℕ → EngineSlot → EngineSlot → RunSlot → RunSlot
    → (CallResult → EngineState → EngineState → HeldRun → HeldRun → Type 0) → Type 0
CalledWith number old new run again Told =
    Did number (λ its. EngineCounts old.held new.held (λ before after. Turns run.held again.held (λ was is.
    Told its before after was.held is.held × is_same_run was is)))

-- what a run has done with its CCB is reported with this result, as numbers
abbrev pub Reports : CallResult → Option RunState → List Record → (fate code : ℕ) → Type 0
Reports its run history fate code = (what : Fate) × TellsFate its run history what × (fate ≡ fate_number what) × (code ≡ fate_code what)

-- what a device reports by these numbers: a completion, where the code is a status's and there may be such a one
abbrev pub ReportOf : Option CamStatus → ℕ → ℕ → List ℕ → Option Outcome → Type 0
ReportOf None ccb scsi sense report = report ≡ None
ReportOf (Some status) ccb scsi sense report =
    let outcome : Outcome = record { ccb = record { 0 = ccb }; status = status; scsi = scsi; sense = sense } in
    SomeIff report (IsCompletion outcome) outcome

-- the same, of sense bytes that may be more than a completion has: the first 64 are taken
abbrev pub IsReported : ℕ → ℕ → ℕ → List ℕ → Option Outcome → Type 0
IsReported ccb code scsi sense report = (status : Option CamStatus) × IsDecodedFrom code status × ReportOf status ccb scsi (take 64 sense) report

-- the number of a completion's result, whether a run started, and what the run's slot held before and holds then: if none started,
-- what it held
abbrev pub Starts : Result (Option (Box RunHandle)) CallResult → ℕ → Bool → Option RunHandle → Option RunHandle → Type 0
Starts (Ok None) number started was run = (number ≡ number_of Done) × (started ≡ false) × (run ≡ was)
Starts (Ok (Some handle)) number started was run = (number ≡ number_of Done) × (started ≡ true) × (run ≡ Some handle.value)
Starts (Err its) number started was run = (number ≡ number_of its) × (started ≡ false) × (run ≡ was)

-- what was reported is answered so; if nothing was, the engine is as before, and so is the run's slot
abbrev pub Completed : Option Outcome → EngineState → EngineState → ℕ → Bool → Option RunHandle → Option RunHandle → Type 0
Completed None before after number started was run = (number ≡ number_of NoCompletion) × (started ≡ false) × (after ≡ before) × (run ≡ was)
Completed (Some completion) before after number started was run =
    (answer : Result (Option (Box RunHandle)) CallResult) × IsCompleted answer before after (Complete completion)
    × Starts answer number started was run

-- the number of a resume's result, whether the run is out again, and what the run's slot held before and holds then
abbrev pub GoesOut : Result (Box RunHandle) CallResult → ℕ → Bool → Option RunHandle → Option RunHandle → Type 0
GoesOut (Ok handle) number resumed was run = (number ≡ number_of Done) × (resumed ≡ true) × (run ≡ Some handle.value)
GoesOut (Err its) number resumed was run = (number ≡ number_of its) × (resumed ≡ false) × (run ≡ was)

abbrev pub Resumed : ℕ → EngineState → EngineState → ℕ → Bool → Option RunHandle → Option RunHandle → Type 0
Resumed parked before after number resumed was run =
    (answer : Result (Box RunHandle) CallResult) × IsResumed answer before after parked
    × GoesOut answer number resumed was run

-- ---- the runs that a recovery left

-- whether a run was taken, and what the run's slot held before and holds then: if none was taken, what it held
abbrev pub GoesTo : Option (Box RunHandle) → Bool → Option RunHandle → Option RunHandle → Type 0
GoesTo None taken was run = (taken ≡ false) × (run ≡ was)
GoesTo (Some handle) taken was run = (taken ≡ true) × (run ≡ Some handle.value)

abbrev pub Taken : HostedEngine → HostedEngine → Bool → Option RunHandle → Option RunHandle → Type 0
Taken before after taken was run = (answer : Option (Box RunHandle)) × TakesRun before answer after × GoesTo answer taken was run
