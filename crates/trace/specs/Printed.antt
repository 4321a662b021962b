-- What printing says of a sink: the text of the trace is out; or a write failed, and a beginning of it is.
use Rattle.std.specs.Prelude.{◌≡◌, ℕ, ◌≤◌, Option, Some, List, Result, Ok, Err, length, take}
use Rattle.std.specs.Io.KnownBytes.{Appends}
use Rattle.world_calls.specs.declared.record.Record.{Record}
use Rattle.world_calls.specs.declared.trace.Trace.{Trace}
use Rattle.world_calls.specs.declared.trace.Version.{Version}
use Rattle.trace.specs.declared.fault.PrintFault.{PrintFault}
use Rattle.trace.specs.declared.page.Page.{Page}
use Rattle.trace.specs.Pages.{Passed, IsCut}
use Rattle.trace.specs.Sinks.{HasFailed}
use Rattle.trace.specs.TraceText.{records_text, trace_text}

-- all of the text is out, no write failed, and this is the trace's text
pub record IsPrinted (text : Option (List ℕ)) (old : Option (List ℕ)) (failed : ℕ) (new : Option (List ℕ)) (fails : ℕ) : Type 0 where
  pub bytes : List ℕ
  pub is : text ≡ Some bytes
  pub told : Appends old new bytes
  pub none : fails ≡ failed

-- a write failed, and the first so many bytes of the text are out
pub record IsBegun (text : Option (List ℕ)) (old : Option (List ℕ)) (failed : ℕ) (written : ℕ) (new : Option (List ℕ)) (fails : ℕ) : Type 0 where
  pub fault : HasFailed failed fails
  pub front : (bytes : List ℕ) → text ≡ Some bytes → (written ≤ length bytes) × Appends old new (take written bytes)

-- what is said of a trace and a sink
abbrev pub Prints : {T : Type 0} → Trace → Option (List ℕ) → ℕ → Result T PrintFault → Option (List ℕ) → ℕ → Type 0
Prints trace old failed (Ok done) new fails = IsPrinted (trace_text trace) old failed new fails
Prints trace old failed (Err fault) new fails = IsBegun (trace_text trace) old failed fault.written new fails

-- what is said of records, a page and a sink
abbrev pub PrintsRecords : {T : Type 0} → Version → List Record → Page → Option (List ℕ) → ℕ → Result T PrintFault → Page → Option (List ℕ) → ℕ → Type 0
PrintsRecords version records before old failed (Ok done) page new fails = Passed (records_text version records) before old failed page new fails
PrintsRecords version records before old failed (Err fault) page new fails = IsCut (records_text version records) before old failed fault.written new fails
