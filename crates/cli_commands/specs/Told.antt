-- What the status of a plan tells of the files that it reads.
use Rattle.std.specs.Prelude.{◌≡◌, ◌⊎◌, ◌++◌, ◌∷◌, [], ℕ, List, Option, Some, None, Result, Err, codes, Bool, true, false}
use Rattle.std.specs.Io.KnownBytes.{Appends, Keeps}
use Rattle.bpf_insn.specs.declared.program.Slot.{Slot}
use Rattle.bpf_decode.specs.Spells.{Spells}
use Rattle.bpf_decode.specs.FirstFault.{HasFault as HasDecodeFault}
use Rattle.bpf_decode.specs.declared.fault.DecodeFault.{DecodeFault}
use Rattle.bpf_asm.specs.Assembly.{Says, HasFault as HasAsmFault}
use Rattle.bpf_asm.specs.Canon.{canon}
use Rattle.bpf_asm.specs.declared.fault.AsmFault.{AsmFault}
use Rattle.manifest.specs.declared.fault.ManifestFault.{ManifestFault}
use Rattle.manifest.specs.Meaning.{Means, HasFault}
use Rattle.manifest.specs.Migration.{HasMigrationFault, IsMigrated}
use Rattle.world_calls.specs.declared.carried_line.CarriedLine.{CarriedLine}
use Rattle.world_calls.specs.declared.trace.Trace.{Trace}
use Rattle.whole_trace.specs.WholeText.{AreOrdered, SaysWhole, whole_text}
use Rattle.base.specs.declared.or_memory.OrMemory.{OrMemory}
use Rattle.base.specs.declared.or_memory.OrMemory.TheVariants as part
use Rattle.replay.specs.Continued.{IsContinuedTraceOf, IsFaultyContinuedAt, ReplaysContinued}
use Rattle.replay.specs.Replaying.{IsFaultyAt, IsTraceOf, Replays}
use Rattle.replay.specs.declared.fault.ReplayFault.{ReplayFault}
use Rattle.scenario.specs.Said.{IsFaultyLine, Say, lines_of}
use Rattle.scenario.specs.Commands.{Step}
use Rattle.host_scenario.specs.Faults.{IsUnheldThen}
use Rattle.host_scenario.specs.Traces.{IsOfScenario}
use Rattle.trace.specs.TraceText.{trace_text}
use Rattle.world.specs.World.{Setup, version_of}
use Rattle.world.specs.TotalsOf.{TotalsOf}
use Rattle.cli_commands.specs.Refusals.{AreTold, refused_count}
use Rattle.cli_commands.specs.declared.fault.Fault.{Fault}
use Rattle.cli_commands.specs.declared.fault.Fault.TheVariants as fault
use Rattle.world_calls.specs.declared.trace.Version.{Version}
use Rattle.world_calls.specs.declared.trace.Version.TheVariants.{Two, Three}
use Rattle.cli_line.specs.declared.plans.LaterVersion.{LaterVersion}
use Rattle.cli_line.specs.declared.plans.LaterVersion.TheVariants as later
use Rattle.cli_line.specs.declared.plans.Plan.{Plan}
use Rattle.cli_line.specs.declared.plans.Plan.TheVariants.{Asm, Dis, Check, Migrate, Run, Strict, Live, Journal, Audit, Replay}

-- the bytes are the text of a program, spell one, or are a manifest
abbrev pub IsText : List ℕ → Type 0
IsText bytes = (program : _) × Says bytes program

abbrev pub IsProgram : List ℕ → Type 0
IsProgram bytes = (program : _) × Spells bytes program

abbrev pub IsManifest : List ℕ → Type 0
IsManifest bytes = (setup : _) × (programs : _) × Means bytes setup programs

-- the version by that name of the command line
abbrev pub version_named : LaterVersion → Version
version_named later.Two = Two
version_named later.Three = Three

-- they are a manifest that can be written anew in that version
abbrev pub IsMigratable : Version → List ℕ → Type 0
IsMigratable to bytes = (migrated : List ℕ) × IsMigrated to bytes migrated

-- they have a fault of such a one
abbrev pub IsFaultyText : List ℕ → Type 0
IsFaultyText bytes = (fault : AsmFault) × HasAsmFault bytes fault

abbrev pub IsFaultyProgram : List ℕ → Type 0
IsFaultyProgram bytes = (fault : DecodeFault) × HasDecodeFault bytes fault

abbrev pub IsFaultyManifest : List ℕ → Type 0
IsFaultyManifest bytes = (fault : ManifestFault) × HasFault bytes fault

abbrev pub IsFaultyMigration : Version → List ℕ → Type 0
IsFaultyMigration to bytes = (fault : ManifestFault) × HasMigrationFault to bytes fault

-- a plan's first file is what the plan asks for
abbrev pub IsAsAsked : Plan → List ℕ → Type 0
IsAsAsked (Asm text program) bytes = IsText bytes
IsAsAsked (Dis program) bytes = IsProgram bytes
IsAsAsked (Check manifest) bytes = IsManifest bytes
IsAsAsked (Migrate to manifest migrated) bytes = IsMigratable (version_named to) bytes
IsAsAsked (Run workers watch manifest scenario) bytes = IsManifest bytes
IsAsAsked (Strict workers watch manifest scenario) bytes = IsManifest bytes
IsAsAsked (Live manner manifest) bytes = IsManifest bytes
IsAsAsked (Journal manner is_synced folder manifest) bytes = ⊥
IsAsAsked (Audit folder) bytes = ⊥
IsAsAsked (Replay manifest trace) bytes = IsManifest bytes

-- the plan is one of a journal, which needs a disk
abbrev pub needs_disk : Plan → Bool
needs_disk (Journal manner is_synced folder manifest) = true
needs_disk (Audit folder) = true
needs_disk plan = false

-- it has a fault; where a scenario or a trace is read too, the fault may be there
abbrev pub IsFaulty : Plan → List ℕ → Type 0
IsFaulty (Asm text program) bytes = IsFaultyText bytes
IsFaulty (Dis program) bytes = IsFaultyProgram bytes
IsFaulty (Check manifest) bytes = IsFaultyManifest bytes
IsFaulty (Migrate to manifest migrated) bytes = IsFaultyMigration (version_named to) bytes
IsFaulty (Run workers watch manifest scenario) bytes = Unit {0}
IsFaulty (Strict workers watch manifest scenario) bytes = Unit {0}
IsFaulty (Live manner manifest) bytes = IsFaultyManifest bytes
IsFaulty (Journal manner is_synced folder manifest) bytes = ⊥
IsFaulty (Audit folder) bytes = ⊥
IsFaulty (Replay manifest trace) bytes = Unit {0}

-- The trace is a history of an engine of the setup, of that engine's version and with its sums, from its opening or from the world of the
-- carried lines.
abbrev pub IsHistoryOf : Setup → Option (List CarriedLine) → Trace → Type 0
IsHistoryOf setup None trace = IsTraceOf setup trace
IsHistoryOf setup (Some lines) trace = IsContinuedTraceOf setup lines trace

-- This line of the trace is the first that does not follow.
abbrev pub IsFaultyOver : Setup → Option (List CarriedLine) → Trace → ReplayFault → Type 0
IsFaultyOver setup None trace fault = IsFaultyAt setup 0 trace fault
IsFaultyOver setup (Some lines) trace fault = IsFaultyContinuedAt setup lines trace fault

-- what a replay says
abbrev pub FollowsWhole : Setup → Option (List CarriedLine) → Trace → Result (Unit {0}) (OrMemory ReplayFault) → Type 0
FollowsWhole setup None trace result = Replays setup 0 trace result
FollowsWhole setup (Some lines) trace result = ReplaysContinued setup lines trace result

-- The one text is a manifest, and the other the trace of such a history of an engine of its setup.
abbrev pub IsAcceptedTrace : List ℕ → List ℕ → Type 0
IsAcceptedTrace manifest text =
    (setup : _) × (programs : _) × (carried : Option (List CarriedLine)) × (trace : Trace) × Means manifest setup programs × (whole_text carried trace ≡ Some text)
    × IsHistoryOf setup carried trace

-- The text is a manifest, and the trace is that of a history of an engine of its setup, of that engine's version, with its sums.
abbrev pub IsOfManifest : List ℕ → Trace → Type 0
IsOfManifest manifest trace =
    (setup : _) × (programs : _) × Means manifest setup programs × (trace.version ≡ version_of setup) × TotalsOf setup trace.records.items trace.totals

-- The trace's text went out.
abbrev pub IsPrinted : Trace → Option (List ℕ) → Option (List ℕ) → Type 0
IsPrinted trace old new = (text : List ℕ) × (trace_text trace ≡ Some text) × Appends old new text

-- The text is a manifest of this setup.
abbrev pub IsServing : List ℕ → Setup → Type 0
IsServing manifest setup = (programs : _) × Means manifest setup programs

-- The one text is a manifest, and the other a scenario of its version.
abbrev pub IsScenario : List ℕ → List ℕ → Type 0
IsScenario manifest text = (setup : _) × (programs : _) × (steps : List Step) × Means manifest setup programs × Say (version_of setup) (lines_of text) steps

-- what a plan's second file is, beside the first, where the plan was carried out
abbrev pub IsAccepted : Plan → List ℕ → List ℕ → Type 0
IsAccepted (Run workers watch manifest scenario) first second = IsScenario first second
IsAccepted (Strict workers watch manifest scenario) first second = IsScenario first second
IsAccepted (Replay manifest trace) first second = IsAcceptedTrace first second
IsAccepted plan first second = Unit {0}

-- The text is a scenario of the trace's version, of which the trace is: its host's calls and what workers make.
abbrev pub IsOfScenarioText : List ℕ → Trace → Type 0
IsOfScenarioText text trace = (steps : List Step) × Say trace.version (lines_of text) steps × IsOfScenario trace.version steps trace.records.items

-- The one text says a program, and the bytes spell it; the bytes spell one, and the text is that of it.
abbrev pub IsAssembled : List ℕ → List ℕ → Type 0
IsAssembled text bytes = (program : List Slot) × Says text program × Spells bytes program

abbrev pub IsDisassembled : List ℕ → List ℕ → Type 0
IsDisassembled bytes text = (program : List Slot) × Spells bytes program × (text ≡ canon program)

-- The text is a manifest, and the trace that of a history of an engine of its setup.
abbrev pub IsTraceUnder : List ℕ → List ℕ → Type 0
IsTraceUnder manifest text = (trace : Trace) × IsOfManifest manifest trace × (trace_text trace ≡ Some text)

-- the same of an engine of which nothing was asked
abbrev pub IsIdleUnder : List ℕ → List ℕ → Type 0
IsIdleUnder manifest text = (trace : Trace) × IsOfManifest manifest trace × (trace_text trace ≡ Some text) × (trace.records.items ≡ [])

-- a text of this kind went out
abbrev pub PutsOut : (List ℕ → Type 0) → Option (List ℕ) → Option (List ℕ) → Type 0
PutsOut Is old new = (text : List ℕ) × Appends old new text × Is text

-- what went out of a plan that is carried out, by its first file; of the verdicts nothing is said
abbrev pub IsOutput : Plan → List ℕ → Option (List ℕ) → Option (List ℕ) → Type 0
IsOutput (Asm text program) input old new = PutsOut (IsAssembled input) old new
IsOutput (Dis program) input old new = PutsOut (IsDisassembled input) old new
IsOutput (Check manifest) input old new = Unit {0}
IsOutput (Migrate to manifest migrated) input old new = PutsOut (IsMigrated (version_named to) input) old new
IsOutput (Run workers watch manifest scenario) input old new = PutsOut (IsTraceUnder input) old new
IsOutput (Strict workers watch manifest scenario) input old new = PutsOut (IsTraceUnder input) old new
IsOutput (Live manner manifest) input old new = PutsOut (IsIdleUnder input) old new
IsOutput (Journal manner is_synced folder manifest) input old new = ⊥
IsOutput (Audit folder) input old new = ⊥
IsOutput (Replay manifest trace) input old new = PutsOut (λ output. output ≡ codes "accepted" ++ 10 ∷ []) old new

-- of a run: the trace of its scenario on an engine of its manifest; and of a strict one that no call was refused
abbrev pub IsPutOut : Plan → List ℕ → List ℕ → Option (List ℕ) → Option (List ℕ) → Type 0
IsPutOut (Run workers watch manifest scenario) first second old new =
    (trace : Trace) × IsOfManifest first trace × IsOfScenarioText second trace × IsPrinted trace old new
IsPutOut (Strict workers watch manifest scenario) first second old new =
    (trace : Trace) × IsOfManifest first trace × IsOfScenarioText second trace × IsPrinted trace old new × (refused_count trace.records.items ≡ 0)
IsPutOut plan first second old new = Unit {0}

-- The one text is a manifest, and the other a trace, with its carried lines in order, this line of which is the first that does not follow
-- over it.
abbrev pub IsFaultyReplay : List ℕ → List ℕ → ReplayFault → Type 0
IsFaultyReplay manifest text fault =
    (setup : _) × (programs : _) × (carried : Option (List CarriedLine)) × (trace : Trace) × Means manifest setup programs × (whole_text carried trace ≡ Some text)
    × AreOrdered carried × IsFaultyOver setup carried trace fault

-- The one text is a manifest, and the other a scenario, on this line of which stands a release of a freeze that is not held then.
abbrev pub IsUnheldRelease : List ℕ → List ℕ → ℕ → Type 0
IsUnheldRelease manifest text line =
    (setup : _) × (programs : _) × (steps : List Step) × Means manifest setup programs × Say (version_of setup) (lines_of text) steps × IsUnheldThen setup steps line

-- The one text is a manifest, and this line of the other is the first that is none of a scenario of its version.
abbrev pub IsFaultyLineUnder : List ℕ → List ℕ → ℕ → Type 0
IsFaultyLineUnder manifest text line = (setup : _) × (programs : _) × Means manifest setup programs × IsFaultyLine (version_of setup) text line

-- a line of the text, at least, is none of a scenario under that manifest
abbrev pub IsFaultyScenario : List ℕ → List ℕ → Type 0
IsFaultyScenario manifest text = (line : ℕ) × IsFaultyLineUnder manifest text line

-- what is wrong with a manifest
abbrev pub IsManifestFault : List ℕ → Fault → Type 0
IsManifestFault manifest (fault.Manifest f) = HasFault manifest f
IsManifestFault manifest other = ⊥

-- why a trace is not accepted over a manifest, and why a scenario is not carried out: the first of the two that has a fault is told
abbrev pub IsTraceFault : List ℕ → List ℕ → Fault → Type 0
IsTraceFault manifest text (fault.Trace f) = IsManifest manifest × SaysWhole text (Err (part.Fault f))
IsTraceFault manifest text (fault.Replay f) = IsFaultyReplay manifest text f
IsTraceFault manifest text other = IsManifestFault manifest other

abbrev pub IsScenarioFault : List ℕ → List ℕ → Fault → Type 0
IsScenarioFault manifest text (fault.Line line) = IsFaultyLineUnder manifest text line
IsScenarioFault manifest text (fault.NotHeld line) = IsUnheldRelease manifest text line
IsScenarioFault manifest text other = IsManifestFault manifest other

-- there is such a fault
abbrev pub IsRejectedTrace : List ℕ → List ℕ → Type 0
IsRejectedTrace manifest text = (fault : Fault) × IsTraceFault manifest text fault

abbrev pub IsRejectedScenario : List ℕ → List ℕ → Type 0
IsRejectedScenario manifest text = (fault : Fault) × IsScenarioFault manifest text fault

-- what is wrong with a plan's first file, or with its second beside the first, where the plan was refused
abbrev pub IsRejected : Plan → List ℕ → List ℕ → Type 0
IsRejected (Run workers watch manifest scenario) first second = IsRejectedScenario first second
IsRejected (Replay manifest trace) first second = IsRejectedTrace first second
IsRejected plan first second = Unit {0}

-- the run is strict
abbrev pub is_strict : Plan → Bool
is_strict (Strict workers watch manifest scenario) = true
is_strict plan = false

-- The one text is a manifest, and the other a scenario, of which the trace went out. Calls were refused, and what was written of them says
-- how many there are, and where the first stands.
abbrev pub AreCounted : (manifest scenario : List ℕ) → (old new told-old told-new : Option (List ℕ)) → Type 0
AreCounted manifest scenario old new told-old told-new =
    (trace : Trace) × (steps : List Step) × IsOfManifest manifest trace × Say trace.version (lines_of scenario) steps × IsOfScenario trace.version steps trace.records.items
    × IsPrinted trace old new × AreTold steps trace.records.items told-old told-new

-- why a strict run ended with 1: it was not carried out, and nothing went out; or calls were refused
abbrev pub IsFailed : (manifest scenario : List ℕ) → (old new told-old told-new : Option (List ℕ)) → Type 0
IsFailed manifest scenario old new told-old told-new =
    (Keeps old new × IsRejectedScenario manifest scenario) ⊎ AreCounted manifest scenario old new told-old told-new

abbrev pub IsFailedRun : Plan → (first second : List ℕ) → (old new told-old told-new : Option (List ℕ)) → Type 0
IsFailedRun (Strict workers watch manifest scenario) first second old new told-old told-new = IsFailed first second old new told-old told-new
IsFailedRun plan first second old new told-old told-new = Unit {0}
