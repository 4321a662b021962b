-- What is wrong with two files, by the error that is told of one of them.
use Rattle.std.proofs.Common.{◌≡◌, ℕ, List, Option, Some, None, refl, subst}
use Rattle.std.specs.Prelude.{Err}
use Rattle.manifest.specs.Meaning.{HasFault, Means, Named}
use Rattle.manifest.specs.declared.fault.ManifestFault.{ManifestFault}
use Rattle.world_calls.specs.declared.trace.Trace.{Trace}
use Rattle.world_calls.specs.declared.trace.Version.{Version}
use Rattle.base.specs.declared.or_memory.OrMemory.{OrMemory}
use Rattle.base.specs.declared.or_memory.OrMemory.TheVariants.{OutOfMemory, Fault}
use Rattle.replay.specs.declared.fault.ReplayFault.{ReplayFault}
use Rattle.scenario.specs.Said.{IfFault, IsFaultyLine, Say, lines_of}
use Rattle.scenario.specs.declared.reading.FaultyLine.{FaultyLine}
use Rattle.scenario.specs.Commands.{Step}
use Rattle.host_scenario.specs.Faults.{IsOfRun}
use Rattle.host_scenario.specs.declared.host.RunFault.{RunFault}
use Rattle.host_scenario.specs.declared.host.RunFault.TheVariants as run
use Rattle.world_calls.specs.declared.carried_line.CarriedLine.{CarriedLine}
use Rattle.whole_trace.specs.WholeText.{AreOrdered, SaysWhole, whole_text}
use Rattle.trace.specs.declared.fault.TraceFault.{TraceFault}
use Rattle.world.specs.World.{Setup, version_of}
use Rattle.cli_commands.specs.Faults.{fault_of_manifest, fault_of_replay, fault_of_run, fault_of_scenario, fault_of_trace, status_of}
use Rattle.cli_commands.specs.Told.{FollowsWhole, IsScenario, IsScenarioFault, IsTraceFault}
use Rattle.cli_commands.proofs.Telling.{IsTold}

pub of_manifest_beside_trace : (error : OrMemory ManifestFault) (read manifest text : List ℕ) → IsTold (HasFault read) error → read ≡ manifest
    → status_of (fault_of_manifest error) ≡ 1 → IsTraceFault manifest text (fault_of_manifest error)
of_manifest_beside_trace OutOfMemory read manifest text told same refused = absurd cc
of_manifest_beside_trace (Fault fault) read manifest text told same refused = subst (λ (bytes : List ℕ). HasFault bytes fault) same told

pub of_manifest_beside_scenario : (error : OrMemory ManifestFault) (read manifest text : List ℕ) → IsTold (HasFault read) error → read ≡ manifest
    → status_of (fault_of_manifest error) ≡ 1 → IsScenarioFault manifest text (fault_of_manifest error)
of_manifest_beside_scenario OutOfMemory read manifest text told same refused = absurd cc
of_manifest_beside_scenario (Fault fault) read manifest text told same refused = subst (λ (bytes : List ℕ). HasFault bytes fault) same told

pub of_trace : (error : OrMemory TraceFault) (one read manifest text : List ℕ) (setup : Setup) (programs : List Named) → SaysWhole read (Err error) → Means one setup programs → one ≡ manifest → read ≡ text
    → status_of (fault_of_trace error) ≡ 1 → IsTraceFault manifest text (fault_of_trace error)
of_trace OutOfMemory one read manifest text setup programs told means so same refused = absurd cc
of_trace (Fault fault) one read manifest text setup programs told means so same refused =
    ((setup, programs, subst (λ (bytes : List ℕ). Means bytes setup programs) so means), subst (λ (bytes : List ℕ). SaysWhole bytes (Err (Fault fault))) same told)

pub of_replay : (error : OrMemory ReplayFault) (one other manifest text : List ℕ) (setup : Setup) (programs : List Named) (carried : Option (List CarriedLine)) (trace : Trace)
    → FollowsWhole setup carried trace (Err error) → Means one setup programs → whole_text carried trace ≡ Some other → AreOrdered carried → one ≡ manifest → other ≡ text
    → status_of (fault_of_replay error) ≡ 1 → IsTraceFault manifest text (fault_of_replay error)
of_replay OutOfMemory one other manifest text setup programs carried trace told means written ordered same too refused = absurd cc
of_replay (Fault fault) one other manifest text setup programs None trace told means written ordered same too refused =
    (setup, programs, None, trace, subst (λ (bytes : List ℕ). Means bytes setup programs) same means, rw (← too) written, ordered, told)
of_replay (Fault fault) one other manifest text setup programs (Some lines) trace told means written ordered same too refused =
    (setup, programs, Some lines, trace, subst (λ (bytes : List ℕ). Means bytes setup programs) same means, rw (← too) written, ordered, told)

pub of_scenario : (error : OrMemory FaultyLine) (one read manifest text : List ℕ) (setup : Setup) (programs : List Named) → IfFault (IsFaultyLine (version_of setup) read) error → Means one setup programs → one ≡ manifest → read ≡ text
    → status_of (fault_of_scenario error) ≡ 1 → IsScenarioFault manifest text (fault_of_scenario error)
of_scenario OutOfMemory one read manifest text setup programs told means so same refused = absurd cc
of_scenario (Fault fault) one read manifest text setup programs told means so same refused =
    (setup, programs, subst (λ (bytes : List ℕ). Means bytes setup programs) so means, subst (λ (bytes : List ℕ). IsFaultyLine (version_of setup) bytes fault.0) same told)

pub of_run : (error : RunFault) (one read manifest text : List ℕ) (setup : Setup) (programs : List Named) (steps : List Step) → IsOfRun setup steps error → Means one setup programs → one ≡ manifest → Say (version_of setup) (lines_of read) steps → read ≡ text
    → status_of (fault_of_run error) ≡ 1 → IsScenarioFault manifest text (fault_of_run error)
of_run run.OutOfMemory one read manifest text setup programs steps told means so say same refused = absurd cc
of_run (run.NotHeld line) one read manifest text setup programs steps told means so say same refused =
    (setup, programs, steps, subst (λ (bytes : List ℕ). Means bytes setup programs) so means, subst (λ (bytes : List ℕ). Say (version_of setup) (lines_of bytes) steps) same say, told line refl)
of_run run.InternalError one read manifest text setup programs steps told means so say same refused = absurd cc

-- a scenario that was read says what its file does
pub said_by : (read text : List ℕ) (steps : List Step) (one other : Version) → one ≡ other → Say one (lines_of read) steps → read ≡ text → Say other (lines_of text) steps
said_by read text steps one other version say same = subst (λ (v : Version). Say v (lines_of text) steps) version (subst (λ (bytes : List ℕ). Say one (lines_of bytes) steps) same say)

pub scenario_read : (one read manifest text : List ℕ) (setup : Setup) (programs : List Named) (steps : List Step) (version : Version) → version ≡ version_of setup → Means one setup programs → one ≡ manifest → Say version (lines_of read) steps → read ≡ text
    → IsScenario manifest text
scenario_read one read manifest text setup programs steps version is means so say same =
    (setup, programs, steps, subst (λ (bytes : List ℕ). Means bytes setup programs) so means, said_by read text steps version (version_of setup) is say same)

-- what was read is what the files say
pub read_so : (one other manifest text : List ℕ) (setup : Setup) (programs : List Named) (carried : Option (List CarriedLine)) (trace : Trace) → Means one setup programs → whole_text carried trace ≡ Some other → one ≡ manifest → other ≡ text
    → Means manifest setup programs × (whole_text carried trace ≡ Some text)
read_so one other manifest text setup programs carried trace means written same too = (subst (λ (bytes : List ℕ). Means bytes setup programs) same means, rw (← too) written)
