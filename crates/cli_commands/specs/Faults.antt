-- The fault of the program for each fault of its parts, and the status that it ends with.
use Rattle.std.specs.Prelude.{ℕ}
use Rattle.cli_commands.specs.declared.fault.Fault.{Fault}
use Rattle.cli_commands.specs.declared.fault.Fault.TheVariants as fault
use Rattle.bpf_asm.specs.declared.fault.AsmFault.{AsmFault}
use Rattle.bpf_decode.specs.declared.fault.DecodeFault.{DecodeFault}
use Rattle.host_scenario.specs.declared.host.RunFault.{RunFault}
use Rattle.host_scenario.specs.declared.host.RunFault.TheVariants as run
use Rattle.manifest.specs.declared.fault.ManifestFault.{ManifestFault}
use Rattle.base.specs.declared.or_memory.OrMemory.{OrMemory}
use Rattle.base.specs.declared.or_memory.OrMemory.TheVariants as part
use Rattle.replay.specs.declared.fault.ReplayFault.{ReplayFault}
use Rattle.scenario.specs.declared.reading.FaultyLine.{FaultyLine}
use Rattle.trace.specs.declared.fault.TraceFault.{TraceFault}

abbrev pub fault_of_text : OrMemory AsmFault → Fault
fault_of_text part.OutOfMemory = fault.OutOfMemory
fault_of_text (part.Fault f) = fault.Text f

abbrev pub fault_of_program : OrMemory DecodeFault → Fault
fault_of_program part.OutOfMemory = fault.OutOfMemory
fault_of_program (part.Fault f) = fault.Program f

abbrev pub fault_of_manifest : OrMemory ManifestFault → Fault
fault_of_manifest part.OutOfMemory = fault.OutOfMemory
fault_of_manifest (part.Fault f) = fault.Manifest f

abbrev pub fault_of_scenario : OrMemory FaultyLine → Fault
fault_of_scenario part.OutOfMemory = fault.OutOfMemory
fault_of_scenario (part.Fault line) = fault.Line line.0

abbrev pub fault_of_run : RunFault → Fault
fault_of_run run.OutOfMemory = fault.OutOfMemory
fault_of_run (run.NotHeld line) = fault.NotHeld line
fault_of_run run.InternalError = fault.InternalError

abbrev pub fault_of_trace : OrMemory TraceFault → Fault
fault_of_trace part.OutOfMemory = fault.OutOfMemory
fault_of_trace (part.Fault f) = fault.Trace f

abbrev pub fault_of_replay : OrMemory ReplayFault → Fault
fault_of_replay part.OutOfMemory = fault.OutOfMemory
fault_of_replay (part.Fault f) = fault.Replay f

-- 2 for memory, for files and for what cannot be, 1 for what is refused
abbrev pub status_of : Fault → ℕ
status_of fault.OutOfMemory = 2
status_of (fault.File path) = 2
status_of (fault.Text f) = 1
status_of (fault.Program f) = 1
status_of (fault.Manifest f) = 1
status_of (fault.Line line) = 1
status_of (fault.NotHeld line) = 1
status_of (fault.Trace f) = 1
status_of (fault.Replay f) = 1
status_of fault.InternalError = 2
