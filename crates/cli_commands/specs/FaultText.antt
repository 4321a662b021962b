-- How a fault is printed, and the line that reports it.
use Rattle.std.specs.Prelude.{ℕ, List, ◌++◌, codes, decimal}
use Rattle.bpf_asm.specs.FaultText.{fault_text as asm_fault_text}
use Rattle.bpf_decode.specs.FaultText.{fault_text as decode_fault_text}
use Rattle.cli_text_page.specs.Escaping.{escaped}
use Rattle.manifest.specs.FaultText.{fault_text as manifest_fault_text}
use Rattle.replay.specs.Replaying.{fault_text as replay_fault_text}
use Rattle.trace.specs.FaultText.{fault_text as trace_fault_text}
use Rattle.cli_commands.specs.declared.fault.Fault.{Fault}
use Rattle.cli_commands.specs.declared.fault.Fault.TheVariants as fault

abbrev pub fault_text : Fault → List ℕ
fault_text fault.OutOfMemory = codes "out of memory"
fault_text (fault.File path) = codes "file " ++ escaped path.now
fault_text (fault.Text f) = asm_fault_text f
fault_text (fault.Program f) = decode_fault_text f
fault_text (fault.Manifest f) = manifest_fault_text f
fault_text (fault.Line line) = codes "N1 at " ++ decimal line
fault_text (fault.NotHeld line) = codes "N2 at " ++ decimal line
fault_text (fault.Trace f) = trace_fault_text f
fault_text (fault.Replay f) = replay_fault_text f
fault_text fault.InternalError = codes "unsettled"

-- the line
abbrev pub report_of : Fault → List ℕ
report_of fault = codes "camr: " ++ (fault_text fault ++ codes "\n")
