-- How a fault is printed: its code, and of a program's fault the program's name and that fault.
use Rattle.std.specs.Prelude.{ℕ, List, ◌++◌, codes, string_bytes}
use Rattle.bpf_asm.specs.FaultText.{fault_text as asm_fault_text}
use Rattle.bpf_decode.specs.FaultText.{fault_text as decode_fault_text}
use Rattle.verifier.specs.RefusalText.{refusal_text}
use Rattle.manifest.specs.declared.fault.ManifestFault.{ManifestFault}
use Rattle.manifest.specs.declared.fault.ManifestFault.TheVariants.{Text, Key, Form, Range, Number, Name, Undecoded, Unassembled, Unaccepted, Migrated}

abbrev pub fault_text : ManifestFault → List ℕ
fault_text Text = codes "M1"
fault_text Key = codes "M2"
fault_text Form = codes "M3"
fault_text Range = codes "M4"
fault_text Number = codes "M5"
fault_text Name = codes "M6"
fault_text (Undecoded name fault) = codes "M7 " ++ (string_bytes name ++ (codes " " ++ decode_fault_text fault))
fault_text (Unassembled name fault) = codes "M7 " ++ (string_bytes name ++ (codes " " ++ asm_fault_text fault))
fault_text (Unaccepted name refusal) = codes "M8 " ++ (string_bytes name ++ (codes " " ++ refusal_text refusal))
fault_text Migrated = codes "M9"
