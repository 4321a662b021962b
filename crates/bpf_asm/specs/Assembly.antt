-- Which program a text says, and which fault is named of a text that says none.
use Rattle.std.specs.Prelude.{◌≡◌, ℕ, suc, ◌+◌, Bool, false, nat_lt, List, [], ◌∷◌, ◌++◌, Option, Some, None, Result, Ok, Err, bytes_eq, codes, option_to_list, if◌then◌else◌}
use Rattle.std.specs.List.{list_all}
use Rattle.bpf_insn.specs.declared.insn.Insn.{Insn}
use Rattle.bpf_insn.specs.declared.program.Slot.{Slot}
use Rattle.bpf_insn.specs.Program.{IsProgramOf, IsProgramLength, layout}
use Rattle.bpf_asm.specs.declared.fault.LineFault.{LineFault}
use Rattle.bpf_asm.specs.declared.fault.LineFault.TheVariants.{NoToken, NoMnemonic, WrongForm, LabelDefinedBefore}
use Rattle.bpf_asm.specs.declared.fault.AsmFault.{AsmFault}
use Rattle.bpf_asm.specs.declared.fault.AsmFault.TheVariants.{At, NoProgram}
use Rattle.bpf_asm.specs.declared.labels.Label.{Label}
use Rattle.bpf_asm.specs.declared.mnemonic.Mnemonic.{Mnemonic}
use Rattle.bpf_asm.specs.Lexemes.{lines, lexemes}
use Rattle.bpf_asm.specs.Numbers.{is_name, is_token}
use Rattle.bpf_asm.specs.Mnemonics.{mnemonic_of}
use Rattle.bpf_asm.specs.Reading.{◌>>=◌, unless_faulty, first_in, mark_in, ended}
use Rattle.bpf_asm.specs.Forms.{insn_in}

-- the name that a label line defines: a name and `:` alone
unfoldable pub label_in : List (List ℕ) → Option (List ℕ)
label_in words = first_in words >>= λ name. mark_in 58 name.1 >>= λ rest. if is_name name.0 then ended name.0 rest else None

-- how many slots a line takes that is no label line, by its first lexeme; the rest of it may be faulty
abbrev pub slots_by : Option (List ℕ × List (List ℕ)) → ℕ
slots_by None = 0
slots_by (Some word) = if bytes_eq word.0 (codes "lddw") then 2 else 1

abbrev pub slots_unless_label : Option (List ℕ) → List (List ℕ) → ℕ
slots_unless_label (Some name) words = 0
slots_unless_label None words = slots_by (first_in words)

-- how many slots a line takes: none where it defines a label
unfoldable pub slots_in : List (List ℕ) → ℕ
slots_in words = slots_unless_label (label_in words) words

abbrev pub is_named : List ℕ → Option (List ℕ) → Bool
is_named name None = false
is_named name (Some other) = bytes_eq name other

-- Where a label is defined: the first line that does, and the slot of the next instruction. The lines begin at this line and slot.
unfoldable pub defined_in : ℕ → ℕ → List (List ℕ) → List ℕ → Option Label
defined_in line slot [] name = None
defined_in line slot (text ∷ texts) name =
    if is_named name (label_in (lexemes text)) then Some (record { line = line; slot = slot })
    else defined_in (suc line) (slot + slots_in (lexemes text)) texts name

-- the label was defined on an earlier line
abbrev pub is_before : ℕ → Option Label → Bool
is_before line None = false
is_before line (Some label) = nat_lt label.line line

-- what an instruction line says, by what follows its mnemonic, by its mnemonic, and by its first lexeme
abbrev pub of_form : Option (Result Insn LineFault) → Result (Option Insn) LineFault
of_form None = Err WrongForm
of_form (Some insn) = unless_faulty insn (λ i. Ok (Some i))

abbrev pub by_mnemonic : (List ℕ → Option Label) → ℕ → Option Mnemonic → List (List ℕ) → Result (Option Insn) LineFault
by_mnemonic labels slot None words = Err NoMnemonic
by_mnemonic labels slot (Some mnemonic) words = of_form (insn_in labels (suc slot) mnemonic words)

abbrev pub unless_empty : (List ℕ → Option Label) → ℕ → Option (List ℕ × List (List ℕ)) → Result (Option Insn) LineFault
unless_empty labels slot None = Ok None
unless_empty labels slot (Some word) = by_mnemonic labels slot (mnemonic_of word.0) word.1

-- what a line says, by the label that it defines: nothing, if it does so first
abbrev pub unless_label : (List ℕ → Option Label) → ℕ → ℕ → Option (List ℕ) → List (List ℕ) → Result (Option Insn) LineFault
unless_label labels line slot (Some name) words = if is_before line (labels name) then Err LabelDefinedBefore else Ok None
unless_label labels line slot None words = unless_empty labels slot (first_in words)

-- What a line says that begins at this slot: no instruction or one, or its lowest fault.
unfoldable pub said_by : (List ℕ → Option Label) → ℕ → ℕ → List (List ℕ) → Result (Option Insn) LineFault
said_by labels line slot words =
    if list_all is_token words then unless_label labels line slot (label_in words) words else Err NoToken

abbrev pub at_line : {A : Type 0} → ℕ → Result A LineFault → Result A AsmFault
at_line line (Ok x) = Ok x
at_line line (Err fault) = Err (At line fault)

-- what lines say one after the other, or the fault of the first faulty one
unfoldable pub said_in : (List ℕ → Option Label) → ℕ → ℕ → List (List ℕ) → Result (List Insn) AsmFault
said_in labels line slot [] = Ok []
said_in labels line slot (text ∷ texts) =
    unless_faulty (at_line line (said_by labels line slot (lexemes text))) (λ insn.
    unless_faulty (said_in labels (suc line) (slot + slots_in (lexemes text)) texts) (λ insns.
    Ok (option_to_list insn ++ insns)))

-- the instructions of a text, or the fault of its first faulty line; lines are numbered from 1
unfoldable pub said : List ℕ → Result (List Insn) AsmFault
said text = said_in (defined_in 1 0 (lines text)) 1 0 (lines text)

-- The text says the program: no line is faulty, and the program is that of its instructions.
abbrev pub Says : List ℕ → List Slot → Type 0
Says text program = (insns : List Insn) × (said text ≡ Ok insns) × IsProgramOf insns program

-- The fault of a text: that of its first faulty line, or, where no line is faulty, that its instructions take no slot, or too many.
abbrev pub HasFault : List ℕ → AsmFault → Type 0
HasFault text (At line fault) = said text ≡ Err (At line fault)
HasFault text NoProgram = (insns : List Insn) × (said text ≡ Ok insns) × ¬ IsProgramLength (layout insns)
