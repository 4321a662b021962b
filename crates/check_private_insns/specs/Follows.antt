-- What an instruction makes of the machines that are described: what becomes of those that go one way is described again.
use Rattle.std.specs.Prelude.{◌≡◌, ℕ, Bool, true, false, List, Option, Some, None, ◌⊎◌}
use Rattle.bpf_insn.specs.declared.insn.Condition.{Condition}
use Rattle.bpf_insn.specs.declared.insn.Insn.{Insn}
use Rattle.bpf_insn.specs.declared.insn.Insn.TheVariants.{Alu, InPlace, SignExtend, JumpIf, Jump, LoadImmediate, Load, Store, Call, Exit}
use Rattle.bpf_insn.specs.declared.insn.Width.{Width}
use Rattle.helpers.specs.declared.request.Answer.{Answer}
use Rattle.helpers.specs.declared.request.Request.{Request}
use Rattle.bpf_semantics.specs.MachineState.{MachineState, register}
use Rattle.bpf_semantics.specs.Step.{Allowed, does, operand, request_in}
use Rattle.bpf_words.specs.Words.{holds_of}
use Rattle.check_description.specs.declared.description.Description.{Description}
use Rattle.check_private_insns.specs.declared.way.Way.{Way}
use Rattle.check_private_insns.specs.declared.way.Way.TheVariants.{FallThrough, Taken}
use Rattle.check_description.specs.declared.saved.SavedRegisters.{SavedRegisters}
use Rattle.check_description.specs.Description.{Describes}

-- the condition of a jump holds
abbrev pub jumps_if : Width → Condition → Option ℕ → Option ℕ → Bool
jumps_if width condition (Some a) (Some b) = holds_of width condition a b
jumps_if width condition (Some a) None = false
jumps_if width condition None b = false

-- the machine jumps by the instruction
abbrev pub jumps : MachineState → Insn → Bool
jumps m (Alu width op dst src) = false
jumps m (InPlace op dst) = false
jumps m (SignExtend extension dst src) = false
jumps m (JumpIf width condition dst src offset) = jumps_if width condition (register m dst) (operand m src)
jumps m (Jump distance) = true
jumps m (LoadImmediate dst value) = false
jumps m (Load form dst src offset) = false
jumps m (Store size dst src offset) = false
jumps m (Call callee) = false
jumps m Exit = false

abbrev pub GoesBy : MachineState → Insn → Way → Type 0
GoesBy m insn FallThrough = jumps m insn ≡ false
GoesBy m insn Taken = jumps m insn ≡ true

-- one instruction on: a private one, or a helper call with any answer that it may get
abbrev pub StepsBy : MachineState → Insn → MachineState → Type 0
StepsBy m insn m' =
    (does m insn ≡ Some m')
    ⊎ ((request : Request) × (answer : Answer) × (request_in m insn ≡ Some request) × Allowed request answer m m')

-- Where a machine that is described goes this way, the way is open, and what becomes of the machine is described.
abbrev pub Follows : List SavedRegisters → Insn → Way → Description → Bool → Description → Type 0
Follows callers insn way d is_open there =
    (m m' : MachineState) → Describes callers d m → GoesBy m insn way → StepsBy m insn m' → (is_open ≡ true) × Describes callers there m'
