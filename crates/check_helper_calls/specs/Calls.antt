-- What a helper call makes of the machines that are described, and that none of them is stuck there.
use Rattle.std.specs.Prelude.{◌≡◌, ℕ, ℤ, ◌<◌, ◌≤◌, true, false, List, ◌∷◌, ◌++◌, length, drop, replicate, Some, None, All}
use Rattle.bpf_insn.specs.declared.insn.Callee.TheVariants.{Helper as helper_call}
use Rattle.bpf_insn.specs.declared.insn.Insn.TheVariants.{Call}
use Rattle.bpf_insn.specs.declared.reg.Reg.TheVariants.{R1}
use Rattle.helpers.specs.declared.columns.Change.{Change}
use Rattle.helpers.specs.declared.columns.Change.TheVariants as changes
use Rattle.helpers.specs.declared.columns.Gives.{Gives}
use Rattle.helpers.specs.declared.columns.Gives.TheVariants.{NewFreeze}
use Rattle.helpers.specs.declared.table.Helper.{Helper}
use Rattle.helpers.specs.declared.limits.HelperLimits.{HelperLimits}
use Rattle.helpers.specs.declared.request.Answer.{Answer}
use Rattle.helpers.specs.declared.request.Arguments.{Arguments}
use Rattle.helpers.specs.declared.request.Request.{Request}
use Rattle.helpers.specs.Table.{row_of}
use Rattle.bpf_semantics.specs.declared.bounds.TheConstants.{MAX_HELD}
use Rattle.bpf_semantics.specs.Calls.{arguments_at, obeys, request_by}
use Rattle.bpf_semantics.specs.MachineState.{MachineState, register}
use Rattle.bpf_semantics.specs.Step.{Allowed, IsAnswer, IsGiven, IsNewFreeze, WroteAt, answered, changed_by, request_in}
use Rattle.bpf_semantics.specs.Stuck.{call_is_stuck}
use Rattle.check_description.specs.declared.description.Description.{Description}
use Rattle.check_register_kinds.specs.declared.freeze_name.FreezeName.{FreezeName}
use Rattle.check_register_kinds.specs.declared.kind.Kind.{Kind}
use Rattle.check_register_kinds.specs.declared.kind.Kind.TheVariants.{Unwritten}
use Rattle.check_description.specs.declared.saved.SavedRegisters.{SavedRegisters}
use Rattle.check_helper_calls.specs.Arguments.{IsPlace, IsSureFreeze}
use Rattle.check_description.specs.Description.{Describes, DescribesWith, kind_at}
use Rattle.check_helper_calls.specs.Fresh.{IsFresh}
use Rattle.check_register_kinds.specs.Freezes.{FreezeNumbers, certainty_of}
use Rattle.check_register_kinds.specs.Kinds.{HoldsKind}
use Rattle.bpf_insn.specs.declared.reg.Reg.{Reg}
use Rattle.check_description.specs.Memory.{AreWritten}

abbrev pub CallIsNeverStuck : HelperLimits → ℤ → Description → Type 0
CallIsNeverStuck limits number d = (callers : List SavedRegisters) (m : MachineState) → Describes callers d m → call_is_stuck limits m (request_in m (Call (helper_call number))) ≡ false

-- whatever is answered that may be, what becomes of the machine is described
abbrev pub CallFollows : List SavedRegisters → ℤ → Description → Description → Type 0
CallFollows callers number d there =
    (m m' : MachineState) (request : Request) (answer : Answer) → Describes callers d m → request_in m (Call (helper_call number)) ≡ Some request →
    Allowed request answer m m' → Describes callers there m'

-- the arguments of a call are written, and the call meets the helper's rule
pub record IsLawfulCall (limits : HelperLimits) (m : MachineState) (helper : Helper) : Type 0 where
  pub arguments : Arguments
  pub at : arguments_at m helper ≡ Some arguments
  pub obeys : obeys limits m helper arguments ≡ true

abbrev pub Obeys : HelperLimits → Description → Helper → Type 0
Obeys limits d helper = (callers : List SavedRegisters) (m : MachineState) → Describes callers d m → IsLawfulCall limits m helper

-- what is known where a call may pass, as far as what it changes rests on that
abbrev pub MayChange : FreezeName → Change → Description → Type 0
MayChange name changes.Nothing d = Unit {0}
MayChange name changes.Holds d = (length d.held < MAX_HELD) × (certainty_of d.held name ≡ None)
MayChange name changes.GivesUp d = IsSureFreeze d (kind_at d R1)
MayChange name changes.Disposes d = Unit {0}
MayChange name (changes.Writes bytes) d = IsPlace d bytes (kind_at d R1) × (bytes ≤ 16)

abbrev pub MayPass : Description → FreezeName → Helper → Type 0
MayPass d name helper = MayChange name (row_of helper).machine d

-- What a change rests on: a freeze that is taken is new, by its name and by its number, and what is given up, or where bytes
-- are written, is what R1 holds.
abbrev pub IsChange : FreezeName → List SavedRegisters → Change → MachineState → Arguments → Answer → Type 0
IsChange name callers changes.Nothing m arguments answer = Unit {0}
IsChange name callers changes.Holds m arguments answer = IsFresh name callers × IsNewFreeze m.held answer.r0
IsChange name callers changes.GivesUp m arguments answer = register m R1 ≡ Some arguments.first
IsChange name callers changes.Disposes m arguments answer = Unit {0}
IsChange name callers (changes.Writes bytes) m arguments answer = (register m R1 ≡ Some arguments.first) × WroteAt arguments.first bytes answer.written

-- the name of a freeze that was taken stands for what was answered
abbrev pub IsNamed : FreezeName → Change → ℕ → FreezeNumbers → Type 0
IsNamed name changes.Holds r0 numbers = numbers name ≡ Some r0
IsNamed name change r0 numbers = Unit {0}

pub record IsChanged (name : FreezeName) (callers : List SavedRegisters) (change : Change) (r0 : ℕ) (there : Description) (m : MachineState) : Type 0 where
  pub numbers : FreezeNumbers
  pub describes : DescribesWith numbers callers there m
  pub named : IsNamed name change r0 numbers

-- what a call changes, but for R0 to R5, leaves a machine that is described
abbrev pub Changes : FreezeName → List SavedRegisters → Change → Description → Description → Type 0
Changes name callers change d there =
    (m : MachineState) (arguments : Arguments) (answer : Answer) → Describes callers d m → IsChange name callers change m arguments answer →
    IsChanged name callers change answer.r0 there (changed_by change arguments answer m)

-- the kind holds of what is given, where the name of a freeze that is given stands for that
abbrev pub HoldsGiven : FreezeName → Gives → Kind → Type 0
HoldsGiven name gives kind =
    (numbers : FreezeNumbers) (held : List ℕ) (r0 : ℕ) → IsGiven held gives r0 → (gives ≡ NewFreeze → numbers name ≡ Some r0) → HoldsKind numbers kind (Some r0)

-- The machine after the call is described, whatever the call is answered that it may be. A freeze that is taken gets that
-- name, of which no function that waits has a copy.
abbrev pub Passes : FreezeName → List SavedRegisters → Helper → Description → Description → Type 0
Passes name callers helper d there =
    (m : MachineState) (request : Request) (answer : Answer) → ((row_of helper).machine ≡ changes.Holds → IsFresh name callers) → Describes callers d m →
    request_by m helper ≡ Some request → IsAnswer m request answer → Describes callers there (answered request answer m)

-- the registers after a call
abbrev pub after_call_kinds : List Kind → Kind → List Kind
after_call_kinds registers r0 = r0 ∷ replicate 5 Unwritten ++ drop 6 registers

-- from the address on that a register holds
abbrev pub WritesFrom : Reg → ℕ → Description → Description → Type 0
WritesFrom reg count d there =
    (numbers : FreezeNumbers) (callers : List SavedRegisters) (m : MachineState) (address : ℕ) (bytes : List ℕ) → DescribesWith numbers callers d m → register m reg ≡ Some address →
    length bytes ≡ count → All (λ byte. byte < 256) bytes → AreWritten numbers callers m address bytes there
