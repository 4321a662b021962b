-- The functions of a program and its local calls (RFC 9669, section 4.3.2).
use Rattle.std.specs.Prelude.{◌≡◌, ℕ, zero, suc, ◌<◌, Bool, true, false, ◌&&◌, ◌||◌, ◌==◌, List, length, Option, Some, None, is_some, slice_get, if◌then◌else◌}
use Rattle.std.specs.Option.{option_and_then, option_map_or}
use Rattle.bpf_insn.specs.declared.insn.Insn.{Insn}
use Rattle.bpf_insn.specs.declared.insn.Insn.TheVariants.{Alu, InPlace, SignExtend, JumpIf, Jump, LoadImmediate, Load, Store, Call, Exit}
use Rattle.bpf_insn.specs.declared.insn.Callee.TheVariants.{Helper, Local}
use Rattle.bpf_insn.specs.declared.program.Slot.{Slot}
use Rattle.bpf_insn.specs.Program.{insn_at}
use Rattle.bpf_insn.specs.Target.{target}

-- where the instruction at a place leads as a local call, if it is one
abbrev pub callee_in : ℕ → Insn → Option ℕ
callee_in place (Call (Local distance)) = Some (target place distance)
callee_in place (Call (Helper number)) = None
callee_in place (Alu width op dst src) = None
callee_in place (InPlace op dst) = None
callee_in place (SignExtend extension dst src) = None
callee_in place (JumpIf width condition dst src offset) = None
callee_in place (Jump distance) = None
callee_in place (LoadImmediate dst value) = None
callee_in place (Load form dst src offset) = None
callee_in place (Store size dst src offset) = None
callee_in place Exit = None

abbrev pub callee_at : List Slot → ℕ → Option ℕ
callee_at program place = option_and_then (callee_in place) (insn_at program place)

-- an instruction begins in the slot
abbrev pub begins : List Slot → ℕ → Bool
begins program slot = is_some (insn_at program slot)

-- one of the first n slots has a local call that leads to the slot
abbrev pub is_called_in : List Slot → ℕ → ℕ → Bool
is_called_in program zero slot = false
is_called_in program (suc n) slot = option_map_or (λ to. to == slot) (callee_at program n) false || is_called_in program n slot

-- A function starts at slot 0, and at each slot where an instruction begins and to which a local call leads.
abbrev pub is_start : List Slot → ℕ → Bool
is_start program slot = slot == 0 || (begins program slot && is_called_in program (length program) slot)

-- the function of a slot: the nearest start at or before it, up to which the function is named
abbrev pub function_of : List Slot → ℕ → ℕ
function_of program zero = 0
function_of program (suc slot) = if is_start program (suc slot) then suc slot else function_of program slot

-- a function calls another one
pub record Calls (program : List Slot) (caller callee : ℕ) : Type 0 where
  pub place : ℕ
  pub leads : callee_at program place ≡ Some callee
  pub from : function_of program place ≡ caller

-- one function comes to another by so many calls
abbrev pub CallsThrough : List Slot → ℕ → ℕ → ℕ → Type 0
CallsThrough program zero from to = from ≡ to
CallsThrough program (suc n) from to = (next : ℕ) × Calls program from next × CallsThrough program n next to

-- the local call at a place lies on a cycle: what it calls comes back to its function
pub record IsOnCycle (program : List Slot) (place : ℕ) : Type 0 where
  pub callee : ℕ
  pub leads : callee_at program place ≡ Some callee
  pub calls : ℕ
  pub back : CallsThrough program calls callee (function_of program place)

-- a slot stands among the first n of a list
pub record StandsBefore (order : List ℕ) (n slot : ℕ) : Type 0 where
  pub index : ℕ
  pub before : index < n
  pub there : slice_get order index ≡ Some slot

-- All functions in an order in which each stands after those that it calls. So no chain of calls comes back.
pub record IsCallingOrder (program : List Slot) (order : List ℕ) : Type 0 where
  pub starts : (i slot : ℕ) → slice_get order i ≡ Some slot → is_start program slot ≡ true
  pub all : (slot : ℕ) → slot < length program → is_start program slot ≡ true → StandsBefore order (length order) slot
  pub callees_first : (i place callee : ℕ) → slice_get order i ≡ Some (function_of program place) → callee_at program place ≡ Some callee → StandsBefore order i callee
