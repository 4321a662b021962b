-- A private instruction changes neither what the run holds nor whether its CCB is disposed of.
use Rattle.std.proofs.Common.{◌≡◌, ℕ, ℤ, ◌+◌, Bool, true, false, List, [], ◌∷◌, Option, Some, None, refl, ap, sym, ◌∙◌}
use Rattle.std.specs.Prelude.{if◌then◌else◌}
use Rattle.std.specs.Option.{option_map, option_and_then}
use Rattle.bpf_insn.specs.declared.insn.Insn.{Insn}
use Rattle.bpf_insn.specs.declared.insn.Insn.TheVariants.{Alu, InPlace, SignExtend, JumpIf, Jump, LoadImmediate, Load, Store, Call, Exit}
use Rattle.bpf_insn.specs.declared.insn.Callee.TheVariants.{Helper, Local}
use Rattle.bpf_insn.specs.declared.insn.Width.{Width}
use Rattle.bpf_insn.specs.declared.insn.AluOp.{AluOp}
use Rattle.bpf_insn.specs.declared.insn.Condition.{Condition}
use Rattle.bpf_insn.specs.declared.insn.StoreSize.{StoreSize}
use Rattle.bpf_insn.specs.declared.reg.Reg.{Reg}
use Rattle.bpf_insn.specs.declared.program.Slot.{Slot}
use Rattle.bpf_insn.specs.Program.{insn_at}
use Rattle.bpf_semantics.specs.MachineState.{OpenCall, MachineState, register, moved_to}
use Rattle.bpf_semantics.specs.Memory.{address_of, load_width, loaded, word_from}
use Rattle.bpf_words.specs.Words.{in_place, sign_extended}
use Rattle.bpf_semantics.specs.Step.{entered, has_frame_left, compute, compute_one, first_operand, operand, jump_if, store, returned, does, private_step}

-- what one machine has of another
pub record HasTheSame (before after : MachineState) : Type 0 where
  pub held : after.held ≡ before.held
  pub disposed : after.disposed ≡ before.disposed

some_same : (before made after : MachineState) → Some made ≡ Some after → HasTheSame before made → HasTheSame before after
some_same before made after e same =
    let is : made ≡ after = cc in
    record { held = sym (ap (λ (m : MachineState). m.held) is) ∙ same.held; disposed = sym (ap (λ (m : MachineState). m.disposed) is) ∙ same.disposed }

computed : (m : MachineState) (width : Width) (op : AluOp) (dst : Reg) (first second : Option ℕ) (after : MachineState) → compute m width op dst first second ≡ Some after → HasTheSame m after
computed m width op dst (Some a) (Some b) after e = some_same m _ after e (record { held = refl; disposed = refl })
computed m width op dst (Some a) None after e = absurd cc
computed m width op dst None b after e = absurd cc

computed_one : (m : MachineState) (dst : Reg) (f : ℕ → ℕ) (word : Option ℕ) (after : MachineState) → compute_one m dst f word ≡ Some after → HasTheSame m after
computed_one m dst f (Some a) after e = some_same m _ after e (record { held = refl; disposed = refl })
computed_one m dst f None after e = absurd cc

jumped : (m : MachineState) (width : Width) (condition : Condition) (offset : ℤ) (first second : Option ℕ) (after : MachineState) → jump_if m width condition offset first second ≡ Some after → HasTheSame m after
jumped m width condition offset (Some a) (Some b) after e = some_same m _ after e (record { held = refl; disposed = refl })
jumped m width condition offset (Some a) None after e = absurd cc
jumped m width condition offset None b after e = absurd cc

wrote : (m : MachineState) (frames : Option (List (List (Option ℕ)))) (after : MachineState) → option_map (λ next. moved_to next (m.pc + 1)) (option_map (λ fs. record m { frames = fs }) frames) ≡ Some after → HasTheSame m after
wrote m (Some frames) after e = some_same m _ after e (record { held = refl; disposed = refl })
wrote m None after e = absurd cc

stored : (m : MachineState) (size : StoreSize) (address word : Option ℕ) (after : MachineState) → store m size address word ≡ Some after → HasTheSame m after
stored m size (Some address) (Some word) after e = wrote m _ after e
stored m size (Some address) None after e = absurd cc
stored m size None word after e = absurd cc

came_back : (m : MachineState) (calls : List OpenCall) (after : MachineState) → returned m calls ≡ Some after → HasTheSame m after
came_back m [] after e = absurd cc
came_back m (call ∷ calls) after e = some_same m _ after e (record { held = refl; disposed = refl })

went_in : (m : MachineState) (distance : ℤ) (left : Bool) (after : MachineState) → (if left then Some (entered m distance) else None) ≡ Some after → HasTheSame m after
went_in m distance true after e = some_same m _ after e (record { held = refl; disposed = refl })
went_in m distance false after e = absurd cc

did : (m : MachineState) (insn : Insn) (after : MachineState) → does m insn ≡ Some after → HasTheSame m after
did m (Alu width op dst src) after e = computed m width op dst (first_operand m op dst) (operand m src) after e
did m (InPlace op dst) after e = computed_one m dst (in_place op) (register m dst) after e
did m (SignExtend extension dst src) after e = computed_one m dst (sign_extended extension) (register m src) after e
did m (JumpIf width condition dst src offset) after e = jumped m width condition offset (register m dst) (operand m src) after e
did m (Jump distance) after e = some_same m _ after e (record { held = refl; disposed = refl })
did m (LoadImmediate dst value) after e = some_same m _ after e (record { held = refl; disposed = refl })
did m (Load form dst src offset) after e = computed_one m dst (loaded form) (option_and_then (word_from (load_width form) m) (address_of m src offset)) after e
did m (Store size dst src offset) after e = stored m size (address_of m dst offset) (operand m src) after e
did m (Call (Local distance)) after e = went_in m distance (has_frame_left m) after e
did m (Call (Helper number)) after e = absurd cc
did m Exit after e = came_back m m.open_calls after e

found : (m : MachineState) (o : Option Insn) (after : MachineState) → option_and_then (does m) o ≡ Some after → HasTheSame m after
found m None after e = absurd cc
found m (Some insn) after e = did m insn after e

pub private_keeps : (program : List Slot) (m after : MachineState) → private_step program m ≡ Some after → HasTheSame m after
private_keeps program m after e = found m (insn_at program m.pc) after e
