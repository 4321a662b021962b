-- What is known at the entry holds of each run's first machine.
use Rattle.std.proofs.Common.{◌≡◌, ℕ, List, [], ◌∷◌, length, Option, None, refl, subst, sym, arith}
use Rattle.std.specs.Prelude.{false}
use Rattle.std.proofs.lemmas.List.{length-replicate}
use Rattle.bpf_insn.specs.declared.reg.Reg.TheVariants.{R0, R1, R2, R3, R4, R5, R6, R7, R8, R9, R10}
use Rattle.bpf_semantics.specs.MachineState.{MachineState, context_address, entry, frame_pointer, unwritten_frame}
use Rattle.bpf_semantics.specs.Reached.{IsEntry}
use Rattle.stack_domain.specs.Numbers.{AreStanding}
use Rattle.stack_domain.specs.Stack.{MarksCover as CoversFrames}
use Rattle.check_description.specs.declared.description.Description.{Description}
use Rattle.check_register_kinds.specs.declared.freeze_name.FreezeName.TheVariants as names
use Rattle.check_register_kinds.specs.declared.held.HeldFreeze.{HeldFreeze}
use Rattle.check_register_kinds.specs.declared.kind.Kind.{Kind}
use Rattle.check_register_kinds.specs.declared.kind.Kind.TheVariants.{Unwritten, Address, Freeze}
use Rattle.check_register_kinds.specs.declared.region.Region.TheVariants.{Context, Frame}
use Rattle.reg_domain.specs.AllRegisters.{HoldAtEntry}
use Rattle.check_description.specs.Description.{Describes, IsStillLoaded}
use Rattle.check_description.specs.Spills.{AreSpilled}
use Rattle.check_register_kinds.specs.Freezes.{AreHeld, numbers_at_start, open_freeze}
use Rattle.check_register_kinds.proofs.Freezes.{held_at_start}
use Rattle.check_description.proofs.NoBytes.{no_byte}

abbrev entry_kinds : List Kind
entry_kinds = Unwritten ∷ Address Context (record { least = 0; most = 0 }) ∷ Freeze names.Start ∷ Unwritten ∷ Unwritten ∷ Unwritten ∷ Unwritten ∷ Unwritten ∷ Unwritten ∷ Unwritten ∷ Address (Frame 0) (record { least = 512; most = 512 }) ∷ []

pub hold_at_entry : HoldAtEntry entry_kinds
hold_at_entry context freeze R0 = tt
hold_at_entry context freeze R1 = (context_address, refl, (0, refl, omega arith, omega arith, omega arith))
hold_at_entry context freeze R2 = (freeze, refl, refl)
hold_at_entry context freeze R3 = tt
hold_at_entry context freeze R4 = tt
hold_at_entry context freeze R5 = tt
hold_at_entry context freeze R6 = tt
hold_at_entry context freeze R7 = tt
hold_at_entry context freeze R8 = tt
hold_at_entry context freeze R9 = tt
hold_at_entry context freeze R10 = (frame_pointer 0, refl, (512, refl, omega arith, omega arith, omega arith))

pub describes_entry : (d : Description) → HoldAtEntry d.registers → ((frame : List (Option ℕ)) → length frame ≡ 512 → CoversFrames d.stack (frame ∷ [])) → d.spills ≡ [] → d.numbers ≡ [] → d.loaded ≡ None → d.held ≡ open_freeze names.Start ∷ [] → d.disposed ≡ false → (m : MachineState) → IsEntry m → Describes [] d m
describes_entry d hold covers spilled unkept unloaded held disposed m is = subst (Describes [] d) (sym is.is) (
  numbers_at_start is.freeze,
  record {
    registers = hold is.context is.freeze;
    count = refl;
    frames = covers unwritten_frame (length-replicate {A = Option ℕ} 512 None);
    spills = subst (λ spills. AreSpilled (numbers_at_start is.freeze) spills (unwritten_frame ∷ [])) (sym spilled) (λ frame word few. tt);
    standing = subst (AreStanding (unwritten_frame ∷ [])) (sym unkept) (λ slot. tt);
    loaded = subst (IsStillLoaded _ _) (sym unloaded) tt;
    bytes = no_byte;
    context = is.bytes;
    held = subst (λ (l : List HeldFreeze). AreHeld (numbers_at_start is.freeze) l (entry is.context is.freeze).held) (sym held) (held_at_start is.freeze is.number);
    disposal = sym disposed;
    calls = refl;
    depth = refl;
  },
)
