-- What can be read where a machine is described.
use Rattle.std.proofs.Common.{◌≡◌, ℕ, ◌+◌, Bool, true, false, refl, ap, ◌∙◌, arith, ◌-◌, ◌<◌, ◌≤◌, List, Option, length, take, drop, sym, subst, length-drop}
use Rattle.std.specs.Prelude.{◌&&◌, nat_le}
use Rattle.std.proofs.lemmas.Bool.{lt-leb, and_from, cond-true, cond-false, le-leb}
use Rattle.bpf_semantics.specs.MachineState.{context_address, MachineState}
use Rattle.bpf_semantics.specs.Frames.{frame_start}
use Rattle.bpf_semantics.specs.Memory.{in_context}
use Rattle.std.proofs.lemmas.List.{length-take}
use Rattle.stack_domain.specs.Stack.{MarksCover as CoversFrames, AreWritten}
use Rattle.check_description.specs.declared.description.Description.{Description}
use Rattle.check_register_kinds.specs.declared.region.Offsets.{Offsets}
use Rattle.check_register_kinds.specs.declared.region.Region.TheVariants.{Context, Frame}
use Rattle.check_description.specs.declared.saved.SavedRegisters.{SavedRegisters}
use Rattle.check_description.specs.Description.{DescribesWith}
use Rattle.check_register_kinds.specs.Freezes.{FreezeNumbers}
use Rattle.check_register_kinds.specs.Kinds.{LiesAt}
use Rattle.check_private_insns.specs.Memory.{AreThere}
use Rattle.check_description.proofs.Reading.{in_part, in_frame}

-- such bytes do not lie in the context
pub not_in_context : (k address offset bytes : ℕ) → address ≡ frame_start k + offset → in_context address bytes ≡ false
not_in_context k address offset bytes at =
    ap (λ (b : Bool). nat_le context_address address && b) (lt-leb (address + bytes) (context_address + 96) (omega (arith, at))) ∙ and_no (nat_le context_address address)
  where
    and_no : (b : Bool) → (b && false) ≡ false
    and_no true = refl
    and_no false = refl

pub context_read : (numbers : FreezeNumbers) (callers : List SavedRegisters) (d : Description) (m : MachineState) (offsets : Offsets) (address bytes : ℕ) → DescribesWith numbers callers d m → LiesAt Context offsets address → offsets.most + bytes ≤ 96 → AreThere m address bytes
context_read numbers callers d m offsets address bytes is lies fits =
    let inside : in_context address bytes ≡ true = and_from _ _ (le-leb context_address address (omega (arith, lies.1))) (le-leb (address + bytes) (context_address + 96) (omega (arith, lies.1, lies.3, fits))) in
    let offset : ℕ = address - context_address in
    record {
      found = take bytes (drop offset m.context);
      are = cond-true (in_context address bytes) _ _ inside;
      each = λ k byte lt.
          let short = length-take bytes (drop offset m.context) in
          subst (λ (b : ℕ). b < 256) (sym (in_part m.context bytes offset k byte lt)) (is.context.1 (offset + k) byte (omega (arith, lt, short, length-drop offset m.context)));
    }

pub frame_read : (numbers : FreezeNumbers) (callers : List SavedRegisters) (d : Description) (m : MachineState) (frame : ℕ) (offsets : Offsets) (address bytes : ℕ) → DescribesWith numbers callers d m → frame < length d.stack → LiesAt (Frame frame) offsets address → offsets.most + bytes ≤ 512
    → ((frames : List (List (Option ℕ))) → CoversFrames d.stack frames → AreWritten frames frame offsets.least (offsets.most + bytes)) → AreThere m address bytes
frame_read numbers callers d m frame offsets address bytes is live lies fits written =
    let there = in_frame numbers callers d m frame offsets address bytes is live lies fits written in
    record {
      found = there.found;
      are = cond-false (in_context address bytes) _ _ (not_in_context frame address lies.0 bytes lies.1) ∙ there.are;
      each = there.each;
    }
