-- Programs with a fault of their shape, worked out by hand.
use Rattle.std.proofs.Common.{◌≡◌, true, [], ◌∷◌, refl}
use Rattle.std.specs.Prelude.{pos, negsuc}
use Rattle.bpf_insn.specs.declared.insn.Insn.{Insn}
use Rattle.bpf_insn.specs.declared.insn.Insn.TheVariants.{Alu, Jump, LoadImmediate, Call, Exit}
use Rattle.bpf_insn.specs.declared.insn.AluOp.TheVariants.{Mov}
use Rattle.bpf_insn.specs.declared.insn.Callee.TheVariants.{Local}
use Rattle.bpf_insn.specs.declared.insn.Distance.TheVariants.{Near}
use Rattle.bpf_insn.specs.declared.insn.Operand.TheVariants.{Immediate}
use Rattle.bpf_insn.specs.declared.insn.Width.TheVariants.{Bits64}
use Rattle.bpf_insn.specs.declared.reg.Reg.TheVariants.{R0, R3}
use Rattle.bpf_insn.specs.Program.{layout}
use Rattle.call_shape.specs.Calls.{IsOnCycle}
use Rattle.call_shape.specs.Shape.{is_open_end, is_outside, is_split, is_backward, is_lost_call, is_leaving}

abbrev answer : Insn
answer = Alu Bits64 Mov R0 (Immediate (pos 0))

-- nothing after the last instruction
runs_out : is_open_end (layout (answer ∷ [])) 0 ≡ true
runs_out = refl

-- a function that would go on in the next one
runs_on : is_open_end (layout (Call (Local (pos 1)) ∷ answer ∷ Exit ∷ [])) 1 ≡ true
runs_on = refl

behind_the_end : is_outside (layout (Jump (Near (pos 1)) ∷ Exit ∷ [])) 0 ≡ true
behind_the_end = refl

into_second_slot : is_split (layout (Jump (Near (pos 1)) ∷ LoadImmediate R3 7 ∷ Exit ∷ [])) 0 ≡ true
into_second_slot = refl

to_itself : is_backward (layout (Jump (Near (negsuc 0)) ∷ [])) 0 ≡ true
to_itself = refl

called_nowhere : is_lost_call (layout (Call (Local (pos 1)) ∷ Exit ∷ [])) 0 ≡ true
called_nowhere = refl

-- a jump from the first function to the start of the second one
into_another : is_leaving (layout (Call (Local (pos 2)) ∷ Jump (Near (pos 1)) ∷ Exit ∷ Exit ∷ [])) 1 ≡ true
into_another = refl

-- two functions that call each other
back_and_forth : IsOnCycle (layout (Call (Local (pos 1)) ∷ Exit ∷ Call (Local (negsuc 2)) ∷ Exit ∷ [])) 0
back_and_forth = record { callee = 2; leads = refl; calls = 1; back = (0, record { place = 2; leads = refl; from = refl }, refl) }
