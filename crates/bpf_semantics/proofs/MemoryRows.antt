-- Worked rows of loads and stores, computed by the definitions themselves: at the first and the last byte of the context
-- and of the frame, and one past each.
use Rattle.std.proofs.Common.{◌≡◌, ℕ, ℤ, pos, negsuc, true, false, List, [], ◌∷◌, ◌++◌, Option, Some, None, refl, replicate}
use Rattle.std.specs.Option.{option_and_then}
use Rattle.bpf_insn.specs.declared.insn.Insn.{Insn}
use Rattle.bpf_insn.specs.declared.insn.Insn.TheVariants.{Load, Store}
use Rattle.bpf_insn.specs.declared.insn.LoadForm.{LoadForm}
use Rattle.bpf_insn.specs.declared.insn.LoadForm.TheVariants as loads
use Rattle.bpf_insn.specs.declared.insn.StoreSize.TheVariants as stores
use Rattle.bpf_insn.specs.declared.insn.Operand.TheVariants.{Immediate, Register}
use Rattle.bpf_insn.specs.declared.reg.Reg.{Reg}
use Rattle.bpf_insn.specs.declared.reg.Reg.TheVariants.{R1, R2, R3, R10}
use Rattle.helpers.specs.declared.limits.HelperLimits.{HelperLimits}
use Rattle.helpers.specs.Table.{of_queues}
use Rattle.bpf_stack_frame.specs.Frame.{written_at}
use Rattle.bpf_semantics.specs.MachineState.{MachineState, entry, register}
use Rattle.bpf_semantics.specs.Step.{does}
use Rattle.bpf_semantics.specs.Stuck.{insn_is_stuck}

abbrev limits : HelperLimits
limits = of_queues 1 []

-- a context whose last four bytes are 80 ff 01 02
abbrev context : List ℕ
context = replicate 92 0 ++ 0x80 ∷ 0xff ∷ 0x01 ∷ 0x02 ∷ []

abbrev start : MachineState
start = entry context 7

-- what a load leaves in R3
abbrev loads_of : Option MachineState → Option ℕ
loads_of m = option_and_then (λ (n : MachineState). register n R3) m

abbrev load : LoadForm → Reg → ℤ → Insn
load form src offset = Load form R3 src offset

-- the context's last word, its last byte, and a byte with its sign
row_word : loads_of (does start (load loads.Word R1 (pos 92))) ≡ Some 0x0201ff80
row_word = refl

row_last : loads_of (does start (load loads.Byte R1 (pos 95))) ≡ Some 2
row_last = refl

row_signed : loads_of (does start (load loads.SignedHalfWord R1 (pos 92))) ≡ Some 0xffffffffffffff80
row_signed = refl

row_first : loads_of (does start (load loads.DoubleWord R1 (pos 0))) ≡ Some 0
row_first = refl

-- one byte past either end
row_word_past : insn_is_stuck limits start (load loads.Word R1 (pos 93)) ≡ true
row_word_past = refl

row_before : insn_is_stuck limits start (load loads.Byte R1 (negsuc 0)) ≡ true
row_before = refl

row_not_past : insn_is_stuck limits start (load loads.Word R1 (pos 92)) ≡ false
row_not_past = refl

-- the context is only read
row_read_only : insn_is_stuck limits start (Store stores.Byte R1 (Immediate (pos 7)) (pos 0)) ≡ true
row_read_only = refl

-- what a store of -2 to the frame leaves, as a load from there reads it
abbrev stored_and_loaded : ℤ → LoadForm → ℤ → Option ℕ
stored_and_loaded at form from =
    option_and_then (λ (m : MachineState). loads_of (does m (load form R10 from))) (does start (Store stores.Word R10 (Immediate (negsuc 1)) at))

row_stored : stored_and_loaded (negsuc 7) loads.Word (negsuc 7) ≡ Some 0xfffffffe
unfolding written_at
row_stored = refl

row_unaligned : stored_and_loaded (negsuc 10) loads.HalfWord (negsuc 8) ≡ Some 0xffff
unfolding written_at
row_unaligned = refl

-- a byte beside it is unwritten
row_unwritten : stored_and_loaded (negsuc 7) loads.DoubleWord (negsuc 7) ≡ None
unfolding written_at
row_unwritten = refl

-- the frame's first bytes, its last, and one past each
row_lowest : insn_is_stuck limits start (Store stores.Word R10 (Register R2) (negsuc 511)) ≡ false
row_lowest = refl

row_below : insn_is_stuck limits start (Store stores.Word R10 (Register R2) (negsuc 512)) ≡ true
row_below = refl

row_highest : insn_is_stuck limits start (Store stores.Word R10 (Register R2) (negsuc 3)) ≡ false
row_highest = refl

row_above : insn_is_stuck limits start (Store stores.Word R10 (Register R2) (negsuc 2)) ≡ true
row_above = refl

-- a register that is unwritten is no address, and no word either
row_no_address : insn_is_stuck limits start (load loads.Byte R3 (pos 0)) ≡ true
row_no_address = refl

row_no_word : insn_is_stuck limits start (Store stores.Byte R10 (Register R3) (negsuc 0)) ≡ true
row_no_word = refl
