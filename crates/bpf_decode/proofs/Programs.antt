-- A text spells one program and a program has one text; bytes that spell none have one fault.
use Rattle.std.proofs.Common.{◌≡◌, ◌*◌, ℕ, List, [], length, sym, ap, ◌∙◌, arith, Result, Ok, Err, IfOk, IfErr, MatchResult, refl}
use Rattle.bpf_insn.specs.declared.program.Slot.{Slot}
use Rattle.bpf_insn.specs.Program.{layout, insns_in}
use Rattle.base.specs.declared.or_memory.OrMemory.{OrMemory}
use Rattle.base.specs.declared.or_memory.OrMemory.TheVariants.{OutOfMemory, Fault}
use Rattle.bpf_decode.specs.declared.fault.InsnFault.{InsnFault}
use Rattle.bpf_decode.specs.declared.fault.DecodeFault.{DecodeFault}
use Rattle.bpf_decode.specs.declared.fault.DecodeFault.TheVariants.{Empty, PartialSlot, TooManySlots, At}
use Rattle.bpf_decode.specs.Spells.{Spells}
use Rattle.bpf_decode.specs.FirstFault.{HasFault, FaultAt}
use Rattle.bpf_decode.specs.Decoded.{IfFault}
use Rattle.bpf_decode.proofs.Texts.{SpellsThen-length, one_row_of_insns, no_fault_within, one_first_fault}
use Rattle.bpf_decode.proofs.Bytes.{one_text_of_insns}

pub one_program : (text : List ℕ) (p q : List Slot) → Spells text p → Spells text q → p ≡ q
one_program text p q h k = h.is_program.laid_out ∙ ap layout (one_row_of_insns text (insns_in p) (insns_in q) h.in_a_row k.in_a_row) ∙ sym k.is_program.laid_out

pub one_text : (a b : List ℕ) (program : List Slot) → Spells a program → Spells b program → a ≡ b
one_text a b program h k = one_text_of_insns a b (insns_in program) h.are_bytes k.are_bytes h.in_a_row k.in_a_row

-- 8 bytes a slot
length-Spells : (text : List ℕ) (program : List Slot) → Spells text program → length text ≡ 8 * length program
length-Spells text program h =
    omega (arith, SpellsThen-length text (insns_in program) [] h.in_a_row, ap length h.is_program.laid_out)

pub no_fault_of_text : (text : List ℕ) (program : List Slot) (fault : DecodeFault) → Spells text program → ¬ HasFault text fault
no_fault_of_text text program Empty h f = omega (arith, length-Spells text program h, h.is_program.in_range.0)
no_fault_of_text text program PartialSlot h f = f (omega (arith, length-Spells text program h))
no_fault_of_text text program TooManySlots h f = omega (arith, length-Spells text program h, h.is_program.in_range.1)
no_fault_of_text text program (At slot fault) h f = no_fault_within text f.1.insns f.1.rest (insns_in program) fault f.1.before f.1.here f.1.has h.in_a_row h.is_program.spares

same_at : (bytes : List ℕ) (s t : ℕ) (f g : InsnFault) → FaultAt bytes s f → FaultAt bytes t g → At s f ≡ At t g
same_at bytes s t f g h k =
    let both = one_first_fault bytes h.insns h.rest f k.insns k.rest g h.before h.spares h.has k.before k.spares k.has in
    let slots : s ≡ t = sym h.slots ∙ both.0 ∙ k.slots in
    λ i. At (slots i) (both.1 i)

pub one_fault : (bytes : List ℕ) (f g : DecodeFault) → HasFault bytes f → HasFault bytes g → f ≡ g
one_fault bytes Empty Empty h k = refl
one_fault bytes Empty PartialSlot h k = absurd (k (omega arith))
one_fault bytes Empty TooManySlots h k = absurd (omega (arith, k.1))
one_fault bytes Empty (At t g) h k = absurd (omega (arith, k.0.0))
one_fault bytes PartialSlot Empty h k = absurd (h (omega arith))
one_fault bytes PartialSlot PartialSlot h k = refl
one_fault bytes PartialSlot TooManySlots h k = absurd (h k.0)
one_fault bytes PartialSlot (At t g) h k = absurd (h k.0.1)
one_fault bytes TooManySlots Empty h k = absurd (omega (arith, h.1))
one_fault bytes TooManySlots PartialSlot h k = absurd (k h.0)
one_fault bytes TooManySlots TooManySlots h k = refl
one_fault bytes TooManySlots (At t g) h k = absurd (omega (arith, h.1, k.0.2))
one_fault bytes (At s f) Empty h k = absurd (omega (arith, h.0.0))
one_fault bytes (At s f) PartialSlot h k = absurd (k h.0.1)
one_fault bytes (At s f) TooManySlots h k = absurd (omega (arith, k.1, h.0.2))
one_fault bytes (At s f) (At t g) h k = same_at bytes s t f g h.1 k.1

-- what is spelled is what was decoded, unless memory ran out
pub only_spelled : (bytes : List ℕ) (r : Result (List Slot) (OrMemory DecodeFault)) (spelled : List Slot) → IfOk r (Spells bytes) → IfErr r (IfFault (HasFault bytes)) → Spells bytes spelled → MatchResult r (λ program. program ≡ spelled) (λ e. e ≡ OutOfMemory)
only_spelled bytes (Ok program) spelled found fault h = one_program bytes program spelled found h
only_spelled bytes (Err OutOfMemory) spelled found fault h = refl
only_spelled bytes (Err (Fault f)) spelled found fault h = absurd (no_fault_of_text bytes spelled f h fault)
