-- Bytes that spell instructions one after the other.
use Rattle.std.proofs.Common.{◌≡◌, ◌≤◌, ℕ, ◌+◌, ◌*◌, List, [], ◌∷◌, ◌++◌, length, drop, Bool, true, false, le-ltb, nat_lt, Option, Some, None, if◌then◌else◌, refl, sym, subst, ap, ap₂, ◌∙◌, arith}
use Rattle.std.proofs.lemmas.List.{append-nil, length-append, length-drop}
use Rattle.std.proofs.lemmas.Grind.{flat_map-append}
use Rattle.std.proofs.lemmas.Bool.{ltb-false, or_parts}
use Rattle.std.specs.List.{list_any}
use Rattle.bpf_insn.specs.declared.insn.Insn.{Insn}
use Rattle.bpf_insn.specs.declared.insn.Insn.TheVariants.{LoadImmediate}
use Rattle.bpf_insn.specs.declared.program.Slot.{Slot}
use Rattle.bpf_insn.specs.Program.{slots_of, layout, writes_frame_pointer, SparesFramePointer}
use Rattle.bpf_decode.specs.declared.fields.Fields.{Fields}
use Rattle.bpf_decode.specs.declared.fault.InsnFault.{InsnFault}
use Rattle.bpf_decode.specs.Fields.{fields_of, fields_behind}
use Rattle.bpf_decode.specs.FieldTests.{fault_of}
use Rattle.bpf_decode.specs.FirstFault.{fault_at}
use Rattle.bpf_decode.specs.Kinds.{AreBehind, IsSpelled}
use Rattle.bpf_decode.specs.Spells.{rows, further_rows, BeginsWith, SpellsInsn, SpellsThen, behind_insn}
use Rattle.bpf_decode.proofs.Rows.{HasFurther, insn_from, insn_from_row, no_fault_of_row}

has_further : (bytes : List ℕ) (slots : List Fields) → BeginsWith bytes slots → HasFurther slots (fields_of bytes).imm
has_further bytes [] h = tt
has_further bytes (first ∷ slots) h = ap (λ (f : Fields). f.imm) (sym h.1)

is_insn_from : (bytes : List ℕ) (i : Insn) → SpellsInsn bytes i → insn_from (fields_of bytes) (fields_of (drop 8 bytes)).imm ≡ i
is_insn_from bytes i h =
    ap (λ (f : Fields). insn_from f (fields_of (drop 8 bytes)).imm) h.0.1
    ∙ insn_from_row i (fields_of (drop 8 bytes)).imm (has_further (drop 8 bytes) (further_rows i) h.0.2) h.1

-- bytes begin with one instruction
pub one_insn : (bytes : List ℕ) (i j : Insn) → SpellsInsn bytes i → SpellsInsn bytes j → i ≡ j
one_insn bytes i j h k = sym (is_insn_from bytes i h) ∙ is_insn_from bytes j k

there_is : (b : Bool) (behind : Fields) → b ≡ false → (if b then None else Some behind) ≡ Some behind
there_is b behind h = rw h refl

-- rows after the first slot are those of the slot after it
are_behind : (bytes : List ℕ) (slots : List Fields) → 8 ≤ length bytes → BeginsWith (drop 8 bytes) slots → AreBehind (fields_behind bytes) slots
are_behind bytes [] long h = tt
are_behind bytes (second ∷ slots) long h =
    there_is (nat_lt (length bytes) 16) (fields_of (drop 8 bytes)) (le-ltb (length bytes) 16 (omega (arith, long, h.0, length-drop 8 bytes)))
    ∙ ap Some h.1

-- no fault holds of what is spelled
pub no_fault_of_insn : (bytes : List ℕ) (i : Insn) → SpellsInsn bytes i → writes_frame_pointer i ≡ false → fault_at bytes ≡ None
no_fault_of_insn bytes i h spares =
    ap (λ (f : Fields). fault_of f (fields_behind bytes)) h.0.1
    ∙ no_fault_of_row i (fields_behind bytes) (are_behind bytes (further_rows i) h.0.0 h.0.2) spares

-- a slot after is that of the rows after
begins_behind : (bytes : List ℕ) (second : Fields) → nat_lt (length bytes) 16 ≡ false → fields_behind bytes ≡ Some second
    → (8 ≤ length (drop 8 bytes)) × (fields_of (drop 8 bytes) ≡ second)
begins_behind bytes second long is =
    let some : Some (fields_of (drop 8 bytes)) ≡ Some second = sym (there_is (nat_lt (length bytes) 16) (fields_of (drop 8 bytes)) long) ∙ is in
    (omega (arith, ltb-false (length bytes) 16 long, length-drop 8 bytes), cc)

none_there : (b : Bool) (some : Fields) (second : Fields) → (if b then None else Some some) ≡ Some second → b ≡ false
none_there true some second is = absurd cc
none_there false some second is = refl

further_spelled : (bytes : List ℕ) (i : Insn) → AreBehind (fields_behind bytes) (further_rows i) → BeginsWith (drop 8 bytes) (further_rows i)
further_spelled bytes (LoadImmediate dst value) is =
    let long = none_there (nat_lt (length bytes) 16) (fields_of (drop 8 bytes)) _ is in
    let second = begins_behind bytes _ long is in
    (second.0, second.1, tt)
further_spelled bytes i is = tt

-- what the fields spell is what the bytes do
pub spelled_by_bytes : (bytes : List ℕ) (i : Insn) → 8 ≤ length bytes → IsSpelled (fields_of bytes) (fields_behind bytes) i → SpellsInsn bytes i
spelled_by_bytes bytes i long h = ((long, h.0, further_spelled bytes i h.1), h.2)

-- an instruction has as many rows as slots
pub length-rows : (i : Insn) → length (rows i) ≡ length (slots_of i)
length-rows (LoadImmediate dst value) = refl
length-rows i = refl

length-begins : (bytes : List ℕ) (slots : List Fields) → BeginsWith bytes slots → 8 * length slots ≤ length bytes
length-begins bytes [] h = omega arith
length-begins bytes (first ∷ slots) h = omega (arith, h.0, length-drop 8 bytes, length-begins (drop 8 bytes) slots h.2)

pub length-spelled : (bytes : List ℕ) (i : Insn) → SpellsInsn bytes i → 8 * length (slots_of i) ≤ length bytes
length-spelled bytes i h = subst (λ n. 8 * n ≤ length bytes) (length-rows i) (length-begins bytes (rows i) h.0)

-- one instruction more
pub SpellsThen-push : (bytes : List ℕ) (insns : List Insn) (rest : List ℕ) (insn : Insn) → SpellsThen bytes insns rest → SpellsInsn rest insn → SpellsThen bytes (insns ++ insn ∷ []) (behind_insn rest insn)
SpellsThen-push bytes [] rest insn e spelled = rw e (spelled, refl)
SpellsThen-push bytes (first ∷ insns) rest insn h spelled = (h.0, SpellsThen-push (behind_insn bytes first) insns rest insn h.1 spelled)

-- takes its slots more
pub length-layout-push : (insns : List Insn) (insn : Insn) → length (layout (insns ++ insn ∷ [])) ≡ length (layout insns) + length (slots_of insn)
length-layout-push insns insn =
    ap length (flat_map-append slots_of insns (insn ∷ []) ∙ ap (λ (slots : List Slot). layout insns ++ slots) (append-nil (slots_of insn)))
    ∙ length-append (layout insns) (slots_of insn)

-- 8 bytes a slot
pub SpellsThen-length : (bytes : List ℕ) (insns : List Insn) (rest : List ℕ) → SpellsThen bytes insns rest → length bytes ≡ 8 * length (layout insns) + length rest
SpellsThen-length bytes [] rest e = omega (arith, ap length e)
SpellsThen-length bytes (insn ∷ insns) rest h =
    omega (
      arith,
      length-spelled bytes insn h.0,
      length-drop (8 * length (slots_of insn)) bytes,
      length-append (slots_of insn) (layout insns),
      SpellsThen-length (behind_insn bytes insn) insns rest h.1,
    )

-- nothing is not an instruction
too_short : (bytes : List ℕ) → bytes ≡ [] → 8 ≤ length bytes → ⊥
too_short bytes e long = omega (arith, ap length e)

-- bytes spell instructions in one way
pub one_row_of_insns : (bytes : List ℕ) (is js : List Insn) → SpellsThen bytes is [] → SpellsThen bytes js [] → is ≡ js
one_row_of_insns bytes [] [] h k = refl
one_row_of_insns bytes [] (j ∷ js) h k = absurd (too_short bytes h k.0.0.0)
one_row_of_insns bytes (i ∷ is) [] h k = absurd (too_short bytes k h.0.0.0)
one_row_of_insns bytes (i ∷ is) (j ∷ js) h k =
    let same = one_insn bytes i j h.0 k.0 in
    let behind = subst (λ (x : Insn). SpellsThen (behind_insn bytes x) js []) (sym same) k.1 in
    ap₂ (λ (x : Insn) (xs : List Insn). x ∷ xs) same (one_row_of_insns (behind_insn bytes i) is js h.1 behind)

some_is : (f g : InsnFault) (found : Option InsnFault) → found ≡ Some f → found ≡ Some g → f ≡ g
some_is f g found h k = cc

none_is_not : (f : InsnFault) (found : Option InsnFault) → found ≡ Some f → found ≡ None → ⊥
none_is_not f found h k = cc

-- an instruction is no fault
not_both : (bytes : List ℕ) (i : Insn) (f : InsnFault) → SpellsInsn bytes i → writes_frame_pointer i ≡ false → fault_at bytes ≡ Some f → ⊥
not_both bytes i f h spares fault = none_is_not f (fault_at bytes) fault (no_fault_of_insn bytes i h spares)

-- a fault after instructions is not spelled
pub no_fault_within : (bytes : List ℕ) (front : List Insn) (rest : List ℕ) (all : List Insn) (f : InsnFault)
    → SpellsThen bytes front rest → 8 ≤ length rest → fault_at rest ≡ Some f → SpellsThen bytes all [] → SparesFramePointer all → ⊥
no_fault_within bytes [] rest [] f h long fault k spares = too_short rest (sym h ∙ k) long
no_fault_within bytes [] rest (j ∷ js) f h long fault k spares = not_both bytes j f k.0 (or_parts _ _ spares).0 (rw h fault)
no_fault_within bytes (i ∷ is) rest [] f h long fault k spares = too_short bytes k h.0.0.0
no_fault_within bytes (i ∷ is) rest (j ∷ js) f h long fault k spares =
    let same = one_insn bytes i j h.0 k.0 in
    let behind = subst (λ (x : Insn). SpellsThen (behind_insn bytes x) js []) (sym same) k.1 in
    no_fault_within (behind_insn bytes i) is rest js f h.1 long fault behind (or_parts _ _ spares).1

-- the first fault after instructions is one
pub one_first_fault : (bytes : List ℕ) (front : List Insn) (rest : List ℕ) (f : InsnFault) (front' : List Insn) (rest' : List ℕ) (g : InsnFault)
    → SpellsThen bytes front rest → SparesFramePointer front → fault_at rest ≡ Some f
    → SpellsThen bytes front' rest' → SparesFramePointer front' → fault_at rest' ≡ Some g
    → (length (layout front) ≡ length (layout front')) × (f ≡ g)
one_first_fault bytes [] rest f [] rest' g h spares fault h' spares' fault' = (refl, some_is f g (fault_at bytes) (rw h fault) (rw h' fault'))
one_first_fault bytes [] rest f (j ∷ js) rest' g h spares fault h' spares' fault' = absurd (not_both bytes j f h'.0 (or_parts _ _ spares').0 (rw h fault))
one_first_fault bytes (i ∷ is) rest f [] rest' g h spares fault h' spares' fault' = absurd (not_both bytes i g h.0 (or_parts _ _ spares).0 (rw h' fault'))
one_first_fault bytes (i ∷ is) rest f (j ∷ js) rest' g h spares fault h' spares' fault' =
    let same = one_insn bytes i j h.0 h'.0 in
    let behind = subst (λ (x : Insn). SpellsThen (behind_insn bytes x) js rest') (sym same) h'.1 in
    let both = one_first_fault (behind_insn bytes i) is rest f js rest' g h.1 (or_parts (writes_frame_pointer i) (list_any writes_frame_pointer is) spares).1 fault behind (or_parts (writes_frame_pointer j) (list_any writes_frame_pointer js) spares').1 fault' in
    let slots : length (slots_of i) ≡ length (slots_of j) = ap (λ (x : Insn). length (slots_of x)) same in
    (omega (arith, both.0, slots, length-append (slots_of i) (layout is), length-append (slots_of j) (layout js)), both.1)

pub one_more_spares : (insns : List Insn) (insn : Insn) → SparesFramePointer insns → writes_frame_pointer insn ≡ false → SparesFramePointer (insns ++ insn ∷ [])
one_more_spares [] insn spares spared = rw spared refl
one_more_spares (first ∷ insns) insn spares spared =
    let parts = or_parts (writes_frame_pointer first) (list_any writes_frame_pointer insns) spares in
    rw (parts.0, one_more_spares insns insn parts.1 spared) refl
