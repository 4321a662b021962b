-- Reading lexemes from the front: a reader answers what it read and the lexemes after, or None where they are not of its form. A
-- number or label that is read may still be at fault, by its range or as missing; that is told only of a line that is of its form.
use Rattle.std.specs.Prelude.{◌^◌, ℕ, ℤ, pos, negsuc, neg_ℤ, ◌-ℤ◌, Bool, true, false, ◌&&◌, nat_lt, int_le, int_lt, List, [], ◌∷◌, Option, Some, None, Result, Ok, Err, bytes_eq, codes, if◌then◌else◌}
use Rattle.bpf_insn.specs.Program.{is_frame_pointer}
use Rattle.bpf_insn.specs.declared.reg.Reg.{Reg}
use Rattle.bpf_insn.specs.declared.reg.Reg.TheVariants.{R0, R1, R2, R3, R4, R5, R6, R7, R8, R9, R10}
use Rattle.bpf_insn.specs.declared.insn.Operand.{Operand}
use Rattle.bpf_insn.specs.declared.insn.Operand.TheVariants.{Immediate, Register}
use Rattle.bpf_asm.specs.declared.fault.LineFault.{LineFault}
use Rattle.bpf_asm.specs.declared.fault.LineFault.TheVariants.{OutOfRange, MissingLabel}
use Rattle.bpf_asm.specs.declared.labels.Label.{Label}
use Rattle.bpf_asm.specs.Numbers.{is_name, number_of, is_the_mark}

-- and then, where something was read
infixl 10 ◌>>=◌
abbrev pub ◌>>=◌ : {A B : Type 0} → Option A → (A → Option B) → Option B
None >>= f = None
(Some x) >>= f = f x

-- and then, where there is no fault: the first one of a line is its lowest
abbrev pub unless_faulty : {A B E : Type 0} → Result A E → (A → Result B E) → Result B E
unless_faulty (Ok x) f = f x
unless_faulty (Err fault) f = Err fault

abbrev pub first_in : List (List ℕ) → Option (List ℕ × List (List ℕ))
first_in [] = None
first_in (word ∷ words) = Some (word, words)

abbrev pub mark_in : ℕ → List (List ℕ) → Option (List (List ℕ))
mark_in mark words = first_in words >>= λ word. if is_the_mark mark word.0 then Some word.1 else None

-- nothing stands after
abbrev pub ended : {A : Type 0} → A → List (List ℕ) → Option A
ended x [] = Some x
ended x (word ∷ words) = None

unfoldable pub register_of : List ℕ → Option Reg
register_of word =
    if bytes_eq word (codes "r0") then Some R0
    else (if bytes_eq word (codes "r1") then Some R1
    else (if bytes_eq word (codes "r2") then Some R2
    else (if bytes_eq word (codes "r3") then Some R3
    else (if bytes_eq word (codes "r4") then Some R4
    else (if bytes_eq word (codes "r5") then Some R5
    else (if bytes_eq word (codes "r6") then Some R6
    else (if bytes_eq word (codes "r7") then Some R7
    else (if bytes_eq word (codes "r8") then Some R8
    else (if bytes_eq word (codes "r9") then Some R9
    else (if bytes_eq word (codes "r10") then Some R10 else None))))))))))

unfoldable pub register_in : List (List ℕ) → Option (Reg × List (List ℕ))
register_in words = first_in words >>= λ word. register_of word.0 >>= λ reg. Some (reg, word.1)

-- a register that is written: R10 is only read
unfoldable pub written_in : List (List ℕ) → Option (Reg × List (List ℕ))
written_in words = register_in words >>= λ reg. if is_frame_pointer reg.0 then None else Some reg

unfoldable pub number_in : List (List ℕ) → Option (Option ℕ × List (List ℕ))
number_in words = first_in words >>= λ word. number_of word.0 >>= λ value. Some (value, word.1)

abbrev pub name_in : List (List ℕ) → Option (List ℕ × List (List ℕ))
name_in words = first_in words >>= λ word. if is_name word.0 then Some word else None

-- whether a `-` stands in front, and what follows it
abbrev pub behind_minus : Option (List (List ℕ)) → List (List ℕ) → Bool × List (List ℕ)
behind_minus None words = (false, words)
behind_minus (Some behind) words = (true, behind)

unfoldable pub minus_in : List (List ℕ) → Bool × List (List ℕ)
minus_in words = behind_minus (mark_in 45 words) words

-- a sign that is written: whether it is `-`
abbrev pub behind_sign : Option (List (List ℕ)) → Option (List (List ℕ)) → Option (Bool × List (List ℕ))
behind_sign (Some behind) plus = Some (true, behind)
behind_sign None (Some behind) = Some (false, behind)
behind_sign None None = None

unfoldable pub sign_in : List (List ℕ) → Option (Bool × List (List ℕ))
sign_in words = behind_sign (mark_in 45 words) (mark_in 43 words)

-- a number with its sign
abbrev pub signed : Bool → Option ℕ → Result ℤ LineFault
signed negative None = Err OutOfRange
signed true (Some value) = Ok (neg_ℤ (pos value))
signed false (Some value) = Ok (pos value)

-- within so many numbers on either side of 0
abbrev pub within : ℕ → ℤ → Result ℤ LineFault
within limit value = if int_le (neg_ℤ (pos limit)) value && int_lt value (pos limit) then Ok value else Err OutOfRange

-- an imm: -2^31 to 2^31 - 1
abbrev pub imm : Result ℤ LineFault → Result ℤ LineFault
imm value = unless_faulty value (within (2 ^ 31))

-- an offset: -32768 to 32767
abbrev pub offset : Result ℤ LineFault → Result ℤ LineFault
offset value = unless_faulty value (within (2 ^ 15))

-- a constant of 64 bits: 0 to 2^64 - 1
abbrev pub natural : ℤ → Result ℕ LineFault
natural (pos value) = if nat_lt value (2 ^ 64) then Ok value else Err OutOfRange
natural (negsuc value) = Err OutOfRange

abbrev pub word64 : Result ℤ LineFault → Result ℕ LineFault
word64 value = unless_faulty value natural

-- an immediate: `-` in front where it is negative
unfoldable pub immediate_in : List (List ℕ) → Option (Result ℤ LineFault × List (List ℕ))
immediate_in words =
    let minus = minus_in words in
    number_in minus.1 >>= λ number. Some (imm (signed minus.0 number.0), number.1)

-- a constant of 64 bits, of which only 0 may have a `-`
unfoldable pub word_in : List (List ℕ) → Option (Result ℕ LineFault × List (List ℕ))
word_in words =
    let minus = minus_in words in
    number_in minus.1 >>= λ number. Some (word64 (signed minus.0 number.0), number.1)

-- a number whose sign is written
unfoldable pub signed_in : List (List ℕ) → Option (Result ℤ LineFault × List (List ℕ))
signed_in words = sign_in words >>= λ sign. number_in sign.1 >>= λ number. Some (signed sign.0 number.0, number.1)

-- a register, or else an immediate
abbrev pub or_immediate : Option (Reg × List (List ℕ)) → List (List ℕ) → Option (Result Operand LineFault × List (List ℕ))
or_immediate (Some reg) words = Some (Ok (Register reg.0), reg.1)
or_immediate None words = immediate_in words >>= λ value. Some (unless_faulty value.0 (λ v. Ok (Immediate v)), value.1)

unfoldable pub operand_in : List (List ℕ) → Option (Result Operand LineFault × List (List ℕ))
operand_in words = or_immediate (register_in words) words

-- `[rN+N]`: a register, and a number with its sign
unfoldable pub address_in : List (List ℕ) → Option ((Reg × Result ℤ LineFault) × List (List ℕ))
address_in words =
    mark_in 91 words >>= λ words. register_in words >>= λ reg. signed_in reg.1 >>= λ number. mark_in 93 number.1 >>= λ words.
    Some ((reg.0, offset number.0), words)

-- how far the slot of a label is after that of the next instruction
abbrev pub distance_to : ℕ → Option Label → Result ℤ LineFault
distance_to next None = Err MissingLabel
distance_to next (Some label) = Ok (pos label.slot -ℤ pos next)

-- a number of slots with its sign, or else a label
abbrev pub or_label : Option (Result ℤ LineFault × List (List ℕ)) → (List ℕ → Option Label) → ℕ → List (List ℕ) → Option (Result ℤ LineFault × List (List ℕ))
or_label (Some number) labels next words = Some number
or_label None labels next words = name_in words >>= λ name. Some (distance_to next (labels name.0), name.1)

unfoldable pub target_in : (List ℕ → Option Label) → ℕ → List (List ℕ) → Option (Result ℤ LineFault × List (List ℕ))
target_in labels next words = or_label (signed_in words) labels next words
