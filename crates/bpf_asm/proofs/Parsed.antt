-- The lexemes that are printed of an instruction are read as that instruction.
use Rattle.std.proofs.Common.{◌≡◌, ◌<◌, ◌≤◌, ◌^◌, ℕ, suc, ℤ, pos, negsuc, false, List, [], ◌∷◌, ◌++◌, Option, Some, None, Ok, codes, refl, ap, arith, append_assoc, append-nil}
use Rattle.std.specs.Prelude.{decimal, FitsSigned}
use Rattle.std.specs.Int.{w16, w32}
use Rattle.std.proofs.lemmas.Bool.{lt-ltb, le-leb}
use Rattle.bpf_insn.specs.Program.{is_frame_pointer, writes_frame_pointer}
use Rattle.bpf_insn.specs.declared.reg.Reg.{Reg}
use Rattle.bpf_insn.specs.declared.insn.Insn.{Insn}
use Rattle.bpf_insn.specs.declared.insn.Insn.TheVariants.{Alu, InPlace, SignExtend, JumpIf, Jump, LoadImmediate, Load, Store, Call, Exit}
use Rattle.bpf_insn.specs.declared.insn.Operand.{Operand}
use Rattle.bpf_insn.specs.declared.insn.Operand.TheVariants.{Immediate, Register}
use Rattle.bpf_insn.specs.declared.insn.Callee.TheVariants.{Helper, Local}
use Rattle.bpf_insn.specs.declared.insn.Distance.TheVariants.{Near, Far}
use Rattle.bpf_asm.specs.declared.labels.Label.{Label}
use Rattle.bpf_asm.specs.Bytes.{is_word}
use Rattle.bpf_asm.specs.Reading.{◌>>=◌, register_of, mark_in, register_in, written_in, number_in, minus_in, sign_in, immediate_in, word_in, signed_in, operand_in, address_in, target_in, imm, offset, within}
use Rattle.bpf_asm.specs.Forms.{alu_in, in_place_in, sign_extend_in, jump_near_in, jump_far_in, compared_in, jump_if_in, helper_in, local_in, call_in, load_in, store_immediate_in, store_register_in, load_immediate_in, insn_in}
use Rattle.bpf_asm.specs.Canon.{register_text, word_text, mnemonic_for, HasOperand, HasNumbers}
use Rattle.bpf_asm.proofs.Words.{IsWord, is_register, no_mark, decimal_word, decimal_number, decimal_no_register, decimal_no_local, constant_number, constant_word}
use Rattle.bpf_asm.proofs.Printed.{number_words, signed_words, operand_words, address_words}

not_word_minus : is_word 45 ≡ false
unfolding is_word
not_word_minus = refl

not_word_plus : is_word 43 ≡ false
unfolding is_word
not_word_plus = refl

pub not_word_colon : is_word 58 ≡ false
unfolding is_word
not_word_colon = refl

reads_register : (reg : Reg) (words : List (List ℕ)) → register_in (register_text reg ∷ words) ≡ Some (reg, words)
unfolding register_in
reads_register reg words = rw (is_register reg).found refl

reads_written : (reg : Reg) (words : List (List ℕ)) → is_frame_pointer reg ≡ false → written_in (register_text reg ∷ words) ≡ Some (reg, words)
unfolding written_in
reads_written reg words h = rw (reads_register reg words, h) refl

reads_decimal : (n : ℕ) (words : List (List ℕ)) → n < 2 ^ 64 → number_in (decimal n ∷ words) ≡ Some (Some n, words)
unfolding number_in
reads_decimal n words h = rw (decimal_number n h) refl

-- a word in front is no sign
no_minus : (word : List ℕ) (words : List (List ℕ)) → IsWord word → minus_in (word ∷ words) ≡ (false, word ∷ words)
unfolding minus_in
no_minus word words w = rw (no_mark 45 word not_word_minus w) refl

no_sign : (word : List ℕ) (words : List (List ℕ)) → IsWord word → sign_in (word ∷ words) ≡ None
unfolding sign_in
no_sign word words w = rw (no_mark 45 word not_word_minus w, no_mark 43 word not_word_plus w) refl

-- ---- ranges

imm_fits : (z : ℤ) → FitsSigned w32 z → within (2 ^ 31) z ≡ Ok z
imm_fits (pos n) h = rw (lt-ltb n (2 ^ 31) (omega (arith, h.sfits))) refl
imm_fits (negsuc n) h = let near : n ≤ 2147483647 = omega (arith, h.sfits) in rw (le-leb n 2147483647 near) refl

offset_fits : (z : ℤ) → FitsSigned w16 z → within (2 ^ 15) z ≡ Ok z
offset_fits (pos n) h = rw (lt-ltb n (2 ^ 15) (omega (arith, h.sfits))) refl
offset_fits (negsuc n) h = let near : n ≤ 32767 = omega (arith, h.sfits) in rw (le-leb n 32767 near) refl

pub widened : (z : ℤ) → FitsSigned w16 z → FitsSigned w32 z
widened z h = record { sfits = omega (arith, h.sfits) }

-- ---- parts

reads_immediate : (z : ℤ) (words : List (List ℕ)) → FitsSigned w32 z → immediate_in (number_words z ++ words) ≡ Some (Ok z, words)
unfolding immediate_in minus_in
reads_immediate (pos n) words h =
    rw (no_mark 45 (decimal n) not_word_minus (decimal_word n (omega (arith, h.sfits))), reads_decimal n words (omega (arith, h.sfits)), imm_fits (pos n) h) refl
reads_immediate (negsuc n) words h = rw (reads_decimal (suc n) words (omega (arith, h.sfits)), imm_fits (negsuc n) h) refl

reads_signed : (z : ℤ) (words : List (List ℕ)) → FitsSigned w32 z → signed_in (signed_words z ++ words) ≡ Some (Ok z, words)
unfolding signed_in sign_in
reads_signed (pos n) words h = rw (reads_decimal n words (omega (arith, h.sfits))) refl
reads_signed (negsuc n) words h = rw (reads_decimal (suc n) words (omega (arith, h.sfits))) refl

reads_target : (labels : List ℕ → Option Label) (next : ℕ) (z : ℤ) (words : List (List ℕ)) → FitsSigned w32 z → target_in labels next (signed_words z ++ words) ≡ Some (Ok z, words)
unfolding target_in
reads_target labels next z words h = rw (reads_signed z words h) refl

no_register : (z : ℤ) (words : List (List ℕ)) → FitsSigned w32 z → register_in (number_words z ++ words) ≡ None
unfolding register_in register_of
no_register (pos n) words h = ap (λ found. found >>= λ reg. Some (reg, words)) (decimal_no_register n (omega (arith, h.sfits)))
no_register (negsuc n) words h = refl

reads_operand : (operand : Operand) (words : List (List ℕ)) → HasOperand operand → operand_in (operand_words operand ++ words) ≡ Some (Ok operand, words)
unfolding operand_in
reads_operand (Immediate z) words h = rw (no_register z words h, reads_immediate z words h) refl
reads_operand (Register reg) words h = rw (reads_register reg words) refl

reads_address : (base : Reg) (z : ℤ) (words : List (List ℕ)) → FitsSigned w16 z → address_in (address_words base z ++ words) ≡ Some ((base, Ok z), words)
unfolding address_in
reads_address base z words h =
    rw (reads_register base ((signed_words z ++ (93 ∷ []) ∷ []) ++ words), append_assoc (signed_words z) ((93 ∷ []) ∷ []) words, reads_signed z ((93 ∷ []) ∷ words) (widened z h), offset_fits z h) refl

reads_constant : (n : ℕ) (words : List (List ℕ)) → n < 2 ^ 64 → word_in (word_text n ∷ words) ≡ Some (Ok n, words)
unfolding word_in number_in
reads_constant n words h = rw (no_minus (word_text n) words (constant_word n), constant_number n h, lt-ltb n (2 ^ 64) h) refl

-- ---- instructions

-- what follows the name of an instruction
abbrev pub words_of : Insn → List (List ℕ)
words_of (Alu width op dst src) = (register_text dst ∷ []) ++ ((44 ∷ []) ∷ operand_words src)
words_of (InPlace op dst) = register_text dst ∷ []
words_of (SignExtend extension dst src) = (register_text dst ∷ []) ++ ((44 ∷ []) ∷ register_text src ∷ [])
words_of (JumpIf width condition dst src offset) = ((register_text dst ∷ []) ++ ((44 ∷ []) ∷ operand_words src)) ++ ((44 ∷ []) ∷ signed_words offset)
words_of (Jump (Near offset)) = signed_words offset
words_of (Jump (Far imm)) = signed_words imm
words_of (LoadImmediate dst value) = (register_text dst ∷ []) ++ ((44 ∷ []) ∷ word_text value ∷ [])
words_of (Load form dst src offset) = (register_text dst ∷ []) ++ ((44 ∷ []) ∷ address_words src offset)
words_of (Store size dst src offset) = address_words dst offset ++ ((44 ∷ []) ∷ operand_words src)
words_of (Call (Helper number)) = number_words number
words_of (Call (Local distance)) = codes "local" ∷ signed_words distance
words_of Exit = []

module _ (labels : List ℕ → Option Label) (next : ℕ) where
  pub parsed : (insn : Insn) → HasNumbers insn → writes_frame_pointer insn ≡ false → insn_in labels next (mnemonic_for insn) (words_of insn) ≡ Some (Ok insn)
  unfolding alu_in in_place_in sign_extend_in jump_near_in jump_far_in compared_in jump_if_in helper_in local_in call_in load_in store_immediate_in store_register_in load_immediate_in
  parsed (Alu width op dst src) h spares = rw (reads_written dst ((44 ∷ []) ∷ operand_words src) spares, ← append-nil (operand_words src), reads_operand src [] h) refl
  parsed (InPlace op dst) h spares = rw (reads_written dst [] spares) refl
  parsed (SignExtend extension dst src) h spares = rw (reads_written dst ((44 ∷ []) ∷ register_text src ∷ []) spares, reads_register src []) refl
  parsed (JumpIf width condition dst src offset) h spares = rw (reads_register dst ((44 ∷ []) ∷ (operand_words src ++ ((44 ∷ []) ∷ signed_words offset))), reads_operand src ((44 ∷ []) ∷ signed_words offset) h.0, ← append-nil (signed_words offset), reads_target labels next offset [] (widened offset h.1), offset_fits offset h.1) refl
  parsed (Jump (Near offset)) h spares = rw (← append-nil (signed_words offset), reads_target labels next offset [] (widened offset h), offset_fits offset h) refl
  parsed (Jump (Far imm)) h spares = rw (← append-nil (signed_words imm), reads_target labels next imm [] h, imm_fits imm h) refl
  parsed (LoadImmediate dst value) h spares = rw (reads_written dst ((44 ∷ []) ∷ word_text value ∷ []) spares, reads_constant value [] h) refl
  parsed (Load form dst src offset) h spares = rw (reads_written dst ((44 ∷ []) ∷ address_words src offset) spares, ← append-nil (address_words src offset), reads_address src offset [] h) refl
  parsed (Store size dst (Immediate value) offset) h spares = rw (reads_address dst offset ((44 ∷ []) ∷ number_words value) h.0, ← append-nil (number_words value), reads_immediate value [] h.1) refl
  parsed (Store size dst (Register src) offset) h spares = rw (reads_address dst offset ((44 ∷ []) ∷ register_text src ∷ []) h.0, reads_register src []) refl
  parsed (Call (Helper (pos n))) h spares = rw (decimal_no_local n (omega (arith, h.sfits)), reads_immediate (pos n) [] h) refl
  parsed (Call (Helper (negsuc n))) h spares = rw (reads_immediate (negsuc n) [] h) refl
  parsed (Call (Local distance)) h spares = rw (← append-nil (signed_words distance), reads_target labels next distance [] h, imm_fits distance h) refl
  parsed Exit h spares = refl

-- no colon stands after the name, so the line is no label line
no_colon_first : (word : List ℕ) (words : List (List ℕ)) → IsWord word → mark_in 58 (word ∷ words) ≡ None
no_colon_first word words w = rw (no_mark 58 word not_word_colon w) refl

no_colon_number : (z : ℤ) → FitsSigned w32 z → mark_in 58 (number_words z) ≡ None
no_colon_number (pos n) h = no_colon_first (decimal n) [] (decimal_word n (omega (arith, h.sfits)))
no_colon_number (negsuc n) h = refl

no_colon_signed : (z : ℤ) → mark_in 58 (signed_words z) ≡ None
no_colon_signed (pos n) = refl
no_colon_signed (negsuc n) = refl

pub no_colon : (insn : Insn) → HasNumbers insn → mark_in 58 (words_of insn) ≡ None
no_colon (Alu width op dst src) h = no_colon_first (register_text dst) ((44 ∷ []) ∷ operand_words src) (is_register dst).word
no_colon (InPlace op dst) h = no_colon_first (register_text dst) [] (is_register dst).word
no_colon (SignExtend extension dst src) h = no_colon_first (register_text dst) ((44 ∷ []) ∷ register_text src ∷ []) (is_register dst).word
no_colon (JumpIf width condition dst src offset) h = no_colon_first (register_text dst) ((44 ∷ []) ∷ (operand_words src ++ ((44 ∷ []) ∷ signed_words offset))) (is_register dst).word
no_colon (Jump (Near offset)) h = no_colon_signed offset
no_colon (Jump (Far imm)) h = no_colon_signed imm
no_colon (LoadImmediate dst value) h = no_colon_first (register_text dst) ((44 ∷ []) ∷ word_text value ∷ []) (is_register dst).word
no_colon (Load form dst src offset) h = no_colon_first (register_text dst) ((44 ∷ []) ∷ address_words src offset) (is_register dst).word
no_colon (Store size dst src offset) h = refl
no_colon (Call (Helper number)) h = no_colon_number number h
no_colon (Call (Local distance)) h = refl
no_colon Exit h = refl
