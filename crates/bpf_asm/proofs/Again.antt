-- The text of a program says the program: line by line, each of them read as its instruction.
use Rattle.std.proofs.Common.{◌≡◌, ◌<◌, ◌^◌, ℕ, suc, ◌+◌, Bool, true, false, not, ◌||◌, List, [], ◌∷◌, ◌++◌, map, Option, Some, Ok, codes, refl, sym, ap, ◌∙◌, lit<, append_assoc, append-nil}
use Rattle.std.specs.Prelude.{flat_map}
use Rattle.std.specs.List.{list_all, list_any, AllByRecursion}
use Rattle.bpf_insn.specs.Program.{writes_frame_pointer, SparesFramePointer, IsProgram, insns_in}
use Rattle.bpf_insn.specs.declared.insn.Insn.{Insn}
use Rattle.bpf_insn.specs.declared.insn.Insn.TheVariants.{Alu, InPlace, SignExtend, JumpIf, Jump, LoadImmediate, Load, Store, Call, Exit}
use Rattle.bpf_insn.specs.declared.insn.Callee.TheVariants.{Helper, Local}
use Rattle.bpf_insn.specs.declared.insn.Distance.TheVariants.{Near, Far}
use Rattle.bpf_insn.specs.declared.program.Slot.{Slot}
use Rattle.bpf_asm.specs.declared.labels.Label.{Label}
use Rattle.bpf_asm.specs.Bytes.{is_letter, is_digit, is_word, is_line_feed}
use Rattle.bpf_asm.specs.Lexemes.{lines, lexemes, begins_word}
use Rattle.bpf_asm.specs.Numbers.{is_token, number_of}
use Rattle.bpf_asm.specs.Mnemonics.{name_of}
use Rattle.bpf_asm.specs.Assembly.{said, said_in, said_by, label_in, slots_in, Says}
use Rattle.bpf_asm.specs.Canon.{signed_text, word_text, operands_text, mnemonic_for, insn_text, canon, HasNumbers}
use Rattle.bpf_asm.proofs.Names.{named}
use Rattle.bpf_asm.proofs.Words.{both, constant_word, constant_token}
use Rattle.bpf_asm.proofs.Printed.{Prints, is_clean, prints_nothing, prints_word, prints_both, prints_blank, prints_register, prints_number, prints_signed, prints_operand, prints_address, prints_pair, prints_third, signed_words}
use Rattle.bpf_asm.proofs.Parsed.{words_of, parsed, no_colon, widened}

prints_constant : (n : ℕ) → n < 2 ^ 64 → Prints (word_text n) (word_text n ∷ [])
prints_constant n h = prints_word (word_text n) (constant_word n) (constant_token n h)

local_word : Prints (codes "local") (codes "local" ∷ [])
unfolding is_word is_token is_letter is_digit number_of
local_word = prints_word (codes "local") (record { alone = refl; long = lit< tt }) refl

blank_apart : (text : List ℕ) → begins_word (32 ∷ text) ≡ false
unfolding is_word
blank_apart text = refl

prints_operands : (insn : Insn) → HasNumbers insn → Prints (operands_text insn) (words_of insn)
prints_operands (Alu width op dst src) h = prints_pair _ _ _ _ (prints_register dst) (prints_operand src h)
prints_operands (InPlace op dst) h = prints_blank _ _ (prints_register dst)
prints_operands (SignExtend extension dst src) h = prints_pair _ _ _ _ (prints_register dst) (prints_register src)
prints_operands (JumpIf width condition dst src offset) h = prints_third _ _ _ _ (prints_pair _ _ _ _ (prints_register dst) (prints_operand src h.0)) (prints_signed offset (widened offset h.1))
prints_operands (Jump (Near offset)) h = prints_blank _ _ (prints_signed offset (widened offset h))
prints_operands (Jump (Far imm)) h = prints_blank _ _ (prints_signed imm h)
prints_operands (LoadImmediate dst value) h = prints_pair _ _ _ _ (prints_register dst) (prints_constant value h)
prints_operands (Load form dst src offset) h = prints_pair _ _ _ _ (prints_register dst) (prints_address src offset (widened offset h))
prints_operands (Store size dst src offset) h = prints_third _ _ _ _ (prints_blank _ _ (prints_address dst offset (widened offset h.0))) (prints_operand src h.1)
prints_operands (Call (Helper number)) h = prints_blank _ _ (prints_number number h)
prints_operands (Call (Local distance)) h = prints_blank _ _ (prints_both (codes "local") (32 ∷ signed_text distance) (codes "local" ∷ []) (signed_words distance) local_word (prints_blank _ _ (prints_signed distance h)) (blank_apart (signed_text distance)))
prints_operands Exit h = prints_nothing

operands_apart : (insn : Insn) → begins_word (operands_text insn) ≡ false
unfolding is_word
operands_apart (Alu width op dst src) = refl
operands_apart (InPlace op dst) = refl
operands_apart (SignExtend extension dst src) = refl
operands_apart (JumpIf width condition dst src offset) = refl
operands_apart (Jump (Near offset)) = refl
operands_apart (Jump (Far imm)) = refl
operands_apart (LoadImmediate dst value) = refl
operands_apart (Load form dst src offset) = refl
operands_apart (Store size dst src offset) = refl
operands_apart (Call (Helper number)) = refl
operands_apart (Call (Local distance)) = refl
operands_apart Exit = refl

-- the line of an instruction without its line feed
abbrev line_of : Insn → List ℕ
line_of insn = name_of (mnemonic_for insn) ++ operands_text insn

prints_line : (insn : Insn) → HasNumbers insn → Prints (line_of insn) (name_of (mnemonic_for insn) ∷ words_of insn)
prints_line insn h =
    let name = named (mnemonic_for insn) in
    prints_both _ (operands_text insn) (name_of (mnemonic_for insn) ∷ []) (words_of insn) (prints_word _ (record { alone = name.word; long = name.long }) name.token) (prints_operands insn h) (operands_apart insn)

lexed_line : (insn : Insn) → HasNumbers insn → lexemes (line_of insn) ≡ name_of (mnemonic_for insn) ∷ words_of insn
unfolding lexemes
lexed_line insn h =
    sym (ap lexemes (append-nil (line_of insn))) ∙ (prints_line insn h).lexed [] refl ∙ append-nil (name_of (mnemonic_for insn) ∷ words_of insn)

-- what a line says that is read as an instruction
said_line : (labels : List ℕ → Option Label) (line slot : ℕ) (insn : Insn) → HasNumbers insn → writes_frame_pointer insn ≡ false → said_by labels line slot (lexemes (line_of insn)) ≡ Ok (Some insn)
unfolding said_by label_in
said_line labels line slot insn h spares =
    let name = named (mnemonic_for insn) in
    rw (lexed_line insn h, (prints_line insn h).tokens, no_colon insn h, name.found, parsed labels (suc slot) insn h spares) refl

negated : (b : Bool) → not b ≡ true → b ≡ false
negated true h = absurd cc
negated false h = refl

neither : (a b : Bool) → (a || b) ≡ false → (a ≡ false) × (b ≡ false)
neither true b h = absurd cc
neither false b h = (refl, h)

-- a text's first line, where no line feed stands in it
parted : (line rest : List ℕ) → list_all is_clean line ≡ true → lines (line ++ 10 ∷ rest) ≡ line ∷ lines rest
unfolding lines
parted [] rest h = refl
parted (b ∷ bytes) rest h =
    let parts = both (is_clean b) (list_all is_clean bytes) h in
    rw (negated (is_line_feed b) parts.0, parted bytes rest parts.1) refl

-- the lines of instructions
lines_are : (insns : List Insn) → AllByRecursion HasNumbers insns → lines (flat_map insn_text insns) ≡ map line_of insns
unfolding lines insn_text
lines_are [] h = refl
lines_are (insn ∷ insns) h =
    ap lines (append_assoc (line_of insn) (10 ∷ []) (flat_map insn_text insns)) ∙ parted (line_of insn) (flat_map insn_text insns) (prints_line insn h.0).clean ∙ ap (λ texts. line_of insn ∷ texts) (lines_are insns h.1)

said_lines : (labels : List ℕ → Option Label) (line slot : ℕ) (insns : List Insn) → AllByRecursion HasNumbers insns → SparesFramePointer insns → said_in labels line slot (map line_of insns) ≡ Ok insns
unfolding said_in
said_lines labels line slot [] h spares = refl
said_lines labels line slot (insn ∷ insns) h spares =
    let none = neither (writes_frame_pointer insn) (list_any writes_frame_pointer insns) spares in
    rw (said_line labels line slot insn h.0 none.0, said_lines labels (suc line) (slot + slots_in (lexemes (line_of insn))) insns h.1 none.1) refl

pub said_again : (program : List Slot) → IsProgram program → AllByRecursion HasNumbers (insns_in program) → Says (canon program) program
unfolding said canon
said_again program p h = (insns_in program, rw (lines_are (insns_in program) h) (said_lines _ 1 0 (insns_in program) h p.spares), (p, refl))
