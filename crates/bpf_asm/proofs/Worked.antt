-- Worked rows of the definitions: what short texts say.
use Rattle.std.proofs.Common.{◌≡◌, pos, negsuc, [], ◌∷◌, Ok, Err, codes, refl, List}
use Rattle.bpf_insn.specs.declared.reg.Reg.TheVariants.{R0, R1, R2, R3, R10}
use Rattle.bpf_insn.specs.declared.insn.Insn.{Insn}
use Rattle.bpf_insn.specs.declared.insn.Insn.TheVariants.{Alu, InPlace, SignExtend, JumpIf, Jump, LoadImmediate, Load, Store, Call, Exit}
use Rattle.bpf_insn.specs.declared.insn.Operand.TheVariants.{Immediate, Register}
use Rattle.bpf_insn.specs.declared.insn.Callee.TheVariants.{Helper, Local}
use Rattle.bpf_insn.specs.declared.insn.Distance.TheVariants.{Far}
use Rattle.bpf_insn.specs.declared.insn.InPlaceOp.TheVariants.{Neg}
use Rattle.bpf_insn.specs.declared.insn.LoadForm.TheVariants.{SignedByte}
use Rattle.bpf_insn.specs.declared.insn.StoreSize.TheVariants as stores
use Rattle.bpf_insn.specs.declared.insn.SignExtension.TheVariants.{From8To64}
use Rattle.bpf_insn.specs.Program.{layout}
use Rattle.std.specs.Fmt.{digits}
use Rattle.bpf_insn.specs.declared.insn.Width.TheVariants.{Bits32, Bits64}
use Rattle.bpf_insn.specs.declared.insn.AluOp.TheVariants.{Mov}
use Rattle.bpf_insn.specs.declared.insn.Condition.TheVariants.{Equal}
use Rattle.bpf_asm.specs.declared.fault.LineFault.TheVariants.{NoToken, NoMnemonic, WrongForm, OutOfRange, LabelDefinedBefore, MissingLabel}
use Rattle.bpf_asm.specs.declared.fault.AsmFault.TheVariants.{At}
use Rattle.bpf_asm.specs.Bytes.{is_letter, is_digit, is_hexadecimal_digit, is_word, is_blank, is_mark}
use Rattle.bpf_asm.specs.Lexemes.{lines, lexemes, spans}
use Rattle.bpf_asm.specs.Tokens.{tokens_of, tokens_in}
use Rattle.bpf_asm.specs.Canon.{canon, insn_text, word_text}
use Rattle.bpf_asm.specs.Numbers.{is_token, number_of, digit_of}
use Rattle.bpf_insn.specs.Operations.{alu_of_name, condition_of_name}
use Rattle.bpf_asm.specs.Mnemonics.{mnemonic_of}
use Rattle.bpf_asm.specs.Reading.{register_of, register_in, written_in, number_in, minus_in, sign_in, immediate_in, word_in, signed_in, operand_in, address_in, target_in}
use Rattle.bpf_asm.specs.Forms.{alu_in, in_place_in, sign_extend_in, jump_near_in, jump_far_in, compared_in, jump_if_in, helper_in, local_in, call_in, load_in, store_immediate_in, store_register_in, load_immediate_in}
use Rattle.bpf_asm.specs.Assembly.{said, said_in, said_by, defined_in, label_in, slots_in}

nothing : said (codes "") ≡ Ok []
unfolding said said_in said_by lines lexemes defined_in label_in slots_in is_token number_of digit_of mnemonic_of alu_of_name condition_of_name register_of register_in written_in number_in minus_in sign_in immediate_in word_in signed_in operand_in address_in target_in alu_in in_place_in sign_extend_in jump_near_in jump_far_in compared_in jump_if_in helper_in local_in call_in load_in store_immediate_in store_register_in load_immediate_in is_letter is_digit is_hexadecimal_digit is_word is_blank is_mark
nothing = refl

exit_alone : said (codes "exit") ≡ Ok (Exit ∷ [])
unfolding said said_in said_by lines lexemes defined_in label_in slots_in is_token number_of digit_of mnemonic_of alu_of_name condition_of_name register_of register_in written_in number_in minus_in sign_in immediate_in word_in signed_in operand_in address_in target_in alu_in in_place_in sign_extend_in jump_near_in jump_far_in compared_in jump_if_in helper_in local_in call_in load_in store_immediate_in store_register_in load_immediate_in is_letter is_digit is_hexadecimal_digit is_word is_blank is_mark
exit_alone = refl

-- blanks, a hexadecimal number, a label in front, a comment; lddw takes two slots
forward : said (codes "  jeq\tr1 ,0x10,end\n\nlddw r1,7\nend : # here\n exit") ≡ Ok (JumpIf Bits64 Equal R1 (Immediate (pos 16)) (pos 2) ∷ LoadImmediate R1 7 ∷ Exit ∷ [])
unfolding said said_in said_by lines lexemes defined_in label_in slots_in is_token number_of digit_of mnemonic_of alu_of_name condition_of_name register_of register_in written_in number_in minus_in sign_in immediate_in word_in signed_in operand_in address_in target_in alu_in in_place_in sign_extend_in jump_near_in jump_far_in compared_in jump_if_in helper_in local_in call_in load_in store_immediate_in store_register_in load_immediate_in is_letter is_digit is_hexadecimal_digit is_word is_blank is_mark
forward = refl

-- r10 is only read, which is told before the number is too great
writes_frame_pointer : said (codes "mov64 r10, 2147483648") ≡ Err (At 1 WrongForm)
unfolding said said_in said_by lines lexemes defined_in label_in slots_in is_token number_of digit_of mnemonic_of alu_of_name condition_of_name register_of register_in written_in number_in minus_in sign_in immediate_in word_in signed_in operand_in address_in target_in alu_in in_place_in sign_extend_in jump_near_in jump_far_in compared_in jump_if_in helper_in local_in call_in load_in store_immediate_in store_register_in load_immediate_in is_letter is_digit is_hexadecimal_digit is_word is_blank is_mark
writes_frame_pointer = refl

too_great : said (codes "mov64 r1, 2147483648") ≡ Err (At 1 OutOfRange)
unfolding said said_in said_by lines lexemes defined_in label_in slots_in is_token number_of digit_of mnemonic_of alu_of_name condition_of_name register_of register_in written_in number_in minus_in sign_in immediate_in word_in signed_in operand_in address_in target_in alu_in in_place_in sign_extend_in jump_near_in jump_far_in compared_in jump_if_in helper_in local_in call_in load_in store_immediate_in store_register_in load_immediate_in is_letter is_digit is_hexadecimal_digit is_word is_blank is_mark
too_great = refl

least : said (codes "mov64 r1, -2147483648") ≡ Ok (Alu Bits64 Mov R1 (Immediate (negsuc 2147483647)) ∷ [])
unfolding said said_in said_by lines lexemes defined_in label_in slots_in is_token number_of digit_of mnemonic_of alu_of_name condition_of_name register_of register_in written_in number_in minus_in sign_in immediate_in word_in signed_in operand_in address_in target_in alu_in in_place_in sign_extend_in jump_near_in jump_far_in compared_in jump_if_in helper_in local_in call_in load_in store_immediate_in store_register_in load_immediate_in is_letter is_digit is_hexadecimal_digit is_word is_blank is_mark
least = refl

constant_too_great : said (codes "lddw r3, 0x10000000000000000") ≡ Err (At 1 OutOfRange)
unfolding said said_in said_by lines lexemes defined_in label_in slots_in is_token number_of digit_of mnemonic_of alu_of_name condition_of_name register_of register_in written_in number_in minus_in sign_in immediate_in word_in signed_in operand_in address_in target_in alu_in in_place_in sign_extend_in jump_near_in jump_far_in compared_in jump_if_in helper_in local_in call_in load_in store_immediate_in store_register_in load_immediate_in is_letter is_digit is_hexadecimal_digit is_word is_blank is_mark
constant_too_great = refl

constant_below_0 : said (codes "lddw r1, -1") ≡ Err (At 1 OutOfRange)
unfolding said said_in said_by lines lexemes defined_in label_in slots_in is_token number_of digit_of mnemonic_of alu_of_name condition_of_name register_of register_in written_in number_in minus_in sign_in immediate_in word_in signed_in operand_in address_in target_in alu_in in_place_in sign_extend_in jump_near_in jump_far_in compared_in jump_if_in helper_in local_in call_in load_in store_immediate_in store_register_in load_immediate_in is_letter is_digit is_hexadecimal_digit is_word is_blank is_mark
constant_below_0 = refl

no_mnemonic : said (codes "foo r1") ≡ Err (At 1 NoMnemonic)
unfolding said said_in said_by lines lexemes defined_in label_in slots_in is_token number_of digit_of mnemonic_of alu_of_name condition_of_name register_of register_in written_in number_in minus_in sign_in immediate_in word_in signed_in operand_in address_in target_in alu_in in_place_in sign_extend_in jump_near_in jump_far_in compared_in jump_if_in helper_in local_in call_in load_in store_immediate_in store_register_in load_immediate_in is_letter is_digit is_hexadecimal_digit is_word is_blank is_mark
no_mnemonic = refl

label_twice : said (codes "done:\ndone:\nexit") ≡ Err (At 2 LabelDefinedBefore)
unfolding said said_in said_by lines lexemes defined_in label_in slots_in is_token number_of digit_of mnemonic_of alu_of_name condition_of_name register_of register_in written_in number_in minus_in sign_in immediate_in word_in signed_in operand_in address_in target_in alu_in in_place_in sign_extend_in jump_near_in jump_far_in compared_in jump_if_in helper_in local_in call_in load_in store_immediate_in store_register_in load_immediate_in is_letter is_digit is_hexadecimal_digit is_word is_blank is_mark
label_twice = refl

no_label : said (codes "ja done\nexit") ≡ Err (At 1 MissingLabel)
unfolding said said_in said_by lines lexemes defined_in label_in slots_in is_token number_of digit_of mnemonic_of alu_of_name condition_of_name register_of register_in written_in number_in minus_in sign_in immediate_in word_in signed_in operand_in address_in target_in alu_in in_place_in sign_extend_in jump_near_in jump_far_in compared_in jump_if_in helper_in local_in call_in load_in store_immediate_in store_register_in load_immediate_in is_letter is_digit is_hexadecimal_digit is_word is_blank is_mark
no_label = refl

upper_case : said (codes "Mov64 r1, 1") ≡ Err (At 1 NoToken)
unfolding said said_in said_by lines lexemes defined_in label_in slots_in is_token number_of digit_of mnemonic_of alu_of_name condition_of_name register_of register_in written_in number_in minus_in sign_in immediate_in word_in signed_in operand_in address_in target_in alu_in in_place_in sign_extend_in jump_near_in jump_far_in compared_in jump_if_in helper_in local_in call_in load_in store_immediate_in store_register_in load_immediate_in is_letter is_digit is_hexadecimal_digit is_word is_blank is_mark
upper_case = refl

no_name : said (codes "mov64 r1, 1a") ≡ Err (At 1 NoToken)
unfolding said said_in said_by lines lexemes defined_in label_in slots_in is_token number_of digit_of mnemonic_of alu_of_name condition_of_name register_of register_in written_in number_in minus_in sign_in immediate_in word_in signed_in operand_in address_in target_in alu_in in_place_in sign_extend_in jump_near_in jump_far_in compared_in jump_if_in helper_in local_in call_in load_in store_immediate_in store_register_in load_immediate_in is_letter is_digit is_hexadecimal_digit is_word is_blank is_mark
no_name = refl

-- a lawful A7: no line is faulty, and nothing is said
comment_alone : said (codes "# nothing\n\n") ≡ Ok []
unfolding said said_in said_by lines lexemes defined_in label_in slots_in is_token number_of digit_of mnemonic_of alu_of_name condition_of_name register_of register_in written_in number_in minus_in sign_in immediate_in word_in signed_in operand_in address_in target_in alu_in in_place_in sign_extend_in jump_near_in jump_far_in compared_in jump_if_in helper_in local_in call_in load_in store_immediate_in store_register_in load_immediate_in is_letter is_digit is_hexadecimal_digit is_word is_blank is_mark
comment_alone = refl

-- calls, and every form of memory
memory : said (codes "call local +0\nldxsb r1, [r2-3]\nstdw [r10-8], -1\nstxb [r1+0], r2\nja32 -4\ncall 5\nneg32 r3\nmovsx64_8 r1, r2") ≡ Ok (Call (Local (pos 0)) ∷ Load SignedByte R1 R2 (negsuc 2) ∷ Store stores.DoubleWord R10 (Immediate (negsuc 0)) (negsuc 7) ∷ Store stores.Byte R1 (Register R2) (pos 0) ∷ Jump (Far (negsuc 3)) ∷ Call (Helper (pos 5)) ∷ InPlace (Neg Bits32) R3 ∷ SignExtend From8To64 R1 R2 ∷ [])
unfolding said said_in said_by lines lexemes defined_in label_in slots_in is_token number_of digit_of mnemonic_of alu_of_name condition_of_name register_of register_in written_in number_in minus_in sign_in immediate_in word_in signed_in operand_in address_in target_in alu_in in_place_in sign_extend_in jump_near_in jump_far_in compared_in jump_if_in helper_in local_in call_in load_in store_immediate_in store_register_in load_immediate_in is_letter is_digit is_hexadecimal_digit is_word is_blank is_mark
memory = refl

-- a program that frees what it holds, as it is printed, and read again
releases : List Insn
releases = JumpIf Bits64 Equal R2 (Immediate (pos 0)) (pos 2) ∷ Alu Bits64 Mov R1 (Register R2) ∷ Call (Helper (pos 2)) ∷ Alu Bits64 Mov R1 (Immediate (pos 1)) ∷ Call (Helper (pos 4)) ∷ Alu Bits64 Mov R0 (Immediate (pos 0)) ∷ Exit ∷ []

printed : canon (layout releases) ≡ codes "jeq r2, 0, +2\nmov64 r1, r2\ncall 2\nmov64 r1, 1\ncall 4\nmov64 r0, 0\nexit\n"
unfolding releases canon insn_text digits
printed = refl

read_again : said (codes "jeq r2, 0, +2\nmov64 r1, r2\ncall 2\nmov64 r1, 1\ncall 4\nmov64 r0, 0\nexit\n") ≡ Ok releases
unfolding said said_in said_by lines lexemes defined_in label_in slots_in is_token number_of digit_of mnemonic_of alu_of_name condition_of_name register_of register_in written_in number_in minus_in sign_in immediate_in word_in signed_in operand_in address_in target_in alu_in in_place_in sign_extend_in jump_near_in jump_far_in compared_in jump_if_in helper_in local_in call_in load_in store_immediate_in store_register_in load_immediate_in is_letter is_digit is_hexadecimal_digit is_word is_blank is_mark releases
read_again = refl

-- a constant of 64 bits is printed with 16 digits
constant : canon (layout (LoadImmediate R3 0xfedcba9876543210 ∷ LoadImmediate R1 7 ∷ [])) ≡ codes "lddw r3, 0xfedcba9876543210\nlddw r1, 0x0000000000000007\n"
unfolding canon insn_text word_text digits
constant = refl

-- the places of tokens
places : tokens_of (codes "ja +2 # x\n\texit") ≡ Ok (record { start = 0; end = 2 } ∷ record { start = 3; end = 4 } ∷ record { start = 4; end = 5 } ∷ record { start = 11; end = 15 } ∷ [])
unfolding tokens_of tokens_in spans lines lexemes is_token number_of digit_of is_letter is_digit is_hexadecimal_digit is_word is_blank is_mark
places = refl

no_token : tokens_of (codes "ja +2\n1a\n@") ≡ Err (At 2 NoToken)
unfolding tokens_of tokens_in spans lines lexemes is_token number_of digit_of is_letter is_digit is_hexadecimal_digit is_word is_blank is_mark
no_token = refl
