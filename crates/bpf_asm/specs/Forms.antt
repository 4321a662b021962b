-- What follows each mnemonic, and the instruction that it makes: None where it is of another form, else the instruction or the
-- fault of a number or label in it. labels says where a label is, and next is the slot after the instruction's.
use Rattle.std.specs.Prelude.{ℕ, List, Option, Some, Result, Ok, bytes_eq, codes, if◌then◌else◌}
use Rattle.bpf_insn.specs.declared.insn.Insn.{Insn}
use Rattle.bpf_insn.specs.declared.insn.Insn.TheVariants.{Alu, InPlace, SignExtend, JumpIf, Jump, LoadImmediate, Load, Store, Call, Exit}
use Rattle.bpf_insn.specs.declared.insn.Operand.TheVariants.{Immediate, Register}
use Rattle.bpf_insn.specs.declared.insn.Operand.{Operand}
use Rattle.bpf_insn.specs.declared.reg.Reg.{Reg}
use Rattle.bpf_insn.specs.declared.insn.Callee.TheVariants.{Helper, Local}
use Rattle.bpf_insn.specs.declared.insn.Distance.TheVariants.{Near, Far}
use Rattle.bpf_insn.specs.declared.insn.LoadForm.{LoadForm}
use Rattle.bpf_insn.specs.declared.insn.StoreSize.{StoreSize}
use Rattle.bpf_insn.specs.declared.insn.Width.{Width}
use Rattle.bpf_insn.specs.declared.insn.AluOp.{AluOp}
use Rattle.bpf_insn.specs.declared.insn.InPlaceOp.{InPlaceOp}
use Rattle.bpf_insn.specs.declared.insn.SignExtension.{SignExtension}
use Rattle.bpf_insn.specs.declared.insn.Condition.{Condition}
use Rattle.bpf_asm.specs.declared.fault.LineFault.{LineFault}
use Rattle.bpf_asm.specs.declared.labels.Label.{Label}
use Rattle.bpf_asm.specs.declared.mnemonic.Mnemonic.{Mnemonic}
use Rattle.bpf_asm.specs.declared.mnemonic.Mnemonic.TheVariants as mnemonics
use Rattle.bpf_asm.specs.Reading.{◌>>=◌, unless_faulty, first_in, mark_in, ended, register_in, written_in, immediate_in, word_in, operand_in, address_in, target_in, imm, offset}

-- `rD, rS` or `rD, N`
unfoldable pub alu_in : Width → AluOp → List (List ℕ) → Option (Result Insn LineFault)
alu_in width op words = do
  dst ← written_in words
  comma ← mark_in 44 dst.1
  src ← operand_in comma
  ended (unless_faulty src.0 (λ s. Ok (Alu width op dst.0 s))) src.1

-- `rD`
unfoldable pub in_place_in : InPlaceOp → List (List ℕ) → Option (Result Insn LineFault)
in_place_in op words = do
  dst ← written_in words
  ended (Ok (InPlace op dst.0)) dst.1

-- `rD, rS`
unfoldable pub sign_extend_in : SignExtension → List (List ℕ) → Option (Result Insn LineFault)
sign_extend_in extension words = do
  dst ← written_in words
  comma ← mark_in 44 dst.1
  src ← register_in comma
  ended (Ok (SignExtend extension dst.0 src.0)) src.1

-- `T`
unfoldable pub jump_near_in : (List ℕ → Option Label) → ℕ → List (List ℕ) → Option (Result Insn LineFault)
jump_near_in labels next words = do
  target ← target_in labels next words
  ended (unless_faulty (offset target.0) (λ d. Ok (Jump (Near d)))) target.1

unfoldable pub jump_far_in : (List ℕ → Option Label) → ℕ → List (List ℕ) → Option (Result Insn LineFault)
jump_far_in labels next words = do
  target ← target_in labels next words
  ended (unless_faulty (imm target.0) (λ d. Ok (Jump (Far d)))) target.1

-- `rD, rS` or `rD, N`, of which the register is only read
unfoldable pub compared_in : List (List ℕ) → Option ((Reg × Result Operand LineFault) × List (List ℕ))
compared_in words = do
  dst ← register_in words
  comma ← mark_in 44 dst.1
  src ← operand_in comma
  Some ((dst.0, src.0), src.1)

-- `rD, rS, T` or `rD, N, T`
unfoldable pub jump_if_in : (List ℕ → Option Label) → ℕ → Width → Condition → List (List ℕ) → Option (Result Insn LineFault)
jump_if_in labels next width condition words = do
  compared ← compared_in words
  comma ← mark_in 44 compared.1
  target ← target_in labels next comma
  ended (unless_faulty compared.0.1 (λ s. unless_faulty (offset target.0) (λ d. Ok (JumpIf width condition compared.0.0 s d)))) target.1

-- `N`, or `local T`
unfoldable pub helper_in : List (List ℕ) → Option (Result Insn LineFault)
helper_in words = do
  number ← immediate_in words
  ended (unless_faulty number.0 (λ n. Ok (Call (Helper n)))) number.1

unfoldable pub local_in : (List ℕ → Option Label) → ℕ → List (List ℕ) → Option (Result Insn LineFault)
local_in labels next words = do
  target ← target_in labels next words
  ended (unless_faulty (imm target.0) (λ d. Ok (Call (Local d)))) target.1

unfoldable pub call_in : (List ℕ → Option Label) → ℕ → List (List ℕ) → Option (Result Insn LineFault)
call_in labels next words = do
  word ← first_in words
  if bytes_eq word.0 (codes "local") then local_in labels next word.1 else helper_in words

-- `rD, [rS+N]`
unfoldable pub load_in : LoadForm → List (List ℕ) → Option (Result Insn LineFault)
load_in form words = do
  dst ← written_in words
  comma ← mark_in 44 dst.1
  address ← address_in comma
  ended (unless_faulty address.0.1 (λ o. Ok (Load form dst.0 address.0.0 o))) address.1

-- `[rD+N], N`
unfoldable pub store_immediate_in : StoreSize → List (List ℕ) → Option (Result Insn LineFault)
store_immediate_in size words = do
  address ← address_in words
  comma ← mark_in 44 address.1
  value ← immediate_in comma
  ended (unless_faulty address.0.1 (λ o. unless_faulty value.0 (λ v. Ok (Store size address.0.0 (Immediate v) o)))) value.1

-- `[rD+N], rS`
unfoldable pub store_register_in : StoreSize → List (List ℕ) → Option (Result Insn LineFault)
store_register_in size words = do
  address ← address_in words
  comma ← mark_in 44 address.1
  src ← register_in comma
  ended (unless_faulty address.0.1 (λ o. Ok (Store size address.0.0 (Register src.0) o))) src.1

-- `rD, N`
unfoldable pub load_immediate_in : List (List ℕ) → Option (Result Insn LineFault)
load_immediate_in words = do
  dst ← written_in words
  comma ← mark_in 44 dst.1
  word ← word_in comma
  ended (unless_faulty word.0 (λ v. Ok (LoadImmediate dst.0 v))) word.1

abbrev pub insn_in : (List ℕ → Option Label) → ℕ → Mnemonic → List (List ℕ) → Option (Result Insn LineFault)
insn_in labels next (mnemonics.Alu width op) words = alu_in width op words
insn_in labels next (mnemonics.InPlace op) words = in_place_in op words
insn_in labels next (mnemonics.SignExtend extension) words = sign_extend_in extension words
insn_in labels next mnemonics.JumpNear words = jump_near_in labels next words
insn_in labels next mnemonics.JumpFar words = jump_far_in labels next words
insn_in labels next (mnemonics.JumpIf width condition) words = jump_if_in labels next width condition words
insn_in labels next mnemonics.Call words = call_in labels next words
insn_in labels next mnemonics.Exit words = ended (Ok Exit) words
insn_in labels next (mnemonics.Load form) words = load_in form words
insn_in labels next (mnemonics.StoreImmediate size) words = store_immediate_in size words
insn_in labels next (mnemonics.StoreRegister size) words = store_register_in size words
insn_in labels next mnemonics.LoadImmediate words = load_immediate_in words
