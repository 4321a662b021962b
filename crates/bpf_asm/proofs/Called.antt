-- What is found by a name has this name.
use Rattle.std.proofs.Common.{◌≡◌, ℕ, Bool, true, false, List, [], ◌∷◌, Option, Some, None, refl, subst, bytes_eq, if◌then◌else◌}
use Rattle.std.specs.Prelude.{IfSome, find}
use Rattle.std.specs.Option.{option_or, option_map}
use Rattle.std.proofs.lemmas.Slice.Eq.{bytes_eq-Decides}
use Rattle.bpf_insn.specs.declared.insn.Width.{Width}
use Rattle.bpf_insn.specs.declared.insn.Width.TheVariants.{Bits32, Bits64}
use Rattle.bpf_insn.specs.Operations.{alu_of_name, condition_of_name}
use Rattle.bpf_insn.proofs.FoundRows.{found_op_of_name, found_condition_of_name}
use Rattle.bpf_asm.specs.declared.mnemonic.Mnemonic.{Mnemonic}
use Rattle.bpf_asm.specs.declared.mnemonic.Mnemonic.TheVariants as mnemonics
use Rattle.bpf_asm.specs.declared.table.TheConstants.{OTHER_MNEMONICS}
use Rattle.bpf_asm.specs.Mnemonics.{name_of, mnemonic_of}

abbrev IsCalled : List ℕ → Mnemonic → Type 0
IsCalled word mnemonic = name_of mnemonic ≡ word

either : (P : Mnemonic → Type 0) (first second : Option Mnemonic) → IfSome first P → IfSome second P → IfSome (option_or first second) P
either P None second h k = k
either P (Some x) second h k = h

mapped : {A : Type 0} (f : A → Mnemonic) (P : Mnemonic → Type 0) (found : Option A) → IfSome found (λ x. P (f x)) → IfSome (option_map f found) P
mapped f P None h = tt
mapped f P (Some x) h = h

-- an operation's, a condition's, and one of the table
abbrev of_op : List ℕ → Width → Option Mnemonic
of_op word width = option_map (mnemonics.Alu width) (alu_of_name width word)

abbrev of_condition : List ℕ → Width → Option Mnemonic
of_condition word width = option_map (mnemonics.JumpIf width) (condition_of_name width word)

abbrev of_table : List ℕ → List Mnemonic → Option Mnemonic
of_table word table = find (λ mnemonic. bytes_eq (name_of mnemonic) word) table

by_op : (word : List ℕ) (width : Width) → IfSome (of_op word width) (IsCalled word)
by_op word width = mapped (mnemonics.Alu width) (IsCalled word) (alu_of_name width word) (found_op_of_name width word _ refl)

by_condition : (word : List ℕ) (width : Width) → IfSome (of_condition word width) (IsCalled word)
by_condition word width = mapped (mnemonics.JumpIf width) (IsCalled word) (condition_of_name width word) (found_condition_of_name width word _ refl)

chosen : (word : List ℕ) (mnemonic : Mnemonic) (rest : Option Mnemonic) (same : Bool) → (same ≡ true → IsCalled word mnemonic) → IfSome rest (IsCalled word)
    → IfSome (if same then Some mnemonic else rest) (IsCalled word)
chosen word mnemonic rest true here behind = here refl
chosen word mnemonic rest false here behind = behind

by_table : (word : List ℕ) (table : List Mnemonic) → IfSome (of_table word table) (IsCalled word)
by_table word [] = tt
by_table word (mnemonic ∷ table) =
    chosen word mnemonic (of_table word table) (bytes_eq (name_of mnemonic) word) ((bytes_eq-Decides (name_of mnemonic) word).0) (by_table word table)

called : (word : List ℕ) → IfSome (mnemonic_of word) (IsCalled word)
unfolding mnemonic_of
called word =
    let others = of_table word OTHER_MNEMONICS in
    let jumps = option_or (of_condition word Bits64) others in
    let all_jumps = option_or (of_condition word Bits32) jumps in
    either (IsCalled word) (of_op word Bits32) (option_or (of_op word Bits64) all_jumps) (by_op word Bits32)
    (either (IsCalled word) (of_op word Bits64) all_jumps (by_op word Bits64)
    (either (IsCalled word) (of_condition word Bits32) jumps (by_condition word Bits32)
    (either (IsCalled word) (of_condition word Bits64) others (by_condition word Bits64) (by_table word OTHER_MNEMONICS))))

pub called_as_found : (word : List ℕ) (mnemonic : Mnemonic) → mnemonic_of word ≡ Some mnemonic → name_of mnemonic ≡ word
called_as_found word mnemonic is = subst (λ (found : Option Mnemonic). IfSome found (IsCalled word)) is (called word)
