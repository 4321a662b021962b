-- The lines of a program's instructions up to a place, of one slot more, and of all.
use Rattle.std.proofs.Common.{◌≡◌, ◌≤◌, ℕ, zero, suc, ◌+◌, List, [], ◌∷◌, ◌++◌, take, length, Some, None, refl, ap, ◌∙◌, append-nil, add-one}
use Rattle.std.specs.Prelude.{flat_map}
use Rattle.std.specs.List.{AllByRecursion}
use Rattle.std.proofs.lemmas.List.{take_all}
use Rattle.std.proofs.lemmas.List.Concat.{flat_map-cons}
use Rattle.std.proofs.lemmas.Grind.{flat_map-append}
use Rattle.bpf_insn.specs.declared.insn.Insn.{Insn}
use Rattle.bpf_insn.specs.declared.program.Slot.{Slot}
use Rattle.bpf_insn.specs.declared.program.Slot.TheVariants.{First, Second}
use Rattle.bpf_insn.specs.Program.{IsProgram, insns_in, insn_at}
use Rattle.bpf_asm.specs.Assembly.{Says}
use Rattle.bpf_asm.specs.Canon.{insn_text, canon, HasNumbers}
use Rattle.bpf_asm.proofs.Again.{said_again}

-- the instructions of the slots up to a place, and of one slot more
insns_up_to : (slots : List Slot) (place : ℕ) (insn : Insn) → insn_at slots place ≡ Some insn → insns_in (take (suc place) slots) ≡ insns_in (take place slots) ++ insn ∷ []
insns_up_to [] place insn e = absurd cc
insns_up_to (First first ∷ slots) zero insn e = cc
insns_up_to (Second ∷ slots) zero insn e = absurd cc
insns_up_to (First first ∷ slots) (suc place) insn e = ap (λ (is : List Insn). first ∷ is) (insns_up_to slots place insn e)
insns_up_to (Second ∷ slots) (suc place) insn e = insns_up_to slots place insn e

no_insn_more : (slots : List Slot) (place : ℕ) → insn_at slots place ≡ None → insns_in (take (suc place) slots) ≡ insns_in (take place slots)
no_insn_more [] zero e = refl
no_insn_more [] (suc place) e = refl
no_insn_more (First first ∷ slots) zero e = absurd cc
no_insn_more (Second ∷ slots) zero e = refl
no_insn_more (First first ∷ slots) (suc place) e = ap (λ (is : List Insn). first ∷ is) (no_insn_more slots place e)
no_insn_more (Second ∷ slots) (suc place) e = no_insn_more slots place e

-- a text has the lines of these instructions, whose numbers are of their types
pub record ArePrinted (text : List ℕ) (insns : List Insn) : Type 0 where
  pub lines : text ≡ flat_map insn_text insns
  pub numbers : AllByRecursion HasNumbers insns

numbers_push : (insns : List Insn) (insn : Insn) → AllByRecursion HasNumbers insns → HasNumbers insn → AllByRecursion HasNumbers (insns ++ insn ∷ [])
numbers_push [] insn all one = (one, tt)
numbers_push (first ∷ insns) insn all one = (all.0, numbers_push insns insn all.1 one)

-- one line more
printed_push : (text : List ℕ) (insns : List Insn) (insn : Insn) → HasNumbers insn → ArePrinted text insns → ArePrinted (text ++ insn_text insn) (insns ++ insn ∷ [])
printed_push text insns insn numbers so_far =
    let single : flat_map insn_text (insn ∷ []) ≡ insn_text insn = flat_map-cons insn_text insn [] ∙ append-nil (insn_text insn) in
    record {
      lines = rw (so_far.lines, flat_map-append insn_text insns (insn ∷ []), single) refl;
      numbers = numbers_push insns insn so_far.numbers numbers;
    }

pub one_more : (text : List ℕ) (slots : List Slot) (place : ℕ) (insn : Insn) → insn_at slots place ≡ Some insn → HasNumbers insn → ArePrinted text (insns_in (take place slots)) → ArePrinted (text ++ insn_text insn) (insns_in (take (place + 1) slots))
one_more text slots place insn e numbers so_far =
    rw (add-one, insns_up_to slots place insn e) (printed_push text (insns_in (take place slots)) insn numbers so_far)

pub no_more : (text : List ℕ) (slots : List Slot) (place : ℕ) → insn_at slots place ≡ None → ArePrinted text (insns_in (take place slots)) → ArePrinted text (insns_in (take (place + 1) slots))
no_more text slots place e so_far = rw (add-one, no_insn_more slots place e) so_far

-- what is printed to the end is the program's text, and says the program
pub all_printed : (text : List ℕ) (program : List Slot) (count : ℕ) → length program ≤ count → IsProgram program → ArePrinted text (insns_in (take count program)) → (text ≡ canon program) × Says text program
unfolding canon
all_printed text program count to_end p printed =
    let all = rw (take_all count program to_end) at printed in
    (all.lines, rw all.lines (said_again program p all.numbers))
