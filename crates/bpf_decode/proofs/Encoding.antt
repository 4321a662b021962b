-- Bytes that are written after others: the slots of one instruction more, and of a program's instructions in their order.
use Rattle.std.proofs.Common.{◌≡◌, ◌≤◌, ℕ, zero, suc, ◌+◌, ◌*◌, List, [], ◌∷◌, ◌++◌, length, take, drop, Some, None, refl, sym, subst, ap, ◌∙◌, arith}
use Rattle.std.proofs.Math.Seq.{drop-append_seam}
use Rattle.std.proofs.lemmas.List.{length-append, drop-append-le, drop_all}
use Rattle.bpf_insn.specs.declared.insn.Insn.{Insn}
use Rattle.bpf_insn.specs.declared.program.Slot.{Slot}
use Rattle.bpf_insn.specs.declared.program.Slot.TheVariants.{First, Second}
use Rattle.bpf_insn.specs.Program.{slots_of, insns_in, insn_at}
use Rattle.bpf_decode.specs.declared.fields.Fields.{Fields}
use Rattle.bpf_decode.specs.Fields.{fields_of}
use Rattle.bpf_decode.specs.Spells.{row, rows, further_rows, HasWord, BeginsWith, SpellsInsn, SpellsThen, behind_insn}
use Rattle.bpf_decode.proofs.Texts.{length-rows, length-spelled, SpellsThen-push}

fields_of-append : (a t : List ℕ) → 8 ≤ length a → fields_of (a ++ t) ≡ fields_of a
fields_of-append [] t long = absurd (omega arith)
fields_of-append (_ ∷ []) t long = absurd (omega arith)
fields_of-append (_ ∷ _ ∷ []) t long = absurd (omega arith)
fields_of-append (_ ∷ _ ∷ _ ∷ []) t long = absurd (omega arith)
fields_of-append (_ ∷ _ ∷ _ ∷ _ ∷ []) t long = absurd (omega arith)
fields_of-append (_ ∷ _ ∷ _ ∷ _ ∷ _ ∷ []) t long = absurd (omega arith)
fields_of-append (_ ∷ _ ∷ _ ∷ _ ∷ _ ∷ _ ∷ []) t long = absurd (omega arith)
fields_of-append (_ ∷ _ ∷ _ ∷ _ ∷ _ ∷ _ ∷ _ ∷ []) t long = absurd (omega arith)
fields_of-append (_ ∷ _ ∷ _ ∷ _ ∷ _ ∷ _ ∷ _ ∷ _ ∷ a) t long = refl

BeginsWith-append : (a t : List ℕ) (slots : List Fields) → BeginsWith a slots → BeginsWith (a ++ t) slots
BeginsWith-append a t [] h = tt
BeginsWith-append a t (first ∷ slots) h = (
  omega (arith, h.0, length-append a t),
  fields_of-append a t h.0 ∙ h.1,
  subst (λ (b : List ℕ). BeginsWith b slots) (sym (drop-append-le 8 a t h.0)) (BeginsWith-append (drop 8 a) t slots h.2),
)

-- what follows a text is its rest
SpellsThen-append : (a t : List ℕ) (insns : List Insn) → SpellsThen a insns [] → SpellsThen (a ++ t) insns t
SpellsThen-append a t [] h = ap (λ (b : List ℕ). b ++ t) h
SpellsThen-append a t (i ∷ is) h = (
  (BeginsWith-append a t (rows i) h.0.0, h.0.1),
  subst (λ (b : List ℕ). SpellsThen b is t) (sym (drop-append-le (8 * length (slots_of i)) a t (length-spelled a i h.0))) (SpellsThen-append (behind_insn a i) t is h.1),
)

-- the slots of one instruction after those of others
behind : (a t : List ℕ) (insns : List Insn) (insn : Insn) → SpellsThen a insns [] → SpellsInsn t insn → length t ≡ 8 * length (slots_of insn)
    → SpellsThen (a ++ t) (insns ++ insn ∷ []) []
behind a t insns insn h spelled whole =
    let nothing : behind_insn t insn ≡ [] = drop_all (8 * length (slots_of insn)) t (omega (arith, whole)) in
    subst (λ (r : List ℕ). SpellsThen (a ++ t) (insns ++ insn ∷ []) r) nothing (SpellsThen-push (a ++ t) insns t insn (SpellsThen-append a t insns h) spelled)

pub one_slot : (a t : List ℕ) (insn : Insn) → fields_of t ≡ row insn → length t ≡ 8 → further_rows insn ≡ [] → HasWord insn
    → (insns : List Insn) → SpellsThen a insns [] → SpellsThen (a ++ t) (insns ++ insn ∷ []) []
one_slot a t insn is_row long none word insns h =
    let further : BeginsWith (drop 8 t) (further_rows insn) = rw none tt in
    behind a t insns insn h ((omega arith, is_row, further), word) (omega (arith, long, length-rows insn, ap length none))

pub two_slots : (a t u : List ℕ) (second : Fields) (insn : Insn) → fields_of t ≡ row insn → length t ≡ 8
    → fields_of u ≡ second → length u ≡ 8 → further_rows insn ≡ second ∷ [] → HasWord insn
    → (insns : List Insn) → SpellsThen a insns [] → SpellsThen (a ++ (t ++ u)) (insns ++ insn ∷ []) []
two_slots a t u second insn is_row long is_second also_long some word insns h =
    let rest : drop 8 (t ++ u) ≡ u = subst (λ (n : ℕ). drop n (t ++ u) ≡ u) long (drop-append_seam t u) in
    let begins : BeginsWith u (second ∷ []) = (omega arith, is_second, tt) in
    let further : BeginsWith (drop 8 (t ++ u)) (further_rows insn) = rw (some, rest) begins in
    behind a (t ++ u) insns insn h
    ((omega (arith, length-append t u), fields_of-append t u (omega arith) ∙ is_row, further), word)
    (omega (arith, long, also_long, length-append t u, length-rows insn, ap length some))

-- the instructions of the slots up to a place, and of one slot more
insns_up_to : (slots : List Slot) (place : ℕ) (insn : Insn) → insn_at slots place ≡ Some insn
    → insns_in (take (suc place) slots) ≡ insns_in (take place slots) ++ insn ∷ []
insns_up_to [] place insn e = absurd cc
insns_up_to (First first ∷ slots) zero insn e = cc
insns_up_to (Second ∷ slots) zero insn e = absurd cc
insns_up_to (First first ∷ slots) (suc place) insn e = ap (λ (is : List Insn). first ∷ is) (insns_up_to slots place insn e)
insns_up_to (Second ∷ slots) (suc place) insn e = insns_up_to slots place insn e

no_insn_more : (slots : List Slot) (place : ℕ) → insn_at slots place ≡ None → insns_in (take (suc place) slots) ≡ insns_in (take place slots)
no_insn_more [] zero e = refl
no_insn_more [] (suc place) e = refl
no_insn_more (First first ∷ slots) zero e = absurd cc
no_insn_more (Second ∷ slots) zero e = refl
no_insn_more (First first ∷ slots) (suc place) e = ap (λ (is : List Insn). first ∷ is) (no_insn_more slots place e)
no_insn_more (Second ∷ slots) (suc place) e = no_insn_more slots place e

-- what is spelled up to a place is spelled up to the next one, where the slot's instruction is written or there is none
pub written : (old new : List ℕ) (slots : List Slot) (place : ℕ) (insn : Insn) → insn_at slots place ≡ Some insn → SpellsThen old (insns_in (take place slots)) []
    → ((insns : List Insn) → SpellsThen old insns [] → SpellsThen new (insns ++ insn ∷ []) []) → SpellsThen new (insns_in (take (place + 1) slots)) []
written old new slots place insn e h push =
    let next : suc place ≡ place + 1 = omega arith in
    subst (λ (is : List Insn). SpellsThen new is []) (sym (insns_up_to slots place insn e) ∙ ap (λ (n : ℕ). insns_in (take n slots)) next)
    (push (insns_in (take place slots)) h)

pub nothing_written : (old : List ℕ) (slots : List Slot) (place : ℕ) → insn_at slots place ≡ None → SpellsThen old (insns_in (take place slots)) [] → SpellsThen old (insns_in (take (place + 1) slots)) []
nothing_written old slots place e h =
    let next : suc place ≡ place + 1 = omega arith in
    subst (λ (is : List Insn). SpellsThen old is []) (sym (no_insn_more slots place e) ∙ ap (λ (n : ℕ). insns_in (take n slots)) next) h
