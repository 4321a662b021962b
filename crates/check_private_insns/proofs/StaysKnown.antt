-- What is known of the registers stays known where more is found of a number.
use Rattle.std.proofs.Common.{◌≡◌, List, Option, get_or, ap, sym, subst, ◌∙◌, inl, inr, ne_eqb}
use Rattle.std.proofs.lemmas.Bool.{cases_eq}
use Rattle.bpf_insn.specs.declared.reg.Reg.{Reg}
use Rattle.bpf_insn.specs.Reg.{number_of}
use Rattle.check_description.specs.declared.description.Description.{Description}
use Rattle.check_description.specs.declared.description.Loaded.{Loaded}
use Rattle.stack_domain.specs.declared.numbers.StackNumber.{StackNumber}
use Rattle.check_register_kinds.specs.declared.kind.Kind.{Kind}
use Rattle.check_register_kinds.specs.declared.kind.Kind.TheVariants.{Unwritten, Number, Address, Freeze}
use Rattle.check_description.specs.Description.{kind_at}
use Rattle.check_private_insns.specs.Enough.{ChangesOnly, LeavesKnown, StaysKnown}
use Rattle.check_register_kinds.specs.Kinds.{IsNumber}

pub same_stays : (before after : Kind) → after ≡ before → StaysKnown before after
same_stays Unwritten after e = tt
same_stays (Number scalar) after e = subst IsNumber (sym e) tt
same_stays (Address region offsets) after e = e
same_stays (Freeze name) after e = e

number_stays : (before after : Kind) → IsNumber before → IsNumber after → StaysKnown before after
number_stays Unwritten after before_is after_is = tt
number_stays (Number scalar) after before_is after_is = after_is
number_stays (Address region offsets) after before_is after_is = absurd before_is
number_stays (Freeze name) after before_is after_is = absurd before_is

pub still_number : (before after : Kind) → IsNumber before → StaysKnown before after → IsNumber after
still_number Unwritten after before_is stays = absurd before_is
still_number (Number scalar) after before_is stays = stays
still_number (Address region offsets) after before_is stays = absurd before_is
still_number (Freeze name) after before_is stays = absurd before_is

stays_twice : (before between after : Kind) → StaysKnown before between → StaysKnown between after → StaysKnown before after
stays_twice Unwritten between after first second = tt
stays_twice (Number scalar) between after first second = still_number between after first second
stays_twice (Address region offsets) between after first second = subst (λ kind. StaysKnown kind after) first second
stays_twice (Freeze name) between after first second = subst (λ kind. StaysKnown kind after) first second

pub number_known : (d there : Description) (dst : Reg) → IsNumber (kind_at d dst) → IsNumber (kind_at there dst) → ChangesOnly dst d there → LeavesKnown d there
number_known d there dst before after only = record {
  registers = λ reg. elim (cases_eq (number_of reg) (number_of dst)) [
    | inl same ↦ number_stays (kind_at d reg) (kind_at there reg) (subst IsNumber (ap (λ n. get_or d.registers n Unwritten) (sym same)) before) (subst IsNumber (ap (λ n. get_or there.registers n Unwritten) (sym same)) after)
    | inr other ↦ same_stays (kind_at d reg) (kind_at there reg) (only.others reg (ne_eqb _ _ other))
  ];
  stack = only.stack;
  spills = only.spills;
  disposal = only.disposal;
}

pub known_twice : (d between there : Description) → LeavesKnown d between → LeavesKnown between there → LeavesKnown d there
known_twice d between there first second = record {
  registers = λ reg. stays_twice (kind_at d reg) (kind_at between reg) (kind_at there reg) (first.registers reg) (second.registers reg);
  stack = second.stack ∙ first.stack;
  spills = second.spills ∙ first.spills;
  disposal = second.disposal ∙ first.disposal;
}

-- whatever is known of the stack's numbers
pub changes_linked : (d there : Description) (linked : Option Loaded) (dst : Reg) → ChangesOnly dst d there → ChangesOnly dst d (record there { loaded = linked })
changes_linked d there linked dst only = record { others = only.others; stack = only.stack; spills = only.spills; held = only.held; disposal = only.disposal }

pub changes_numbers : (d there after : Description) (standing : List (Option StackNumber)) (dst : Reg) → after ≡ record there { numbers = standing } → ChangesOnly dst d there → ChangesOnly dst d after
changes_numbers d there after standing dst same only = subst (ChangesOnly dst d) (sym same) (
    let changed : ChangesOnly dst d (record there { numbers = standing }) = record { others = only.others; stack = only.stack; spills = only.spills; held = only.held; disposal = only.disposal } in changed
    )
