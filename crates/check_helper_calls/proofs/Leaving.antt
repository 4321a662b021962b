-- What is known after a helper call, and what is found where its check passes.
use Rattle.std.proofs.Common.{None, ◌≡◌, ℕ, ℤ, Bool, List, [], Option, Some, Result, Ok, Err, IfOk, length, refl, ap, sym, subst, ◌∙◌, arith}
use Rattle.std.specs.Prelude.{◌≤◌, IsOk, slice_index_or}
use Rattle.std.proofs.lemmas.List.{get_or-drop}
use Rattle.bpf_insn.specs.declared.reg.Reg.{Reg}
use Rattle.bpf_insn.specs.declared.reg.Reg.TheVariants.{R0, R1, R2, R3, R4, R5, R6, R7, R8, R9, R10}
use Rattle.bpf_insn.specs.Reg.{number_of}
use Rattle.helpers.specs.declared.columns.ArgKind.{ArgKind}
use Rattle.helpers.specs.declared.columns.Change.{Change}
use Rattle.helpers.specs.declared.columns.Change.TheVariants as changes
use Rattle.helpers.specs.declared.table.Helper.{Helper}
use Rattle.helpers.specs.declared.table.Row.{Row}
use Rattle.helpers.specs.Table.{helper_of, row_of}
use Rattle.helpers.proofs.Together.{Wants, wanted}
use Rattle.stack_domain.specs.Stack.{Knows}
use Rattle.check_helper_calls.specs.declared.arguments.Known.{Known}
use Rattle.check_register_kinds.specs.declared.cause.Cause.{Cause}
use Rattle.check_description.specs.declared.description.Description.{Description}
use Rattle.check_register_kinds.specs.declared.freeze_name.FreezeName.{FreezeName}
use Rattle.check_register_kinds.specs.declared.kind.Kind.{Kind}
use Rattle.check_register_kinds.specs.declared.kind.Kind.TheVariants.{Unwritten}
use Rattle.check_description.specs.declared.saved.SavedRegisters.{SavedRegisters}
use Rattle.check_helper_calls.specs.Arguments.{AreKnownOf, IsKnownOf, IsPlace, IsSureFreeze, MeetsNeed, ShowsAny}
use Rattle.check_helper_calls.specs.Calls.{MayChange, MayPass, after_call_kinds}
use Rattle.check_description.specs.Description.{kind_at}
use Rattle.check_description.specs.Changes.{IsFreeze}
use Rattle.check_helper_calls.specs.Called.{LeavesAnswer, LeavesCalled, LeavesChanged, LeavesOver}
use Rattle.check_helper_calls.specs.Fresh.{IsFresh}
use Rattle.check_helper_calls.proofs.Tracing.{some_same}

-- what follows the first six registers is kept
kept_behind : (kinds : List Kind) (r0 : Kind) (reg : Reg) → 6 ≤ number_of reg → slice_index_or (after_call_kinds kinds r0) (number_of reg) Unwritten ≡ slice_index_or kinds (number_of reg) Unwritten
kept_behind kinds r0 R0 late = absurd (omega (arith, late))
kept_behind kinds r0 R1 late = absurd (omega (arith, late))
kept_behind kinds r0 R2 late = absurd (omega (arith, late))
kept_behind kinds r0 R3 late = absurd (omega (arith, late))
kept_behind kinds r0 R4 late = absurd (omega (arith, late))
kept_behind kinds r0 R5 late = absurd (omega (arith, late))
kept_behind kinds r0 R6 late = get_or-drop 6 kinds 0 Unwritten
kept_behind kinds r0 R7 late = get_or-drop 6 kinds 1 Unwritten
kept_behind kinds r0 R8 late = get_or-drop 6 kinds 2 Unwritten
kept_behind kinds r0 R9 late = get_or-drop 6 kinds 3 Unwritten
kept_behind kinds r0 R10 late = get_or-drop 6 kinds 4 Unwritten

-- R0 is the answer
pub answer_left : (d : Description) (registers : List Kind) (kind : Kind) → registers ≡ after_call_kinds d.registers kind → LeavesAnswer kind d (record d { registers = registers; loaded = None })
answer_left d registers kind are = record {
  r0 = ap (λ (kinds : List Kind). slice_index_or kinds 0 Unwritten) are;
  registers = λ reg late. ap (λ (kinds : List Kind). slice_index_or kinds (number_of reg) Unwritten) are ∙ kept_behind d.registers kind reg late;
  stack = refl;
  spills = refl;
  held = refl;
  disposal = refl;
}

-- what every call keeps

pub record KeepsOver (d there : Description) : Type 0 where
  pub registers : (reg : Reg) → (IsFreeze (kind_at d reg) → ⊥) → kind_at there reg ≡ kind_at d reg
  pub depth : length there.stack ≡ length d.stack
  pub known : (frame at : ℕ) → Knows d.stack frame at → Knows there.stack frame at
  pub unspilled : d.spills ≡ [] → there.spills ≡ []

keeps_both : (d there : Description) → there.registers ≡ d.registers → there.stack ≡ d.stack → there.spills ≡ d.spills → KeepsOver d there
keeps_both d there registers stack spills = record {
  unspilled = λ none. spills ∙ none;
  registers = λ reg apart. ap (λ (kinds : List Kind). slice_index_or kinds (number_of reg) Unwritten) registers;
  depth = ap length stack;
  known = λ frame at was. subst (λ (s : List (List Bool)). Knows s frame at) (sym stack) was;
}

change_keeps : (name : FreezeName) (change : Change) (d there : Description) → MayChange name change d → LeavesChanged name change d there → KeepsOver d there
change_keeps name changes.Nothing d there may same = keeps_both d there (ap (λ (x : Description). x.registers) same) (ap (λ (x : Description). x.stack) same) (ap (λ (x : Description). x.spills) same)
change_keeps name changes.Holds d there may same = keeps_both d there (ap (λ (x : Description). x.registers) same) (ap (λ (x : Description). x.stack) same) (ap (λ (x : Description). x.spills) same)
change_keeps name changes.GivesUp d there (freeze, is, sure) left =
    let given_up = (left freeze is).2 in
    record {
      registers = λ reg apart. given_up.others reg (λ e. apart (freeze, e));
      depth = ap length given_up.stack;
      unspilled = given_up.unspilled;
      known = λ frame at was. subst (λ (s : List (List Bool)). Knows s frame at) (sym given_up.stack) was;
    }
change_keeps name changes.Disposes d there may same = keeps_both d there (ap (λ (x : Description). x.registers) same) (ap (λ (x : Description). x.stack) same) (ap (λ (x : Description). x.spills) same)
change_keeps name (changes.Writes bytes) d there may left = record {
  registers = λ reg apart. ap (λ (kinds : List Kind). slice_index_or kinds (number_of reg) Unwritten) left.0.registers;
  depth = left.0.depth;
  unspilled = left.0.unspilled;
  known = left.0.known;
}

-- what is known after a call, by its helper
pub left : (name : FreezeName) (number : ℤ) (helper : Helper) (d there : Description) → helper_of number ≡ Some helper → MayPass d name helper → LeavesOver name helper d there → LeavesCalled name d number there
left name number helper d there named may leaves =
    let keeps = change_keeps name (row_of helper).machine d leaves.between may leaves.change in
    record {
      registers = λ reg late apart. leaves.answer.registers reg late ∙ keeps.registers reg apart;
      depth = ap length leaves.answer.stack ∙ keeps.depth;
      unspilled = λ none. leaves.answer.spills ∙ keeps.unspilled none;
      known = λ frame at was. subst (λ (s : List (List Bool)). Knows s frame at) (sym leaves.answer.stack) (keeps.known frame at was);
      by = λ other is. subst (λ (h : Helper). LeavesOver name h d there) (some_same helper other (sym named ∙ is)) leaves;
    }

-- what is found where the check passes
pub may_change : (callers : List SavedRegisters) (d : Description) (name : FreezeName) (row : Row) (known : Known) (change : Change) → Wants change row → AreKnownOf d row.asks known → ShowsAny d row.asks.first known.first → MeetsNeed callers d name row.needs
    → MayChange name change d
may_change callers d name row known changes.Nothing wants are shows may = tt
may_change callers d name row known changes.Holds wants are shows may =
    let room = subst (MeetsNeed callers d name) wants.1 may in
    (room.0, room.1)
may_change callers d name row known changes.GivesUp wants are shows may =
    subst (IsSureFreeze d) (subst (λ (a : Option ArgKind). IsKnownOf a (kind_at d R1) known.first) wants.1 are.first)
    (subst (λ (a : Option ArgKind). ShowsAny d a known.first) wants.1 shows)
may_change callers d name row known changes.Disposes wants are shows may = tt
may_change callers d name row known (changes.Writes bytes) wants are shows may = (
  subst (IsPlace d bytes) (subst (λ (a : Option ArgKind). IsKnownOf a (kind_at d R1) known.first) wants.1 are.first)
      (subst (λ (a : Option ArgKind). ShowsAny d a known.first) wants.1 shows),
  omega (arith, wants.2),
)

pub may_pass : (r : Result (Unit {0}) Cause) (callers : List SavedRegisters) (d : Description) (name : FreezeName) (helper : Helper) (row : Row) (known : Known) → row ≡ row_of helper → AreKnownOf d row.asks known → ShowsAny d row.asks.first known.first → (IsOk r → MeetsNeed callers d name row.needs)
    → IfOk r (λ x. MayPass d name helper)
may_pass (Err cause) callers d name helper row known same are shows may = tt
may_pass (Ok x) callers d name helper row known same are shows may =
    may_change callers d name (row_of helper) known (row_of helper).machine (wanted helper)
    (subst (λ (r : Row). AreKnownOf d r.asks known) same are) (subst (λ (r : Row). ShowsAny d r.asks.first known.first) same shows) (subst (λ (r : Row). MeetsNeed callers d name r.needs) same (may refl))

-- a freeze that is taken has a name of which no function that waits has a copy
fresh_for : (callers : List SavedRegisters) (d : Description) (name : FreezeName) (row : Row) (change : Change) → Wants change row → MeetsNeed callers d name row.needs → change ≡ changes.Holds → IsFresh name callers
fresh_for callers d name row changes.Holds wants may holds = (subst (MeetsNeed callers d name) wants.1 may).2
fresh_for callers d name row changes.Nothing wants may holds = absurd cc
fresh_for callers d name row changes.GivesUp wants may holds = absurd cc
fresh_for callers d name row changes.Disposes wants may holds = absurd cc
fresh_for callers d name row (changes.Writes bytes) wants may holds = absurd cc

pub fresh : (r : Result (Unit {0}) Cause) (callers : List SavedRegisters) (d : Description) (name : FreezeName) (helper : Helper) (row : Row) → row ≡ row_of helper → (IsOk r → MeetsNeed callers d name row.needs)
    → IfOk r (λ x. (row_of helper).machine ≡ changes.Holds → IsFresh name callers)
fresh (Err cause) callers d name helper row same may = tt
fresh (Ok x) callers d name helper row same may = fresh_for callers d name (row_of helper) (row_of helper).machine (wanted helper) (subst (λ (r : Row). MeetsNeed callers d name r.needs) same (may refl))
