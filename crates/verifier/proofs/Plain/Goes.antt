-- Of a plain program enough is known everywhere: at each place what holds there is enough for its instruction, and what
-- is known after that holds where it leads.
use Rattle.std.proofs.Common.{◌≡◌, ℕ, ℤ, ◌+◌, ◌≤◌, true, false, List, length, Some, None, refl, ap, sym, subst, ◌∙◌, arith, ◌⊎◌, inl, inr}
use Rattle.std.specs.Prelude.{pos, slice_get, slice_index_or}
use Rattle.std.specs.Int.{w64, cast_unsigned}
use Rattle.std.proofs.lemmas.Bool.{ne_eqb}
use Rattle.bpf_insn.specs.declared.insn.Insn.{Insn}
use Rattle.bpf_insn.specs.declared.insn.Insn.TheVariants.{Alu, InPlace, SignExtend, JumpIf, Jump, LoadImmediate, Load, Store, Call, Exit}
use Rattle.bpf_insn.specs.declared.insn.Operand.TheVariants.{Immediate}
use Rattle.bpf_insn.specs.declared.insn.Callee.TheVariants.{Helper}
use Rattle.bpf_insn.specs.declared.insn.Width.TheVariants.{Bits64}
use Rattle.bpf_insn.specs.declared.insn.AluOp.TheVariants.{Mov}
use Rattle.bpf_insn.specs.declared.insn.Condition.TheVariants.{Equal}
use Rattle.bpf_insn.specs.declared.reg.Reg.{Reg}
use Rattle.bpf_insn.specs.declared.reg.Reg.TheVariants.{R0, R1, R2, R3, R4, R5, R6, R7, R8, R9, R10}
use Rattle.bpf_insn.specs.declared.program.Slot.{Slot}
use Rattle.bpf_insn.specs.declared.program.TheConstants.{MAX_SLOTS}
use Rattle.bpf_insn.specs.Reg.{number_of}
use Rattle.bpf_insn.specs.Program.{insn_at}
use Rattle.bpf_insn.specs.Target.{target}
use Rattle.call_shape.specs.StaticPath.{outermost}
use Rattle.helpers.specs.declared.table.Helper.TheVariants as helpers
use Rattle.helpers.specs.declared.limits.HelperSet.{HelperSet}
use Rattle.helpers.specs.declared.limits.HelperSet.TheVariants.{Classes, Controllers, Queues}
use Rattle.helpers.specs.Table.{is_there, row_of}
use Rattle.check_description.specs.declared.description.Description.{Description}
use Rattle.check_private_insns.specs.declared.way.Way.{Way}
use Rattle.check_private_insns.specs.declared.way.Way.TheVariants.{FallThrough, Taken}
use Rattle.check_register_kinds.specs.declared.freeze_name.FreezeName.{FreezeName}
use Rattle.check_register_kinds.specs.declared.freeze_name.FreezeName.TheVariants.{Start}
use Rattle.check_register_kinds.specs.declared.held.HeldFreeze.{HeldFreeze}
use Rattle.check_register_kinds.specs.declared.kind.Kind.{Kind}
use Rattle.check_register_kinds.specs.declared.kind.Kind.TheVariants.{Unwritten, Number, Address, Freeze}
use Rattle.check_register_kinds.specs.declared.region.Region.TheVariants.{Context}
use Rattle.check_description.specs.Description.{kind_at}
use Rattle.check_register_kinds.specs.Freezes.{certainty_of, with_sure, without}
use Rattle.check_register_kinds.specs.Kinds.{IsAtMost, IsBetween, IsKnown, IsAt}
use Rattle.reg_domain.specs.Enough.{Enough, Leaves, IsEntryKnown}
use Rattle.check_helper_calls.specs.Called.{EnoughToCall, LeavesOver}
use Rattle.check_private_insns.specs.Enough.{TestsFreeze}
use Rattle.verifier.specs.Arrives.{Arrives, enters, follows, joins, NeverLacks, goes_to}
use Rattle.verifier.specs.Plain.{IsContextLoad, IsListed, IsPlain, is_free, is_kept, writes_register}
use Rattle.verifier.proofs.Plain.Insns.{length_plain, test, copy, release, Stands, loads_there, tests, copies, gives_back, lists, sets_retries, requeues_there, sets_answer, exits, stands}
use Rattle.verifier.proofs.Plain.Shape.{test_target}
use Rattle.verifier.proofs.Plain.Known.{IsStep, comes_on, free_not_one, computed_on, given_up_keeps, number_on, known_on, called_on, sure_keeps}
use Rattle.verifier.proofs.Plain.List.{AtList, ReadsWritten, list_enough, list_leads, list_follows}
use Rattle.verifier.proofs.Plain.Parts.{AtLoad, AtCopy, AtRelease, AtRequeue, AtAnswer, PlainAt, load_fits, copy_fits, release_fits, list_fits, requeue_fits, answer_fits, exit_fits, behind_fits, plain_joined, plain_agree}

-- where an instruction leads that does not jump

same_slot : (a b : ℕ) → Some a ≡ Some b → a ≡ b
same_slot a b e = cc

nowhere : (to : ℕ) {A : Type 0} → None ≡ Some to → A
nowhere to e = absurd cc

-- loads

kept_free : (reg : Reg) → is_kept reg ≡ true → (is_free reg ≡ true) × (6 ≤ number_of reg) × (number_of reg ≤ 9)
kept_free R6 kept = (refl, omega arith, omega arith)
kept_free R7 kept = (refl, omega arith, omega arith)
kept_free R8 kept = (refl, omega arith, omega arith)
kept_free R9 kept = (refl, omega arith, omega arith)
kept_free R0 kept = absurd (let bad : false ≡ true = kept in cc)
kept_free R1 kept = absurd (let bad : false ≡ true = kept in cc)
kept_free R2 kept = absurd (let bad : false ≡ true = kept in cc)
kept_free R3 kept = absurd (let bad : false ≡ true = kept in cc)
kept_free R4 kept = absurd (let bad : false ≡ true = kept in cc)
kept_free R5 kept = absurd (let bad : false ≡ true = kept in cc)
kept_free R10 kept = absurd (let bad : false ≡ true = kept in cc)

load_enough : (program : List Slot) (place : ℕ) (insn : Insn) (d : Description) → IsContextLoad insn → AtLoad program place d → Enough insn d
load_enough program place (Load form dst src offset) d load is = inl (record {
  at = 0;
  base = subst (λ (reg : Reg). IsAt Context 0 (kind_at d reg)) (sym load.1) is.context;
  inside = load.2;
})
load_enough program place (Alu width op dst src) d load is = absurd load
load_enough program place (InPlace op dst) d load is = absurd load
load_enough program place (SignExtend extension dst src) d load is = absurd load
load_enough program place (JumpIf width condition dst src offset) d load is = absurd load
load_enough program place (Jump distance) d load is = absurd load
load_enough program place (LoadImmediate dst value) d load is = absurd load
load_enough program place (Store size dst src offset) d load is = absurd load
load_enough program place (Call callee) d load is = absurd load
load_enough program place Exit d load is = absurd load

load_follows : (program : List Slot) (place to : ℕ) (insn : Insn) (way : Way) (d there : Description) → IsContextLoad insn → insn_at program place ≡ Some insn → goes_to place insn way ≡ Some to → Leaves insn way d there → AtLoad program place d → (to ≡ place + 1) × AtLoad program to there
load_follows program place to (Load form dst src offset) Taken d there load at goes leaves is = nowhere to goes
load_follows program place to (Load form dst src offset) FallThrough d there load at goes leaves is =
    let insn = Load form dst src offset in
    let same : to ≡ place + 1 = sym (same_slot (place + 1) to goes) in
    let step : IsStep program place insn to = record { at = at; leads = ap outermost same } in
    let kept = kept_free dst load.0 in
    let only = leaves.only in (
      same,
      record {
        start = record {
          common = number_on program place to insn dst d there step (λ reg apart. apart) (λ byte. refl) kept.0 only leaves.number is.start.common;
          low = λ reg free lt. comes_on (writes_register reg) program place to insn step (ne_eqb (number_of dst) (number_of reg) (λ e. omega (arith, e, lt, kept.1))) (is.start.low reg free lt);
        };
        context = only.others R1 (ne_eqb 1 (number_of dst) (λ e. omega (arith, e, kept.1))) ∙ is.context;
        freeze = only.others R2 (ne_eqb 2 (number_of dst) (λ e. omega (arith, e, kept.1))) ∙ is.freeze;
        held = only.held ∙ is.held;
      },
    )
load_follows program place to (Alu width op dst src) way d there load at goes leaves is = absurd load
load_follows program place to (InPlace op dst) way d there load at goes leaves is = absurd load
load_follows program place to (SignExtend extension dst src) way d there load at goes leaves is = absurd load
load_follows program place to (JumpIf width condition dst src offset) way d there load at goes leaves is = absurd load
load_follows program place to (Jump distance) way d there load at goes leaves is = absurd load
load_follows program place to (LoadImmediate dst value) way d there load at goes leaves is = absurd load
load_follows program place to (Store size dst src offset) way d there load at goes leaves is = absurd load
load_follows program place to (Call callee) way d there load at goes leaves is = absurd load
load_follows program place to Exit way d there load at goes leaves is = absurd load

-- the freeze is given back

tests_freeze : (program : List Slot) (place : ℕ) (d : Description) → AtLoad program place d → TestsFreeze d Bits64 Equal R2 (Immediate (pos 0))
tests_freeze program place d is = record { all = refl; equal = refl; zero_constant = refl; name = Start; freeze = is.freeze }

are_there : (set : HelperSet) → (is_there set helpers.Release ≡ true) × (is_there set helpers.Requeue ≡ true)
unfolding row_of
are_there Queues = (refl, refl)
are_there Classes = (refl, refl)
are_there Controllers = (refl, refl)

gives_back_freeze : (program : List Slot) (place : ℕ) (d : Description) → AtRelease program place d → EnoughToCall (pos 2) d
unfolding row_of
gives_back_freeze program place d is = λ limits callers name.
    let sure = ap (λ (held : List HeldFreeze). certainty_of held Start) is.held in
    (helpers.Release, refl, record { there = (are_there limits.helpers).0; suit = λ known are. record { first = (Start, are.first ∙ is.freeze, sure); second = are.second; third = are.third }; run = tt })

freeze_gone : (name : FreezeName) (d there : Description) → kind_at d R1 ≡ Freeze Start → LeavesOver name helpers.Release d there → (there.held ≡ without d.held Start) × (there.disposed ≡ d.disposed)
unfolding row_of
freeze_gone name d there is leaves =
    let gone = (leaves.change Start is).2 in
    (leaves.answer.held ∙ gone.held, leaves.answer.disposal ∙ gone.disposal)

test_follows : (program : List Slot) (first size place to : ℕ) (way : Way) (d there : Description) → place ≡ first → place ≤ MAX_SLOTS → insn_at program place ≡ Some test → goes_to place test way ≡ Some to → Leaves test way d there → AtLoad program place d → PlainAt program first size to there
unfolding tests_freeze
test_follows program first size place to FallThrough d there here le at goes leaves is =
    let same : to ≡ place + 1 = sym (same_slot (place + 1) to goes) in
    let step : IsStep program place test to = record { at = at; leads = inl (ap outermost same) } in
    let tested = leaves.tested (tests_freeze program place d is) in
    copy_fits program first size to there (omega (arith, same, here)) (record {
      start = record {
        common = known_on program place to test d there step (λ reg. refl) (λ byte. refl) (sure_keeps Start d there tested) is.start.common;
        low = λ reg free lt. comes_on (writes_register reg) program place to test step refl (is.start.low reg free lt);
      };
      freeze = ap (λ kinds. slice_index_or kinds 2 Unwritten) tested.registers ∙ is.freeze;
      held = tested.held ∙ ap (λ (held : List HeldFreeze). with_sure held Start) is.held;
    })
test_follows program first size place to Taken d there here le at goes leaves is =
    let same : to ≡ target place (pos 2) = sym (same_slot (target place (pos 2)) to goes) in
    let step : IsStep program place test to = record { at = at; leads = inr (ap outermost same) } in
    let end : to ≡ place + 3 = same ∙ test_target place le in
    let none = leaves.tested (tests_freeze program place d is) in
    list_fits program first size to there (omega (arith, end, here)) (omega (arith, end, here)) (record {
      common = known_on program place to test d there step (λ reg. refl) (λ byte. refl) (given_up_keeps Start none.1 d there none.3) is.start.common;
      held = none.3.held ∙ ap (λ (held : List HeldFreeze). without held Start) is.held;
    })

copy_follows : (program : List Slot) (first size place to : ℕ) (way : Way) (d there : Description) → place ≡ first + 1 → insn_at program place ≡ Some copy → goes_to place copy way ≡ Some to → Leaves copy way d there → AtCopy program place d → PlainAt program first size to there
copy_follows program first size place to Taken d there here at goes leaves is = nowhere to goes
copy_follows program first size place to FallThrough d there here at goes leaves is =
    let same : to ≡ place + 1 = sym (same_slot (place + 1) to goes) in
    let step : IsStep program place copy to = record { at = at; leads = ap outermost same } in
    release_fits program first size to there (omega (arith, same, here)) (record {
      start = record {
        common = computed_on program place to copy R1 d there step (λ reg apart. apart) (λ byte. refl) refl leaves.only (λ reg free e. absurd (free_not_one reg free e)) is.start.common;
        low = λ reg free lt. comes_on (writes_register reg) program place to copy step (ne_eqb 1 (number_of reg) (free_not_one reg free)) (is.start.low reg free lt);
      };
      freeze = leaves.moved refl refl ∙ is.freeze;
      held = leaves.only.held ∙ is.held;
    })

release_follows : (program : List Slot) (first size place to : ℕ) (way : Way) (d there : Description) → place ≡ first + 2 → insn_at program place ≡ Some release → goes_to place release way ≡ Some to → Leaves release way d there → AtRelease program place d → PlainAt program first size to there
release_follows program first size place to Taken d there here at goes leaves is = nowhere to goes
release_follows program first size place to FallThrough d there here at goes leaves is =
    let same : to ≡ place + 1 = sym (same_slot (place + 1) to goes) in
    let step : IsStep program place release to = record { at = at; leads = ap outermost same } in
    let gone = freeze_gone leaves.0 d there is.freeze (leaves.1.by helpers.Release refl) in
    list_fits program first size to there (omega (arith, same, here)) (omega (arith, same, here)) (record {
      common = called_on program place to (pos 2) leaves.0 d there step leaves.1 gone.1 is.start.low is.start.common;
      held = gone.0 ∙ ap (λ (held : List HeldFreeze). without held Start) is.held;
    })

-- after the list

-- the immediates 0 and 1 are words of at most 1
few_words : (n : ℤ) → (n ≡ pos 0) ⊎ (n ≡ pos 1) → cast_unsigned w64 n ≤ 1
few_words n (inl none) = subst (λ (x : ℤ). cast_unsigned w64 x ≤ 1) (sym none) (omega arith)
few_words n (inr one) = subst (λ (x : ℤ). cast_unsigned w64 x ≤ 1) (sym one) (omega arith)

known_at_most : (n most : ℕ) (kind : Kind) → n ≤ most → IsKnown n kind → IsAtMost most kind
known_at_most n most (Number scalar) le known = omega (arith, le, known.1)
known_at_most n most Unwritten le known = known
known_at_most n most (Address region offsets) le known = known
known_at_most n most (Freeze name) le known = known

retries_follow : (program : List Slot) (first size place to : ℕ) (n : ℤ) (way : Way) (d there : Description) → place ≡ first + 3 + size → (n ≡ pos 0) ⊎ (n ≡ pos 1) → goes_to place (Alu Bits64 Mov R1 (Immediate n)) way ≡ Some to → Leaves (Alu Bits64 Mov R1 (Immediate n)) way d there → AtList program place d → PlainAt program first size to there
retries_follow program first size place to n Taken d there here few goes leaves is = nowhere to goes
retries_follow program first size place to n FallThrough d there here few goes leaves is =
    let same : to ≡ place + 1 = sym (same_slot (place + 1) to goes) in
    requeue_fits program first size to there (omega (arith, same, here)) (record {
      held = leaves.only.held ∙ is.held;
      waits = leaves.only.disposal ∙ is.common.waits;
      depth = ap length leaves.only.stack ∙ is.common.depth;
      few = known_at_most (cast_unsigned w64 n) 1 (kind_at there R1) (few_words n few) (leaves.moved refl refl);
    })

at_most_between : (most : ℕ) (kind : Kind) → IsAtMost most kind → IsBetween 0 most kind
at_most_between most Unwritten is = absurd is
at_most_between most (Number scalar) is = (omega arith, is)
at_most_between most (Address region offsets) is = absurd is
at_most_between most (Freeze name) is = absurd is

requeues_ccb : (d : Description) → AtRequeue d → EnoughToCall (pos 4) d
unfolding row_of
requeues_ccb d is = λ limits callers name.
    let few = at_most_between 1 (kind_at d R1) is.few in
    (helpers.Requeue, refl, record { there = (are_there limits.helpers).1; suit = λ known are. record { first = subst (IsBetween 0 1) (sym are.first) few; second = are.second; third = are.third }; run = is.waits })

ccb_requeued : (name : FreezeName) (d there : Description) → LeavesOver name helpers.Requeue d there → (there.held ≡ d.held) × (there.disposed ≡ true)
unfolding row_of
ccb_requeued name d there leaves = (leaves.answer.held ∙ ap (λ (x : Description). x.held) leaves.change, leaves.answer.disposal ∙ ap (λ (x : Description). x.disposed) leaves.change)

requeue_follows : (program : List Slot) (first size place to : ℕ) (way : Way) (d there : Description) → place ≡ first + 4 + size → goes_to place (Call (Helper (pos 4))) way ≡ Some to → Leaves (Call (Helper (pos 4))) way d there → AtRequeue d → PlainAt program first size to there
requeue_follows program first size place to Taken d there here goes leaves is = nowhere to goes
requeue_follows program first size place to FallThrough d there here goes leaves is =
    let same : to ≡ place + 1 = sym (same_slot (place + 1) to goes) in
    let requeued = ccb_requeued leaves.0 d there (leaves.1.by helpers.Requeue refl) in
    answer_fits program first size to there (omega (arith, same, here)) (record {
      held = requeued.0 ∙ is.held;
      done = requeued.1;
      depth = leaves.1.depth ∙ is.depth;
    })

answer_follows : (program : List Slot) (first size place to : ℕ) (k : ℤ) (way : Way) (d there : Description) → place ≡ first + 5 + size → goes_to place (Alu Bits64 Mov R0 (Immediate k)) way ≡ Some to → Leaves (Alu Bits64 Mov R0 (Immediate k)) way d there → AtAnswer d → PlainAt program first size to there
answer_follows program first size place to k Taken d there here goes leaves is = nowhere to goes
answer_follows program first size place to k FallThrough d there here goes leaves is =
    let same : to ≡ place + 1 = sym (same_slot (place + 1) to goes) in
    exit_fits program first size to there (omega (arith, same, here)) (record {
      answer = record {
        held = leaves.only.held ∙ is.held;
        done = leaves.only.disposal ∙ is.done;
        depth = ap length leaves.only.stack ∙ is.depth;
      };
      number = leaves.number tt;
    })

exit_follows : (program : List Slot) (first size place to : ℕ) (way : Way) (there : Description) → place ≡ first + 6 + size → goes_to place Exit way ≡ Some to → PlainAt program first size to there
exit_follows program first size place to Taken there here goes = nowhere to goes
exit_follows program first size place to FallThrough there here goes =
    let same : to ≡ place + 1 = sym (same_slot (place + 1) to goes) in
    behind_fits program first size to there (omega (arith, same, here))

-- no path comes to a place of the list without writing what is read there
reads_written : (program : List Slot) (is : IsPlain program) (place i : ℕ) (insn : Insn) → place ≡ length is.loads + 3 + i → slice_get is.list i ≡ Some insn → ReadsWritten program place insn
reads_written program is place i insn e there = subst (λ (p : ℕ). ReadsWritten program p insn) (sym e) (record {
  registers = λ reg free reads. is.written i insn reg there free reads;
  bytes = λ at reads. is.known i insn at there reads;
})

-- so what is known at a place is enough there

abbrev pub Fits : (program : List Slot) → IsPlain program → ℕ → Description → Type 0
Fits program is place d = PlainAt program (length is.loads) (length is.list) place d

enough_by : (program : List Slot) (is : IsPlain program) (place : ℕ) (insn : Insn) (d : Description) → Fits program is place d → Stands program is place insn → Enough insn d
enough_by program is place insn d fits (loads_there lt load) = load_enough program place insn d load (fits.at_load (omega (arith, lt)))
enough_by program is place insn d fits (tests e it) = subst (λ (i : Insn). Enough i d) (sym it) (inr (tests_freeze program place d (fits.at_load (omega (arith, e)))))
enough_by program is place insn d fits (copies e it) =
    subst (λ (i : Insn). Enough i d) (sym it) (inr (refl, refl, R2, refl, (Start, (fits.at_copy e).freeze)))
enough_by program is place insn d fits (gives_back e it) = subst (λ (i : Insn). Enough i d) (sym it) (gives_back_freeze program place d (fits.at_release e))
enough_by program is place insn d fits (lists i e lt there) =
    let end : ℕ = length is.loads + 3 + length is.list in
    let listed : IsListed place end insn = subst (λ (p : ℕ). IsListed p end insn) (sym e) (is.listed i insn there) in
    list_enough program place end insn d listed (reads_written program is place i insn e there) (fits.in_list (omega (arith, e)) (omega (arith, e, lt)))
enough_by program is place insn d fits (sets_retries e it) = subst (λ (i : Insn). Enough i d) (sym it) (inl ((λ reads. absurd (let bad : false ≡ true = reads in cc)), tt))
enough_by program is place insn d fits (requeues_there e it) = subst (λ (i : Insn). Enough i d) (sym it) (requeues_ccb d (fits.at_requeue e))
enough_by program is place insn d fits (sets_answer e it) = subst (λ (i : Insn). Enough i d) (sym it) (inl ((λ reads. absurd (let bad : false ≡ true = reads in cc)), tt))
enough_by program is place insn d fits (exits e it) =
    let last = fits.at_exit e in
    subst (λ (i : Insn). Enough i d) (sym it) (last.answer.held, last.answer.done, last.number)

-- what an instruction that is known leaves, where it leads
abbrev Led : (program : List Slot) → IsPlain program → ℕ → Way → Description → Insn → Type 0
Led program is place way d insn =
    (to : ℕ) (there : Description) → insn_at program place ≡ Some insn → goes_to place insn way ≡ Some to → Leaves insn way d there → Fits program is to there

follows_by : (program : List Slot) (is : IsPlain program) (place : ℕ) (insn : Insn) (way : Way) (d : Description) → Fits program is place d → Stands program is place insn → Led program is place way d insn
follows_by program is place insn way d fits (loads_there lt load) = λ to there at goes leaves.
    let on = load_follows program place to insn way d there load at goes leaves (fits.at_load (omega (arith, lt))) in
    load_fits program (length is.loads) (length is.list) to there (omega (arith, on.0, lt)) on.1
follows_by program is place insn way d fits (tests e it) = subst (Led program is place way d) (sym it)
    (λ to there at goes leaves. test_follows program (length is.loads) (length is.list) place to way d there e (omega (arith, e, length_plain program is, is.in_range)) at goes leaves (fits.at_load (omega (arith, e))))
follows_by program is place insn way d fits (copies e it) = subst (Led program is place way d) (sym it)
    (λ to there at goes leaves. copy_follows program (length is.loads) (length is.list) place to way d there e at goes leaves (fits.at_copy e))
follows_by program is place insn way d fits (gives_back e it) = subst (Led program is place way d) (sym it)
    (λ to there at goes leaves. release_follows program (length is.loads) (length is.list) place to way d there e at goes leaves (fits.at_release e))
follows_by program is place insn way d fits (lists i e lt found) = λ to there at goes leaves.
    let end : ℕ = length is.loads + 3 + length is.list in
    let listed : IsListed place end insn = subst (λ (p : ℕ). IsListed p end insn) (sym e) (is.listed i insn found) in
    let leads = list_leads place end insn way to (omega (arith, e, lt)) listed goes in
    let on = list_follows program place end to insn way d there listed (reads_written program is place i insn e found) (record { at = at; leads = leads.leads }) leaves (fits.in_list (omega (arith, e)) (omega (arith, e, lt))) in
    list_fits program (length is.loads) (length is.list) to there (omega (arith, e, leads.on)) leads.up_to on
follows_by program is place insn way d fits (sets_retries e it) = subst (Led program is place way d) (sym it)
    (λ to there at goes leaves. retries_follow program (length is.loads) (length is.list) place to is.retries way d there e is.few goes leaves (fits.in_list (omega (arith, e)) (omega (arith, e))))
follows_by program is place insn way d fits (requeues_there e it) = subst (Led program is place way d) (sym it)
    (λ to there at goes leaves. requeue_follows program (length is.loads) (length is.list) place to way d there e goes leaves (fits.at_requeue e))
follows_by program is place insn way d fits (sets_answer e it) = subst (Led program is place way d) (sym it)
    (λ to there at goes leaves. answer_follows program (length is.loads) (length is.list) place to is.answer way d there e goes leaves (fits.at_answer e))
follows_by program is place insn way d fits (exits e it) = subst (Led program is place way d) (sym it)
    (λ to there at goes leaves. exit_follows program (length is.loads) (length is.list) place to way there e goes)

-- all that arrives fits
entry_fits : (program : List Slot) (is : IsPlain program) (d : Description) → IsEntryKnown d → Fits program is 0 d
entry_fits program is d known = load_fits program (length is.loads) (length is.list) 0 d (omega arith) (record {
  start = record {
    common = record {
      frame = known.frame;
      depth = known.depth;
      waits = known.waits;
      unspilled = known.unspilled;
      registers = λ reg free. inr (0, refl);
      bytes = λ at. inr (0, refl);
    };
    low = λ reg free lt. (0, refl);
  };
  context = known.context;
  freeze = known.freeze;
  held = known.held;
})

arrives_fits : (program : List Slot) (is : IsPlain program) (place : ℕ) (d : Description) → Arrives program place d → Fits program is place d
arrives_fits program is place d (enters e known) = entry_fits program is e known
arrives_fits program is place d (follows from to insn way before there arrives at enough goes leaves) =
    follows_by program is from insn way before (arrives_fits program is from before arrives) (stands program is from insn at) to there at goes leaves
arrives_fits program is place d (joins at a b joined x y agree are) =
    plain_joined program (length is.loads) (length is.list) at a b joined are (arrives_fits program is at a x) (arrives_fits program is at b y)

pub plain_never_lacks : (program : List Slot) → IsPlain program → NeverLacks program
plain_never_lacks program is = record {
  enough = λ place insn d arrives at. enough_by program is place insn d (arrives_fits program is place d arrives) (stands program is place insn at);
  agree = λ place a b lt x y. plain_agree program (length is.loads) (length is.list) place a b (omega (arith, lt, length_plain program is)) (arrives_fits program is place a x) (arrives_fits program is place b y);
}
