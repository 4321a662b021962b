-- What becomes of a described machine by a helper call, and that the call meets its rule.
use Rattle.std.proofs.Common.{◌≡◌, ℕ, ℤ, ◌+◌, ◌<◌, true, not, List, Option, Some, None, Result, Ok, Err, IfOk, length, drop, refl, ap, sym, subst, ◌∙◌, arith, length-drop}
use Rattle.std.specs.Prelude.{All, IsOk, slice_index_or, unwrap_or}
use Rattle.std.specs.Option.{option_map, option_and_then}
use Rattle.std.proofs.lemmas.Bool.{and_from, lt-ltb}
use Rattle.std.proofs.lemmas.List.{get_or-drop}
use Rattle.bpf_insn.specs.declared.reg.Reg.{Reg}
use Rattle.bpf_insn.specs.declared.reg.Reg.TheVariants.{R0, R1, R2, R3, R4, R5, R6, R7, R8, R9, R10}
use Rattle.bpf_insn.specs.Reg.{number_of}
use Rattle.helpers.specs.declared.columns.ArgKind.{ArgKind}
use Rattle.helpers.specs.declared.columns.ArgKind.TheVariants.{HeldFreeze, Room as RoomOf}
use Rattle.helpers.specs.declared.columns.Asks.{Asks}
use Rattle.helpers.specs.declared.columns.Change.{Change}
use Rattle.helpers.specs.declared.columns.Change.TheVariants as changes
use Rattle.helpers.specs.declared.columns.Gives.{Gives}
use Rattle.helpers.specs.declared.columns.Gives.TheVariants.{NewFreeze}
use Rattle.helpers.specs.declared.columns.Needs.{Needs}
use Rattle.helpers.specs.declared.columns.Needs.TheVariants as needs
use Rattle.helpers.specs.declared.limits.HelperLimits.{HelperLimits}
use Rattle.helpers.specs.declared.request.Answer.{Answer}
use Rattle.helpers.specs.declared.request.Arguments.{Arguments}
use Rattle.helpers.specs.declared.request.Request.{Request}
use Rattle.helpers.specs.declared.request.Written.{Written}
use Rattle.helpers.specs.declared.table.Helper.{Helper}
use Rattle.helpers.specs.declared.table.Row.{Row}
use Rattle.helpers.specs.Table.{asks, helper_of, is_there, row_of}
use Rattle.helpers.proofs.Together.{IsRange, Wants, told, wanted}
use Rattle.bpf_semantics.specs.Calls.{all_written, argument, arguments_at, meets, meets_need, named_bytes, request_by, request_with}
use Rattle.bpf_semantics.specs.Frames.{frames_with}
use Rattle.bpf_semantics.specs.MachineState.{MachineState, register}
use Rattle.bpf_semantics.specs.Memory.{with_memory}
use Rattle.bpf_semantics.specs.Step.{IsGiven, IsWritten as IsWrittenBy, WroteAt, after_call, changed_by, frames_after}
use Rattle.bpf_semantics.specs.Stuck.{call_is_stuck}
use Rattle.check_helper_calls.specs.declared.arguments.Known.{Known}
use Rattle.check_register_kinds.specs.declared.cause.Cause.{Cause}
use Rattle.check_description.specs.declared.description.Description.{Description}
use Rattle.check_register_kinds.specs.declared.freeze_name.FreezeName.{FreezeName}
use Rattle.check_register_kinds.specs.declared.kind.Kind.{Kind}
use Rattle.check_register_kinds.specs.declared.kind.Kind.TheVariants.{Unwritten, Number, Address, Freeze}
use Rattle.check_description.specs.declared.saved.SavedRegisters.{SavedRegisters}
use Rattle.check_helper_calls.specs.Arguments.{AllFit, AreArguments, ArgumentMatchesAny, MeetsNeed}
use Rattle.check_helper_calls.specs.Calls.{CallFollows, CallIsNeverStuck, Changes, HoldsGiven, IsChange, IsLawfulCall, IsNamed, Obeys, Passes, after_call_kinds}
use Rattle.check_description.specs.Description.{Describes, DescribesWith}
use Rattle.check_register_kinds.specs.Freezes.{FreezeNumbers}
use Rattle.check_register_kinds.specs.Kinds.{HoldsKind, IsWritten}
use Rattle.check_description.specs.Memory.{AreWritten}
use Rattle.check_helper_calls.specs.Fresh.{IsFresh}
use Rattle.check_register_kinds.proofs.Freezes.{few_held}
use Rattle.check_helper_calls.proofs.Tracing.{bytes_there, some_same}

-- what lists of kinds say of lists of registers
abbrev HoldKinds : FreezeNumbers → List Kind → List (Option ℕ) → Type 0
HoldKinds numbers kinds registers = (reg : Reg) → HoldsKind numbers (slice_index_or kinds (number_of reg) Unwritten) (slice_index_or registers (number_of reg) None)

-- what follows the first six registers
behind_holds : (numbers : FreezeNumbers) (k : ℕ) (kinds : List Kind) (registers : List (Option ℕ)) → HoldsKind numbers (slice_index_or kinds (6 + k) Unwritten) (slice_index_or registers (6 + k) None) → HoldsKind numbers (slice_index_or (drop 6 kinds) k Unwritten) (slice_index_or (drop 6 registers) k None)
behind_holds numbers k kinds registers holds =
    subst (λ (o : Option ℕ). HoldsKind numbers (slice_index_or (drop 6 kinds) k Unwritten) o) (sym (get_or-drop 6 registers k None))
    (subst (λ (kind : Kind). HoldsKind numbers kind (slice_index_or registers (6 + k) None)) (sym (get_or-drop 6 kinds k Unwritten)) holds)

call_holds : (numbers : FreezeNumbers) (r0 : ℕ) (answer : Kind) (kinds : List Kind) (m : MachineState) → HoldsKind numbers answer (Some r0) → HoldKinds numbers kinds m.registers → HoldKinds numbers (after_call_kinds kinds answer) (after_call m r0).registers
call_holds numbers r0 answer kinds m holds each R0 = holds
call_holds numbers r0 answer kinds m holds each R1 = tt
call_holds numbers r0 answer kinds m holds each R2 = tt
call_holds numbers r0 answer kinds m holds each R3 = tt
call_holds numbers r0 answer kinds m holds each R4 = tt
call_holds numbers r0 answer kinds m holds each R5 = tt
call_holds numbers r0 answer kinds m holds each R6 = behind_holds numbers 0 kinds m.registers (each R6)
call_holds numbers r0 answer kinds m holds each R7 = behind_holds numbers 1 kinds m.registers (each R7)
call_holds numbers r0 answer kinds m holds each R8 = behind_holds numbers 2 kinds m.registers (each R8)
call_holds numbers r0 answer kinds m holds each R9 = behind_holds numbers 3 kinds m.registers (each R9)
call_holds numbers r0 answer kinds m holds each R10 = behind_holds numbers 4 kinds m.registers (each R10)

call_count : (m : MachineState) (r0 : ℕ) → length m.registers ≡ 11 → length (after_call m r0).registers ≡ 11
call_count m r0 count = omega (arith, count, length-drop 6 m.registers)

-- a call that only answers
pub answered_by : (numbers : FreezeNumbers) (callers : List SavedRegisters) (r0 : ℕ) (d : Description) (registers : List Kind) (kind : Kind) (m : MachineState) → registers ≡ after_call_kinds d.registers kind → HoldsKind numbers kind (Some r0) → DescribesWith numbers callers d m
    → DescribesWith numbers callers (record d { registers = registers; loaded = None }) (after_call m r0)
answered_by numbers callers r0 d registers kind m are holds is = record {
  registers = subst (λ (kinds : List Kind). HoldKinds numbers kinds (after_call m r0).registers) (sym are) (call_holds numbers r0 kind d.registers m holds is.registers);
  count = call_count m r0 is.count;
  frames = is.frames;
  standing = is.standing;
  loaded = tt;
  spills = is.spills;
  bytes = is.bytes;
  context = is.context;
  held = is.held;
  disposal = is.disposal;
  calls = is.calls;
  depth = is.depth;
}

-- the CCB is disposed of
pub disposed_of : (numbers : FreezeNumbers) (callers : List SavedRegisters) (d : Description) (m : MachineState) → DescribesWith numbers callers d m → DescribesWith numbers callers (record d { disposed = true }) (record m { disposed = true })
disposed_of numbers callers d m is = record {
  registers = is.registers;
  count = is.count;
  frames = is.frames;
  standing = is.standing;
  loaded = is.loaded;
  spills = is.spills;
  bytes = is.bytes;
  context = is.context;
  held = is.held;
  disposal = refl;
  calls = is.calls;
  depth = is.depth;
}

-- the machine with the bytes that a call wrote
written_is : (m with_bytes : MachineState) (address : ℕ) (written : Written) → written.address ≡ address → with_memory m address written.bytes ≡ Some with_bytes → record m { frames = frames_after m.frames (Some written) } ≡ with_bytes
written_is m with_bytes address written place does = of_frames (frames_with 0 m.frames written.address written.bytes) (ap (λ (a : ℕ). with_memory m a written.bytes) place ∙ does)
  where
    of_frames : (o : Option (List (List (Option ℕ)))) → option_map (λ frames. record m { frames = frames }) o ≡ Some with_bytes → record m { frames = unwrap_or o m.frames } ≡ with_bytes
    of_frames None e = absurd (let bad : None ≡ Some with_bytes = e in cc)
    of_frames (Some frames) e = some_same (record m { frames = frames }) with_bytes e

pub bytes_written : (numbers : FreezeNumbers) (callers : List SavedRegisters) (address count : ℕ) (there : Description) (m : MachineState) (o : Option Written) → WroteAt address count o
    → ((bytes : List ℕ) → length bytes ≡ count → All (λ byte. byte < 256) bytes → AreWritten numbers callers m address bytes there)
    → DescribesWith numbers callers there (record m { frames = frames_after m.frames o })
bytes_written numbers callers address count there m None wrote writes = absurd wrote
bytes_written numbers callers address count there m (Some written) wrote writes =
    let are = writes written.bytes wrote.size wrote.bytes in
    subst (DescribesWith numbers callers there) (sym (written_is m are.with_bytes address written wrote.place are.does)) are.describes

-- what is written is some number
value_of : (numbers : FreezeNumbers) (kind : Kind) (o : Option ℕ) → IsWritten kind → HoldsKind numbers kind o → (value : ℕ) × (o ≡ Some value) × HoldsKind numbers kind (Some value)
value_of numbers Unwritten o written h = absurd written
value_of numbers (Number scalar) o written h = (h.0, h.1, (h.0, refl, h.2))
value_of numbers (Address region offsets) o written h = (h.0, h.1, (h.0, refl, h.2))
value_of numbers (Freeze name) o written h = (h.0, h.1, (h.0, refl, h.2))

-- each argument is as asked
meets_asked : (limits : HelperLimits) (d : Description) (numbers : FreezeNumbers) (callers : List SavedRegisters) (m : MachineState) (known : Known) (arguments : Arguments) (asked : Option ArgKind) (kind : Kind) (value : ℕ) → DescribesWith numbers callers d m → AreArguments numbers known arguments
    → HoldsKind numbers kind (Some value) → ArgumentMatchesAny limits d known asked kind → meets limits m arguments asked value ≡ true
meets_asked limits d numbers callers m known arguments (Some asked) kind value is are holds fits = fits numbers callers m arguments value is are holds
meets_asked limits d numbers callers m known arguments None kind value is are holds fits = refl

-- what is known of the arguments with which a machine calls
pub record HoldsArguments (numbers : FreezeNumbers) (m : MachineState) (asks : Asks) (known : Known) : Type 0 where
  pub first : HoldsKind numbers known.first (argument m asks.first R1)
  pub second : HoldsKind numbers known.second (argument m asks.second R2)
  pub third : HoldsKind numbers known.third (argument m asks.third R3)

pub lawful : (limits : HelperLimits) (d : Description) (numbers : FreezeNumbers) (callers : List SavedRegisters) (m : MachineState) (helper : Helper) (known : Known) → DescribesWith numbers callers d m → HoldsArguments numbers m (asks helper) known → AllFit limits d (asks helper) known → meets_need m (row_of helper).needs ≡ true
    → is_there limits.helpers helper ≡ true → IsLawfulCall limits m helper
lawful limits d numbers callers m helper known is holds fit may there =
    let first = value_of numbers known.first (argument m (asks helper).first R1) fit.first_written holds.first in
    let second = value_of numbers known.second (argument m (asks helper).second R2) fit.second_written holds.second in
    let third = value_of numbers known.third (argument m (asks helper).third R3) fit.third_written holds.third in
    let arguments : Arguments = record { first = first.0; second = second.0; third = third.0 } in
    let are : AreArguments numbers known arguments = record { first = first.2; second = second.2; third = third.2 } in
    record {
      arguments = arguments;
      at =
          ap (λ (o : Option ℕ). all_written o (argument m (asks helper).second R2) (argument m (asks helper).third R3)) first.1
          ∙ (ap (λ (o : Option ℕ). all_written (Some first.0) o (argument m (asks helper).third R3)) second.1
          ∙ ap (λ (o : Option ℕ). all_written (Some first.0) (Some second.0) o) third.1);
      obeys =
          and_from (meets_need m (row_of helper).needs) _ may
          (and_from _ _ (meets_asked limits d numbers callers m known arguments (asks helper).first known.first first.0 is are first.2 fit.first)
          (and_from _ _ (meets_asked limits d numbers callers m known arguments (asks helper).second known.second second.0 is are second.2 fit.second)
          (and_from _ _ (meets_asked limits d numbers callers m known arguments (asks helper).third known.third third.0 is are third.2 fit.third) there)));
    }

-- what a helper needs of the run
pub needs_met : (numbers : FreezeNumbers) (saved callers : List SavedRegisters) (d : Description) (m : MachineState) (name : FreezeName) (needed : Needs) → DescribesWith numbers callers d m → MeetsNeed saved d name needed → meets_need m needed ≡ true
needs_met numbers saved callers d m name needs.Nothing is may = refl
needs_met numbers saved callers d m name needs.Room is may =
    let few = few_held numbers d.held m.held is.held in
    let room : length m.held < 8 = omega (arith, few, may.0) in
    lt-ltb (length m.held) 8 room
needs_met numbers saved callers d m name needs.Undisposed is may = ap not (is.disposal ∙ may)

-- a check that passes
pub obeys_ok : (r : Result (Unit {0}) Cause) (limits : HelperLimits) (saved : List SavedRegisters) (d : Description) (name : FreezeName) (helper : Helper) (row : Row) (known : Known) → is_there limits.helpers helper ≡ true → row ≡ row_of helper
    → ((numbers : FreezeNumbers) (callers : List SavedRegisters) (m : MachineState) → DescribesWith numbers callers d m → HoldsArguments numbers m row.asks known) → AllFit limits d row.asks known → (IsOk r → MeetsNeed saved d name row.needs)
    → IfOk r (λ x. Obeys limits d helper)
obeys_ok (Err cause) limits saved d name helper row known there same holds fit may = tt
obeys_ok (Ok x) limits saved d name helper row known there same holds fit may = λ callers m (numbers, is).
    lawful limits d numbers callers m helper known is (subst (λ (r : Row). HoldsArguments numbers m r.asks known) same (holds numbers callers m is)) (subst (λ (r : Row). AllFit limits d r.asks known) same fit)
    (needs_met numbers saved callers d m name (row_of helper).needs is (subst (λ (r : Row). MeetsNeed saved d name r.needs) same (may refl))) there

-- the call of a helper, by its parts
pub record IsCall (m : MachineState) (helper : Helper) (request : Request) : Type 0 where
  pub of_helper : request.helper ≡ helper
  pub arguments : arguments_at m helper ≡ Some request.arguments

pub is_call : (m : MachineState) (helper : Helper) (request : Request) → request_by m helper ≡ Some request → IsCall m helper request
is_call m helper request = of_arguments (arguments_at m helper) refl
  where
    of_arguments : (o : Option Arguments) → arguments_at m helper ≡ o → option_and_then (request_with m helper) o ≡ Some request → IsCall m helper request
    of_arguments None at e = absurd (let bad : None ≡ Some request = e in cc)
    of_arguments (Some arguments) at e = of_bytes (named_bytes m (row_of helper).tells arguments) e
      where
        of_bytes : (o : Option (List ℕ)) → option_map (λ bytes. record { helper = helper; arguments = arguments; bytes = bytes }) o ≡ Some request → IsCall m helper request
        of_bytes None is = absurd (let bad : None ≡ Some request = is in cc)
        of_bytes (Some bytes) is =
            let made : Request = record { helper = helper; arguments = arguments; bytes = bytes } in
            let same = some_same made request is in
            record { of_helper = sym (ap (λ (r : Request). r.helper) same); arguments = at ∙ ap (λ (r : Request). Some r.arguments) same }

-- R1 is the first argument, where it is read
first_written : (o p q : Option ℕ) (arguments : Arguments) → all_written o p q ≡ Some arguments → o ≡ Some arguments.first
first_written None p q arguments e = absurd (let bad : None ≡ Some arguments = e in cc)
first_written (Some first) None q arguments e = absurd (let bad : None ≡ Some arguments = e in cc)
first_written (Some first) (Some second) None arguments e = absurd (let bad : None ≡ Some arguments = e in cc)
first_written (Some first) (Some second) (Some third) arguments e =
    let made : Arguments = record { first = first; second = second; third = third } in
    ap (λ (a : Arguments). Some a.first) (some_same made arguments e)

first_read : (m : MachineState) (helper : Helper) (arguments : Arguments) (asked : ArgKind) → arguments_at m helper ≡ Some arguments → (asks helper).first ≡ Some asked → register m R1 ≡ Some arguments.first
first_read m helper arguments asked at reads =
    ap (λ (a : Option ArgKind). argument m a R1) (sym reads)
    ∙ first_written (argument m (asks helper).first R1) (argument m (asks helper).second R2) (argument m (asks helper).third R3) arguments at

-- what the change rests on
change_is : (name : FreezeName) (callers : List SavedRegisters) (row : Row) (change : Change) (m : MachineState) (arguments : Arguments) (answer : Answer) → Wants change row → (change ≡ changes.Holds → IsFresh name callers)
    → ((asked : ArgKind) → row.asks.first ≡ Some asked → register m R1 ≡ Some arguments.first) → IsGiven m.held row.gives answer.r0 → IsWrittenBy change arguments answer.written → IsChange name callers change m arguments answer
change_is name callers row changes.Nothing m arguments answer wants fresh reads given written = tt
change_is name callers row changes.Holds m arguments answer wants fresh reads given written = (fresh refl, subst (λ (g : Gives). IsGiven m.held g answer.r0) wants.0 given)
change_is name callers row changes.GivesUp m arguments answer wants fresh reads given written = reads HeldFreeze wants.1
change_is name callers row changes.Disposes m arguments answer wants fresh reads given written = tt
change_is name callers row (changes.Writes bytes) m arguments answer wants fresh reads given written = (reads (RoomOf bytes) wants.1, written)

-- the name of a freeze that is answered stands for that
new_is_named : (name : FreezeName) (row : Row) (change : Change) (r0 : ℕ) (numbers : FreezeNumbers) → Wants change row → IsNamed name change r0 numbers → row.gives ≡ NewFreeze → numbers name ≡ Some r0
new_is_named name row changes.Nothing r0 numbers wants named new = absurd (subst IsRange new wants)
new_is_named name row changes.Holds r0 numbers wants named new = named
new_is_named name row changes.GivesUp r0 numbers wants named new = absurd (subst IsRange new wants.0)
new_is_named name row changes.Disposes r0 numbers wants named new = absurd (subst IsRange new wants.0)
new_is_named name row (changes.Writes bytes) r0 numbers wants named new = absurd (subst IsRange new wants.0)

-- the change may come before the answer
change_first : (change : Change) (arguments : Arguments) (answer : Answer) (m : MachineState) → after_call (changed_by change arguments answer m) answer.r0 ≡ changed_by change arguments answer (after_call m answer.r0)
change_first changes.Nothing arguments answer m = refl
change_first changes.Holds arguments answer m = refl
change_first changes.GivesUp arguments answer m = refl
change_first changes.Disposes arguments answer m = refl
change_first (changes.Writes bytes) arguments answer m = refl

-- what becomes of the machine by a call, where that is known of its change and of its answer
pub passed : (name : FreezeName) (callers : List SavedRegisters) (helper : Helper) (row : Row) (d between there : Description) (kind : Kind) → row ≡ row_of helper → Changes name callers row.machine d between → HoldsGiven name row.gives kind
    → ((numbers : FreezeNumbers) (callers : List SavedRegisters) (r0 : ℕ) (m : MachineState) → DescribesWith numbers callers between m → HoldsKind numbers kind (Some r0) → DescribesWith numbers callers there (after_call m r0))
    → Passes name callers helper d there
passed name callers helper row d between there kind same changes holds answers m request answer fresh is called given =
    let call = is_call m helper request called in
    let wants = wanted helper in
    let its = subst (λ (h : Helper). IsGiven m.held (row_of h).gives answer.r0 × IsWrittenBy (row_of h).machine request.arguments answer.written) call.of_helper given in
    let change = change_is name callers (row_of helper) (row_of helper).machine m request.arguments answer wants fresh (λ asked. first_read m helper request.arguments asked call.arguments) its.0 its.1 in
    let after = subst (λ (r : Row). Changes name callers r.machine d between) same changes m request.arguments answer is change in
    let r0 = subst (λ (r : Row). HoldsGiven name r.gives kind) same holds after.numbers m.held answer.r0 its.0 (new_is_named name (row_of helper) (row_of helper).machine answer.r0 after.numbers wants after.named) in
    subst (λ (h : Helper). Describes callers there (changed_by (row_of h).machine request.arguments answer (after_call m answer.r0))) (sym call.of_helper)
    (after.numbers, subst (DescribesWith after.numbers callers there) (change_first (row_of helper).machine request.arguments answer m) (answers after.numbers callers answer.r0 _ after.describes r0))

pub follows : (name : FreezeName) (callers : List SavedRegisters) (number : ℤ) (helper : Helper) (d there : Description) → helper_of number ≡ Some helper → Passes name callers helper d there → ((row_of helper).machine ≡ changes.Holds → IsFresh name callers)
    → CallFollows callers number d there
follows name callers number helper d there named passes fresh m m' request answer is called allowed =
    subst (Describes callers there) (sym allowed.1) (passes m request answer fresh is (sym (ap (option_and_then (request_by m)) named) ∙ called) allowed.0)

-- no machine is stuck at the call
pub unstuck : (limits : HelperLimits) (d : Description) (number : ℤ) (helper : Helper) → helper_of number ≡ Some helper → Obeys limits d helper → CallIsNeverStuck limits number d
unstuck limits d number helper named obeys callers m is =
    let lawful = obeys callers m is in
    let there = bytes_there limits m helper lawful.arguments (row_of helper).tells (told helper) lawful.obeys in
    ap (λ (o : Option Helper). call_is_stuck limits m (option_and_then (request_by m) o)) named
    ∙ (ap (λ (o : Option Arguments). call_is_stuck limits m (option_and_then (request_with m helper) o)) lawful.at
    ∙ (ap (λ (o : Option (List ℕ)). call_is_stuck limits m (option_map (λ bytes. record { helper = helper; arguments = lawful.arguments; bytes = bytes }) o)) there.1
    ∙ ap not lawful.obeys))
