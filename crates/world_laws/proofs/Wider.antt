-- A setup with the queues, the tables and the beginning of another one, and with all its helpers: what an instruction of a run does in the
-- one it does in the other, and so does each call that asks for neither what is new nor what has gone.
use Rattle.std.proofs.Common.{◌≡◌, ℕ, zero, suc, ◌+◌, List, [], ◌∷◌, ◌++◌, map, length, get_or, true, false, cond, Option, Some, None, inl, inr, refl, ap, sym, subst, ◌∙◌, arith}
use Rattle.std.specs.Option.{option_map, option_and_then}
use Rattle.std.specs.Prelude.{All, IfSome}
use Rattle.std.proofs.lemmas.Bool.{and_parts, and_from, cases_Bool, cond-true, cond-false}
use Rattle.std.proofs.lemmas.List.{length-map}
use Rattle.ccb.specs.Completion.{Outcome}
use Rattle.ccb.specs.declared.ccb.Ccb.{Ccb}
use Rattle.ccb.specs.Ccb.{completed}
use Rattle.ccb.specs.Context.{context_of}
use Rattle.ccb.specs.declared.place.Place.{Place}
use Rattle.ccb.specs.declared.place.Place.TheVariants.{Device}
use Rattle.freeze_ledger.specs.declared.freeze.Holder.TheVariants.{Run}
use Rattle.freeze_ledger.specs.Freezes.{meets_limit}
use Rattle.helpers.specs.declared.columns.ArgKind.{ArgKind}
use Rattle.helpers.specs.declared.columns.ArgKind.TheVariants.{Queue, HeldFreeze, Within, Table, Index, Word, Room, Bytes}
use Rattle.helpers.specs.declared.limits.HelperLimits.{HelperLimits}
use Rattle.helpers.specs.declared.limits.HelperSet.{HelperSet}
use Rattle.helpers.specs.declared.request.Arguments.{Arguments}
use Rattle.helpers.specs.declared.request.Request.{Request}
use Rattle.helpers.specs.declared.table.Helper.{Helper}
use Rattle.helpers.specs.Table.{asks, is_there}
use Rattle.bpf_insn.specs.declared.program.Slot.{Slot}
use Rattle.bpf_semantics.specs.MachineState.{MachineState, entry}
use Rattle.bpf_semantics.specs.Calls.{meets, meets_rule}
use Rattle.bpf_semantics.specs.Step.{request_at}
use Rattle.world_calls.specs.declared.call_answer.CallAnswer.TheVariants as answers
use Rattle.world.specs.declared.ccb_state.CcbState.TheVariants.{InRecovery}
use Rattle.world.specs.World.{QueueSetup, Setup, has_classes, no_queue, queue_count, queue_setup, LiveCcb, LiveRun, World, beginning, beginning_of, opening}
use Rattle.world.specs.Beginning.{Begins, IsBeginning, IsCarriedFreeze}
use Rattle.world.specs.Lookups.{with_ccb}
use Rattle.world.specs.Told.{Told, told_of, is_told}
use Rattle.world.specs.Event.{Instruction, private, call, exit, Reply, replies}
use Rattle.world.specs.CcbSteps.{completes, finishes, is_success, run_starts}
use Rattle.world.specs.FreezeSteps.{froze}
use Rattle.world.specs.RunSteps.{may_call, step_helper, step_run, step_executes}
use Rattle.world.specs.Refusals.{is_unknown}
use Rattle.world.specs.Laws.OneController.{unbudgeted}
use Rattle.world_laws.proofs.Steps.Rules.{rule_parts}

-- the same queues, whatever their budgets, the same tables and the same world that is taken over, if any; and no helper is gone
pub record IsWider (setup other : Setup) : Type 0 where
  pub named : other.limits.queues ≡ setup.limits.queues
  pub lengths : other.limits.table_lengths ≡ setup.limits.table_lengths
  pub tables : other.tables ≡ setup.tables
  pub queues : map unbudgeted other.queues ≡ map unbudgeted setup.queues
  pub carried : other.carried ≡ setup.carried
  pub helpers : (name : Helper) → is_there setup.limits.helpers name ≡ true → is_there other.limits.helpers name ≡ true

-- what is read off lists that are mapped to one
at_map : (f : QueueSetup → QueueSetup) (xs : List QueueSetup) (k : ℕ) → f no_queue ≡ no_queue → get_or (map f xs) k no_queue ≡ f (get_or xs k no_queue)
at_map f [] k none = sym none
at_map f (x ∷ xs) zero none = refl
at_map f (x ∷ xs) (suc k) none = at_map f xs k none

module _ (setup other : Setup) (its : IsWider setup other) where
  pub count_is : queue_count setup ≡ queue_count other
  count_is = sym (length-map setup.queues unbudgeted) ∙ (sym (ap (λ (qs : List QueueSetup). length qs) its.queues) ∙ length-map other.queues unbudgeted)

  queue_is : (queue : ℕ) → unbudgeted (queue_setup setup queue) ≡ unbudgeted (queue_setup other queue)
  queue_is queue =
      sym (at_map unbudgeted setup.queues queue refl)
      ∙ (sym (ap (λ (qs : List QueueSetup). get_or qs queue no_queue) its.queues) ∙ at_map unbudgeted other.queues queue refl)

  program_is : (queue : ℕ) → (queue_setup setup queue).program ≡ (queue_setup other queue).program
  program_is queue = ap (λ (q : QueueSetup). q.program) (queue_is queue)

  pub controller_is : (queue : ℕ) → (queue_setup setup queue).controller ≡ (queue_setup other queue).controller
  controller_is queue = ap (λ (q : QueueSetup). q.controller) (queue_is queue)

  openings_are : map (λ (q : QueueSetup). q.openings) setup.queues ≡ map (λ (q : QueueSetup). q.openings) other.queues
  openings_are =
      sym (mapped setup.queues) ∙ (sym (ap (λ (qs : List QueueSetup). map (λ (q : QueueSetup). q.openings) qs) its.queues) ∙ mapped other.queues)
    where
      mapped : (qs : List QueueSetup) → map (λ (q : QueueSetup). q.openings) (map unbudgeted qs) ≡ map (λ (q : QueueSetup). q.openings) qs
      mapped [] = refl
      mapped (q ∷ qs) = ap (λ (os : List ℕ). q.openings ∷ os) (mapped qs)

  -- both begin in one world
  same_opening : opening setup ≡ opening other
  same_opening = λ i. record (opening setup) {
    transport = record (opening setup).transport { openings = openings_are i };
    runs = record (opening setup).runs { tables = sym its.tables i };
  }

  -- a run starts so
  starts_so : (world : World) (ccb : Ccb) (freeze : ℕ) → run_starts setup world ccb freeze ≡ run_starts other world ccb freeze
  starts_so world ccb freeze = λ i. by world ccb freeze (program_is ccb.queue.0 i) (controller_is ccb.queue.0 i)
    where
      by : World → Ccb → ℕ → List Slot → ℕ → Reply × World
      by world ccb freeze program controller = (
        replies (answers.Started (world.runs.greatest + 1) freeze),
        record world {
          transport = record world.transport { live = with_ccb (record { ccb = ccb; state = InRecovery }) world.transport.live };
          runs = record world.runs {
            list = world.runs.list ++ record {
              number = world.runs.greatest + 1;
              ccb = ccb.number.0;
              queue = ccb.queue.0;
              controller = controller;
              program = program;
              machine = entry (context_of ccb) freeze;
              out = true;
            } ∷ [];
            greatest = world.runs.greatest + 1;
          };
        },
      )

  completes_so : (world : World) (outcome : Outcome) (live : LiveCcb) → completes setup world outcome live ≡ completes other world outcome live
  completes_so world outcome live = λ i.
      cond {A = Reply × World} (is_success outcome.status) (replies answers.Done, finishes world live.ccb outcome.status)
      (cond {A = Reply × World} (meets_limit (Device live.ccb.queue) world.transport.freezes world.transport.greatest_freeze)
      (starts_so world (completed live.ccb outcome false) 0 i)
      (starts_so (froze world (Device live.ccb.queue) (Run (world.runs.greatest + 1))) (completed live.ccb outcome true) (world.transport.greatest_freeze + 1) i))

  pub completed_so : (world : World) (outcome : Outcome) (o : Option LiveCcb) → option_map (completes setup world outcome) o ≡ option_map (completes other world outcome) o
  completed_so world outcome None = refl
  completed_so world outcome (Some live) = ap Some (completes_so world outcome live)

  -- the limits of the one and of the other, but for the helpers that there are
  abbrev with_helpers : HelperSet → HelperLimits
  with_helpers set = record { helpers = set; queues = setup.limits.queues; table_lengths = setup.limits.table_lengths }

  others_are : other.limits ≡ with_helpers other.limits.helpers
  others_are = λ i. record { helpers = other.limits.helpers; queues = its.named i; table_lengths = its.lengths i }

  -- what is asked of arguments does not depend on these
  asked_so : (first second : HelperSet) (m : MachineState) (arguments : Arguments) (o : Option ArgKind) (value : ℕ) → meets (with_helpers first) m arguments o value ≡ meets (with_helpers second) m arguments o value
  asked_so first second m arguments None value = refl
  asked_so first second m arguments (Some Queue) value = refl
  asked_so first second m arguments (Some HeldFreeze) value = refl
  asked_so first second m arguments (Some (Within least most)) value = refl
  asked_so first second m arguments (Some Table) value = refl
  asked_so first second m arguments (Some Index) value = refl
  asked_so first second m arguments (Some Word) value = refl
  asked_so first second m arguments (Some (Room bytes)) value = refl
  asked_so first second m arguments (Some Bytes) value = refl

  rule_so : (m : MachineState) (request : Request) → meets_rule setup.limits m request ≡ true → meets_rule other.limits m request ≡ true
  rule_so m request rule =
      let mine : HelperSet = setup.limits.helpers in
      let theirs : HelperSet = other.limits.helpers in
      let parts = rule_parts (with_helpers mine) m request rule in
      subst (λ (l : HelperLimits). meets_rule l m request ≡ true) (sym others_are)
      (and_from _ _ parts.need
      (and_from _ _ (sym (asked_so mine theirs m request.arguments (asks request.helper).first request.arguments.first) ∙ parts.first)
      (and_from _ _ (sym (asked_so mine theirs m request.arguments (asks request.helper).second request.arguments.second) ∙ parts.second)
      (and_from _ _ (sym (asked_so mine theirs m request.arguments (asks request.helper).third request.arguments.third) ∙ parts.third) (its.helpers request.helper parts.there)))))

  -- each instruction
  helper_so : (world : World) (run : LiveRun) (told : Told) (o : Option Request) (p : Reply × World) → option_and_then (step_helper setup.limits world run told) o ≡ Some p → option_and_then (step_helper other.limits world run told) o ≡ Some p
  helper_so world run told None p e = absurd cc
  helper_so world run told (Some request) p e =
      elim (cases_Bool (may_call setup.limits run told request)) [
        | inl may ↦
            let parts = and_parts (is_told told (told_of request)) (meets_rule setup.limits run.machine request) may in
            cond-true (may_call other.limits run told request) _ _ (and_from _ _ parts.0 (rule_so run.machine request parts.1))
            ∙ (sym (cond-true (may_call setup.limits run told request) _ _ may) ∙ e)
        | inr may_not ↦ let none = sym (cond-false (may_call setup.limits run told request) _ _ may_not) ∙ e in absurd cc
      ]

  instruction_so : (world : World) (run : LiveRun) (instruction : Instruction) (p : Reply × World) → step_run setup.limits world run instruction ≡ Some p → step_run other.limits world run instruction ≡ Some p
  instruction_so world run private p e = e
  instruction_so world run (call told) p e = helper_so world run told (request_at run.program run.machine) p e
  instruction_so world run exit p e = e

  pub executes_so : (world : World) (instruction : Instruction) (o : Option LiveRun) (p : Reply × World) → step_executes setup.limits world instruction o ≡ Some p → step_executes other.limits world instruction o ≡ Some p
  executes_so world instruction None p e = absurd cc
  executes_so world instruction (Some run) p e =
      elim (cases_Bool run.out) [
        | inl out ↦ cond-true run.out _ _ out ∙ instruction_so world run instruction p (sym (cond-true run.out _ _ out) ∙ e)
        | inr parked ↦ let none = sym (cond-false run.out _ _ parked) ∙ e in absurd cc
      ]

  -- both begin in one world, whether it was taken over or not
  pub same_beginning : beginning setup ≡ beginning other
  same_beginning = of_taken_over setup.carried other.carried its.carried
    where
      of_taken_over : (mine theirs : Option World) → theirs ≡ mine → beginning_of setup mine ≡ beginning_of other theirs
      of_taken_over None theirs same = same_opening ∙ ap (beginning_of other) (sym same)
      of_taken_over (Some world) theirs same = ap (beginning_of other) (sym same)

  -- a world that the one may take over the other may, if what there is in the one there is in the other, and CCBs have no class in the one
  module _ (there_too : (place : Place) → is_unknown setup place ≡ false → is_unknown other place ≡ false) (unclassed : has_classes setup ≡ false) where
    begins_too : (world : World) → IsBeginning setup world → IsBeginning other world
    begins_too world begins =
        let limits = begins.limits in
        let places : All (IsCarriedFreeze other) world.transport.freezes = λ k d below. record { place = there_too _ (begins.freezes k d below).place; holder = (begins.freezes k d below).holder } in
        record {
          limits = record {
            freezes = record { places = λ agreed k d below. (places k d below).place; a_place = limits.freezes.a_place; ledger = limits.freezes.ledger; numbered = limits.freezes.numbered; numbers = limits.freezes.numbers };
            ccbs = record { queues = rw (← count_is) limits.ccbs.queues; plain = λ none. limits.ccbs.plain unclassed; a_queue = limits.ccbs.a_queue; all = limits.ccbs.all; rising = limits.ccbs.rising; numbers = limits.ccbs.numbers };
            runs = record { queues = rw begins.no_run (λ k d below. absurd (omega arith)); controllers = rw begins.no_run (λ k d below. absurd (omega arith)); programs = rw begins.no_run (λ k d below. absurd (omega arith)); all = limits.runs.all; rising = limits.runs.rising; numbers = limits.runs.numbers };
            answers = record { queues = limits.answers.queues ∙ count_is; openings = limits.answers.openings; lengths = limits.answers.lengths ∙ sym its.lengths; words = limits.answers.words; clock = limits.answers.clock };
          };
          ccbs = begins.ccbs;
          freezes = places;
          no_run = begins.no_run;
          none_ended = begins.none_ended;
        }

    pub begins_so : Begins setup → Begins other
    begins_so begins = of_taken_over setup.carried other.carried its.carried begins
      where
        of_taken_over : (mine theirs : Option World) → theirs ≡ mine → IfSome mine (IsBeginning setup) → IfSome theirs (IsBeginning other)
        of_taken_over None theirs same begins = rw same tt
        of_taken_over (Some world) theirs same begins = rw same (begins_too world begins)
