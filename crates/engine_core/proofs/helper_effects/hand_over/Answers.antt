use Rattle.std.proofs.Common.{◌≡◌, ℕ, ◌+◌, ◌≤◌, List, None, Some, ap, sym, subst, ◌∙◌, arith}
use Rattle.std.proofs.lemmas.Bool.{and_parts, cond-true, leb-true}
use Rattle.freeze_ledger.specs.Freezes.{handed_over}
use Rattle.helpers.specs.declared.table.HelperEffect.TheVariants as effects
use Rattle.helpers.specs.declared.request.Request.{Request}
use Rattle.helpers.specs.Table.{row_of, answer_number}
use Rattle.interpreter.specs.Segments.{SegmentState}
use Rattle.engine_runs.specs.RunsState.{RunsState, tokens_at, tokens_of}
use Rattle.world.specs.Capacities.{last_reading}
use Rattle.world.specs.World.{Transport, LiveRun, World}
use Rattle.world.specs.Lookups.{with_run}
use Rattle.world.specs.FreezeSteps.{timed}
use Rattle.world.specs.RunSteps.{is_run, answers, hands_over}
use Rattle.world_laws.proofs.Deeds.{suits}
use Rattle.engine_core.specs.TakingOver.{IsCalled, at_stop, Does}
use Rattle.engine_core.proofs.Calls.{is_ruled, is_answer, deed_step, between, rule, answer_limits, given_up, IsGivingUp, giving_up}
use Rattle.std.specs.Prelude.{slice_set}
use Rattle.std.specs.List.{Contains}
use Rattle.freeze_ledger.specs.declared.freeze.Freeze.{Freeze}
use Rattle.freeze_ledger.specs.Freezes.{without}
use Rattle.engine_runs.specs.Tokens.{AreTokensWith}
use Rattle.world.specs.Laws.FreezeLaws.{entries_of}
use Rattle.world.specs.Lookups.{with_run}
use Rattle.engine_core.proofs.Holding.{entry_is_there, gave_one_up, handed_entries}
use Rattle.engine_core.proofs.helper_effects.hand_over.Goals as goal

module _ (transport : Transport) (old : RunsState) (place : ℕ) (segment : SegmentState) (request : Request) (it : IsCalled transport old place segment request) (is : (row_of request.helper).effect ≡ effects.HandOver) where
  record IsHandingOver (freeze milliseconds : ℕ) : Type 0 where
    giving : IsGivingUp transport old place segment request it freeze
    few : milliseconds ≤ 600000
    clock : transport.clock ≤ last_reading

  handing_over : IsHandingOver request.arguments.first request.arguments.second
  handing_over =
      let a = it.admitted in
      let ruled = is_ruled a.setup.limits segment.to request _ _ _ _ _ _ _ (suits effects.HandOver request is) (rule transport old place segment request it) in
      record {
        giving = giving_up transport old place segment request it request.arguments.first ruled.first_met;
        few = leb-true _ _ (and_parts _ _ ruled.second_met).1;
        clock = (answer_limits transport old place segment request it).clock;
      }

  handed_one_over : (token : Freeze) (more : Transport) (after : RunsState) → ((freezes : List Freeze) (its : AreTokensWith (tokens_at old place) freezes request.arguments.first) → (token ≡ its.entry) × (after ≡ record old { tokens = slice_set old.tokens place (tokens_of (without request.arguments.first freezes)) })) → more ≡ record transport { freezes = handed_over token.number (transport.clock + request.arguments.second) transport.freezes } → Does place segment request (answer_number 0) transport old more after
  handed_one_over token more after went more_was =
      let a = it.admitted in
      let freeze = request.arguments.first in
      let due : ℕ = transport.clock + request.arguments.second in
      let giving = handing_over.giving in
      let columns = suits effects.HandOver request is in
      let gone = went (entries_of giving.run.number transport.freezes) giving.token in
      let named : token.number ≡ freeze = ap (λ (f : Freeze). f.number) (gone.0 ∙ giving.token_is) ∙ giving.number_is in
      let more_is : more ≡ record transport { freezes = handed_over freeze due transport.freezes } = more_was ∙ ap (λ (n : ℕ). record transport { freezes = handed_over n due transport.freezes }) named in
      let runs_are : old.runs ≡ after.runs = sym (ap (λ (r : RunsState). r.runs) gone.1) in
      record {
        allowed = is_answer segment.to request (answer_number 0) _ _ columns.gives_is columns.machine_is (omega arith, omega arith) tt;
        list = ap (λ (r : RunsState). r.runs.list) gone.1;
        tokens = gave_one_up transport.freezes more.freezes transport.greatest_freeze freeze old after place old.runs.greatest giving.run giving.entry a.kept.tokens giving.there giving.rising giving.numbered giving.found giving.its
            (λ n. ap (λ (m : Transport). entries_of n m.freezes) more_is ∙ handed_entries transport.freezes transport.greatest_freeze freeze due giving.entry giving.numbered giving.found n) gone.1;
        step = λ n b setup history kept.
            let there = given_up transport old place segment request it n freeze b setup history kept giving.held in
            let run : LiveRun = at_stop b.out.it segment in
            let before : World = between transport old segment setup history b.out.it in
            let end : World = timed before freeze due in
            record {
              world = end;
              step = deed_step before run request effects.HandOver is
                  ∙ (ap (hands_over before run request) there.found
                  ∙ cond-true (is_run run.number there.entry.holder) (Some (answers end run request (answer_number 0))) None there.its);
              is = λ i. record end { transport = sym more_is i; runs = record (runs_are i) { list = with_run run (runs_are i).list } };
            };
      }

pub overflow_cast-arguments : goal.overflow_cast-arguments
overflow_cast-arguments c = omega (arith, (handing_over c.args.transport.now c.args.runs.now c.args.place c.requires.1.0 c.args.request.now c.requires.1.1 c.requires.0).giving.bound)

pub overflow_cast-arguments-2 : goal.overflow_cast-arguments-2
overflow_cast-arguments-2 c = omega (arith, (handing_over c.args.transport.now c.args.runs.now c.args.place c.requires.1.0 c.args.request.now c.requires.1.1 c.requires.0).few)

pub let_go-token-requires-clause-run : goal.let_go-token-requires-clause-run
let_go-token-requires-clause-run c = (c.requires.1.1.admitted.out.it, c.requires.1.1.admitted.there)

pub let_go-token-requires-clause-holds : goal.let_go-token-requires-clause-holds
let_go-token-requires-clause-holds c =
    let it = (handing_over c.args.transport.now c.args.runs.now c.args.place c.requires.1.0 c.args.request.now c.requires.1.1 c.requires.0).giving in
    (entries_of it.run.number c.args.transport.now.freezes, it.token)

pub hand_over-requires-clause-there : goal.hand_over-requires-clause-there
hand_over-requires-clause-there c =
    let it = (handing_over c.args.transport.now c.args.runs.now c.args.place c.requires.1.0 c.args.request.now c.requires.1.1 c.requires.0).giving in
    let went = c.let_go-token.ensures (entries_of it.run.number c.args.transport.now.freezes) it.token in
    subst (λ (f : Freeze). Contains c.args.transport.now.freezes f) (sym (went.0 ∙ it.token_is)) (entry_is_there c.args.request.now.arguments.first c.args.transport.now.freezes it.entry it.found)

pub hand_over-requires-clause-clock : goal.hand_over-requires-clause-clock
hand_over-requires-clause-clock c = (handing_over c.args.transport.now c.args.runs.now c.args.place c.requires.1.0 c.args.request.now c.requires.1.1 c.requires.0).clock

pub returns : goal.returns
returns c =
    record {
      does = λ segment it.
          rw c.number.ensures
          (handed_one_over c.args.transport.now c.args.runs.now c.args.place segment c.args.request.now it c.requires.0 c.let_go-token.result c.hand_over.new.self c.let_go-token.new.self c.let_go-token.ensures c.hand_over.ensures);
    }
