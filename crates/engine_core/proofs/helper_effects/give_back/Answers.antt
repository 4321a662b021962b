use Rattle.std.proofs.Common.{◌≡◌, ℕ, ◌≤◌, List, None, Some, ap, sym, subst, ◌∙◌, arith}
use Rattle.std.proofs.lemmas.Bool.{cond-true}
use Rattle.freeze_ledger.specs.declared.freeze.Freeze.{Freeze}
use Rattle.freeze_ledger.specs.Freezes.{entry_of, without}
use Rattle.helpers.specs.declared.table.HelperEffect.TheVariants as effects
use Rattle.helpers.specs.declared.request.Request.{Request}
use Rattle.helpers.specs.Table.{row_of, answer_number}
use Rattle.interpreter.specs.Segments.{SegmentState}
use Rattle.engine_runs.specs.RunsState.{RunsState, tokens_at, tokens_of}
use Rattle.world.specs.World.{Transport, LiveRun, World}
use Rattle.world.specs.Lookups.{with_run}
use Rattle.world.specs.FreezeSteps.{frozen_with, thawed}
use Rattle.world.specs.RunSteps.{is_run, answers, releases}
use Rattle.world_laws.proofs.Steps.Fates.{count_after}
use Rattle.engine_core.specs.EngineState.{world_of}
use Rattle.engine_core.proofs.Recording.{kept_sound}
use Rattle.world_laws.proofs.Deeds.{suits}
use Rattle.engine_core.specs.TakingOver.{IsCalled, at_stop, Does}
use Rattle.engine_core.proofs.Calls.{is_ruled, is_answer, deed_step, between, rule, given_up, IsGivingUp, giving_up}
use Rattle.std.specs.Prelude.{slice_set}
use Rattle.std.specs.List.{Contains}
use Rattle.freeze_ledger.specs.Freezes.{frozen}
use Rattle.engine_runs.specs.Tokens.{AreTokensWith}
use Rattle.world.specs.Laws.FreezeLaws.{entries_of}
use Rattle.world.specs.Lookups.{with_run}
use Rattle.engine_core.proofs.Holding.{entry_is_there, gave_one_up}
use Rattle.engine_core.proofs.helper_effects.give_back.Goals as goal

module _ (transport : Transport) (old : RunsState) (place : ℕ) (segment : SegmentState) (request : Request) (it : IsCalled transport old place segment request) (is : (row_of request.helper).effect ≡ effects.GiveBack) where
  releasing : IsGivingUp transport old place segment request it request.arguments.first
  releasing =
      giving_up transport old place segment request it request.arguments.first
      (is_ruled it.admitted.setup.limits segment.to request _ _ _ _ _ _ _ (suits effects.GiveBack request is) (rule transport old place segment request it)).first_met

  released : (token : Freeze) (count : ℕ) (more : Transport) (after : RunsState) → ((freezes : List Freeze) (its : AreTokensWith (tokens_at old place) freezes request.arguments.first) → (token ≡ its.entry) × (after ≡ record old { tokens = slice_set old.tokens place (tokens_of (without request.arguments.first freezes)) })) → more ≡ record transport { freezes = without token.number transport.freezes } → count ≡ frozen token.place more.freezes → Does place segment request (answer_number count) transport old more after
  released token count more after went more_was counted =
      let a = it.admitted in
      let freeze = request.arguments.first in
      let columns = suits effects.GiveBack request is in
      let gone = went (entries_of releasing.run.number transport.freezes) releasing.token in
      let token_is : token ≡ releasing.entry = gone.0 ∙ releasing.token_is in
      let named : token.number ≡ freeze = ap (λ (f : Freeze). f.number) token_is ∙ releasing.number_is in
      let more_is : more ≡ record transport { freezes = without freeze transport.freezes } = more_was ∙ ap (λ (n : ℕ). record transport { freezes = without n transport.freezes }) named in
      let count_is : (entry : Freeze) → entry_of freeze transport.freezes ≡ Some entry → count ≡ frozen_with entry (without freeze transport.freezes) = λ entry found.
      let both : Some releasing.entry ≡ Some entry = sym releasing.found ∙ found in
      let same : releasing.entry ≡ entry = cc in
      counted ∙ (ap (λ (m : Transport). frozen token.place m.freezes) more_is ∙ ap (λ (f : Freeze). frozen_with f (without freeze transport.freezes)) (token_is ∙ same)) in
      let sound = kept_sound a.setup a.history transport old a.kept in
      let few : frozen_with releasing.entry (without freeze transport.freezes) ≤ 254 =
      subst (λ (n : ℕ). frozen_with releasing.entry (without n transport.freezes) ≤ 254) releasing.number_is (count_after a.setup (world_of a.setup a.history transport old.runs) freeze releasing.entry sound.kept.freezes releasing.found) in
      let runs_are : old.runs ≡ after.runs = sym (ap (λ (r : RunsState). r.runs) gone.1) in
      record {
        allowed = is_answer segment.to request (answer_number count) _ _ columns.gives_is columns.machine_is (omega arith, omega (arith, few, count_is releasing.entry releasing.found)) tt;
        list = ap (λ (r : RunsState). r.runs.list) gone.1;
        tokens = gave_one_up transport.freezes more.freezes transport.greatest_freeze freeze old after place old.runs.greatest releasing.run releasing.entry a.kept.tokens releasing.there releasing.rising releasing.numbered releasing.found releasing.its
            (λ n. ap (λ (m : Transport). entries_of n m.freezes) more_is) gone.1;
        step = λ n b setup history kept.
            let there = given_up transport old place segment request it n freeze b setup history kept releasing.held in
            let run : LiveRun = at_stop b.out.it segment in
            let before : World = between transport old segment setup history b.out.it in
            record {
              world = thawed before freeze;
              step = deed_step before run request effects.GiveBack is
                  ∙ (ap (releases before run request) there.found
                  ∙ (cond-true (is_run run.number there.entry.holder) (Some (answers (thawed before freeze) run request (answer_number (frozen_with there.entry (thawed before freeze).transport.freezes)))) None there.its
                  ∙ ap (λ (k : ℕ). Some (answers (thawed before freeze) run request (answer_number k))) (sym (count_is there.entry there.found))));
              is = λ i. record (thawed before freeze) { transport = sym more_is i; runs = record (runs_are i) { list = with_run run (runs_are i).list } };
            };
      }

pub overflow_cast-request : goal.overflow_cast-request
overflow_cast-request c = omega (arith, (releasing c.args.transport.now c.args.runs.now c.args.place c.requires.1.0 c.args.request.now c.requires.1.1 c.requires.0).bound)

pub let_go-token-requires-clause-run : goal.let_go-token-requires-clause-run
let_go-token-requires-clause-run c = (c.requires.1.1.admitted.out.it, c.requires.1.1.admitted.there)

pub let_go-token-requires-clause-holds : goal.let_go-token-requires-clause-holds
let_go-token-requires-clause-holds c =
    let it = releasing c.args.transport.now c.args.runs.now c.args.place c.requires.1.0 c.args.request.now c.requires.1.1 c.requires.0 in
    (entries_of it.run.number c.args.transport.now.freezes, it.token)

pub give_back-count-requires : goal.give_back-count-requires
give_back-count-requires c =
    let it = releasing c.args.transport.now c.args.runs.now c.args.place c.requires.1.0 c.args.request.now c.requires.1.1 c.requires.0 in
    let went = c.let_go-token.ensures (entries_of it.run.number c.args.transport.now.freezes) it.token in
    subst (λ (f : Freeze). Contains c.args.transport.now.freezes f) (sym (went.0 ∙ it.token_is)) (entry_is_there c.args.request.now.arguments.first c.args.transport.now.freezes it.entry it.found)

pub returns : goal.returns
returns c =
    record {
      does = λ segment it.
          rw (c.number.ensures, c.from.ensures)
          (released c.args.transport.now c.args.runs.now c.args.place segment c.args.request.now it c.requires.0 c.let_go-token.result c.give_back-count.result c.give_back-count.new.self c.let_go-token.new.self c.let_go-token.ensures c.give_back-count.ensures.freezes c.give_back-count.ensures.count);
    }
