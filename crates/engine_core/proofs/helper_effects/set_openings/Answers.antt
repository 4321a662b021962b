use Rattle.std.proofs.Common.{◌≡◌, ℕ, ◌≤◌, Some, refl, ap, sym, ◌∙◌, arith}
use Rattle.std.specs.Prelude.{slice_index, slice_set}
use Rattle.helpers.specs.declared.table.HelperEffect.TheVariants as effects
use Rattle.helpers.specs.declared.request.Request.{Request}
use Rattle.helpers.specs.Table.{row_of, answer_number}
use Rattle.interpreter.specs.Segments.{SegmentState}
use Rattle.engine_runs.specs.RunsState.{RunsState}
use Rattle.engine_runs.specs.RunPlaces.{HasRunAt}
use Rattle.world.specs.Capacities.{most_openings}
use Rattle.world.specs.World.{Transport, LiveRun, World}
use Rattle.world.specs.Lookups.{with_run}
use Rattle.world.specs.RunSteps.{answers}
use Rattle.world_laws.proofs.Deeds.{suits, openings_to_set}
use Rattle.engine_core.specs.TakingOver.{IsCalled, at_stop, Does}
use Rattle.engine_core.proofs.Holding.{same_freezes}
use Rattle.engine_core.proofs.Calls.{is_answer, deed_step, between, rule, answer_limits, queue_there}
use Rattle.engine_core.proofs.helper_effects.set_openings.Goals as goal

module _ (transport : Transport) (old : RunsState) (place : ℕ) (segment : SegmentState) (request : Request) (it : IsCalled transport old place segment request) (is : (row_of request.helper).effect ≡ effects.SetOpenings) where
  opening : (1 ≤ request.arguments.first) × (request.arguments.first ≤ most_openings)
  opening = openings_to_set it.admitted.setup.limits segment.to request is (rule transport old place segment request it)

  opened : (queue was : ℕ) (more : Transport) → ((run : LiveRun) → HasRunAt old.runs.list place run → queue ≡ run.queue) → was ≡ slice_index transport.openings queue → more ≡ record transport { openings = slice_set transport.openings queue request.arguments.first } → Does place segment request (answer_number was) transport old more old
  opened queue was more queue_is was_is more_is =
      let each = (answer_limits transport old place segment request it).openings queue 0 (queue_there transport old place segment request it queue queue_is) in
      let columns = suits effects.SetOpenings request is in
      record {
        allowed = is_answer segment.to request (answer_number was) _ _ columns.gives_is columns.machine_is (omega (arith, was_is, each.0), omega (arith, was_is, each.1)) tt;
        list = refl;
        tokens = same_freezes transport.freezes more.freezes old it.admitted.kept.tokens (ap (λ (m : Transport). m.freezes) more_is);
        step = λ n b setup history kept.
            let run : LiveRun = at_stop b.out.it segment in
            let before : World = between transport old segment setup history b.out.it in
            let end : World = record before { transport = record before.transport { openings = slice_set before.transport.openings run.queue request.arguments.first } } in
            let own : run.queue ≡ queue = sym (queue_is b.out.it b.there) in
            record {
              world = end;
              step = deed_step before run request effects.SetOpenings is
                  ∙ ap (λ (k : ℕ). Some (answers end run request (answer_number k))) (ap (λ (q : ℕ). slice_index transport.openings q) own ∙ sym was_is);
              is = ap (λ (m : Transport). record end { transport = m; runs = record old.runs { list = with_run run old.runs.list } })
                  (ap (λ (q : ℕ). record transport { openings = slice_set transport.openings q request.arguments.first }) own ∙ sym more_is);
            };
      }

pub queue-requires : goal.queue-requires
queue-requires c = (c.requires.1.1.admitted.out.it, c.requires.1.1.admitted.there)

pub overflow_cast-request : goal.overflow_cast-request
overflow_cast-request c = omega (arith, (opening c.args.transport.now c.args.runs.now c.args.place c.requires.1.0 c.args.request.now c.requires.1.1 c.requires.0).1)

pub set_openings-old-requires-clause-known : goal.set_openings-old-requires-clause-known
set_openings-old-requires-clause-known c = queue_there c.args.transport.now c.args.runs.now c.args.place c.requires.1.0 c.args.request.now c.requires.1.1 c.queue.result.0 c.queue.ensures

pub set_openings-old-requires-clause-some : goal.set_openings-old-requires-clause-some
set_openings-old-requires-clause-some c = (opening c.args.transport.now c.args.runs.now c.args.place c.requires.1.0 c.args.request.now c.requires.1.1 c.requires.0).0

pub returns : goal.returns
returns c =
    record {
      does = λ segment it.
          rw (c.number.ensures, c.from.ensures)
          (opened c.args.transport.now c.args.runs.now c.args.place segment c.args.request.now it c.requires.0 c.queue.result.0 c.set_openings-old.result c.set_openings-old.new.self c.queue.ensures c.set_openings-old.ensures.answer c.set_openings-old.ensures.openings);
    }
