use Rattle.std.proofs.Common.{◌≡◌, ℕ, ◌≤◌, Some, refl, ap, sym, ◌∙◌, arith}
use Rattle.std.proofs.lemmas.Bool.{and_parts, not-true, leb-true}
use Rattle.ccb.specs.Ccb.{advised}
use Rattle.helpers.specs.declared.table.HelperEffect.TheVariants as effects
use Rattle.helpers.specs.declared.request.Request.{Request}
use Rattle.helpers.specs.Table.{row_of, answer_number}
use Rattle.interpreter.specs.Segments.{SegmentState}
use Rattle.engine_runs.specs.RunsState.{RunsState}
use Rattle.engine_runs.specs.RunPlaces.{HasRunAt}
use Rattle.world.specs.World.{Transport, LiveCcb, LiveRun, World}
use Rattle.world.specs.Lookups.{ccb_of, with_ccb, with_run}
use Rattle.world.specs.RunSteps.{advises}
use Rattle.world_laws.proofs.Deeds.{suits}
use Rattle.engine_core.specs.TakingOver.{IsCalled, at_stop, Does}
use Rattle.engine_core.proofs.Holding.{same_freezes}
use Rattle.engine_core.proofs.Calls.{is_ruled, is_answer, deed_step, between, rule, has_its_ccb, IsDisposing, disposing}
use Rattle.engine_core.proofs.helper_effects.advise.Goals as goal

module _ (transport : Transport) (old : RunsState) (place : ℕ) (segment : SegmentState) (request : Request) (it : IsCalled transport old place segment request) (is : (row_of request.helper).effect ≡ effects.Advise) where
  record IsAdvising (word : ℕ) : Type 0 where
    its : IsDisposing transport old place segment request it
    few : word ≤ 4294967295

  advising : IsAdvising request.arguments.first
  advising =
      let ruled = is_ruled it.admitted.setup.limits segment.to request _ _ _ _ _ _ _ (suits effects.Advise request is) (rule transport old place segment request it) in
      record { its = disposing transport old place segment request it (not-true _ ruled.needed); few = leb-true _ _ (and_parts _ _ ruled.first_met).1 }

  advised_one : (ccb : ℕ) (more : Transport) → ((run : LiveRun) → HasRunAt old.runs.list place run → ccb ≡ run.ccb) → ((live : LiveCcb) → ccb_of ccb transport.live ≡ Some live → more ≡ record transport { live = with_ccb (record live { ccb = advised live.ccb request.arguments.first }) transport.live }) → Does place segment request (answer_number 0) transport old more old
  advised_one ccb more ccb_is is_advised =
      let columns = suits effects.Advise request is in
      record {
        allowed = is_answer segment.to request (answer_number 0) _ _ columns.gives_is columns.machine_is (omega arith, omega arith) tt;
        list = refl;
        tokens = same_freezes transport.freezes more.freezes old it.admitted.kept.tokens (ap (λ (m : Transport). m.freezes) (is_advised advising.its.live (ap (λ (k : ℕ). ccb_of k transport.live) (ccb_is advising.its.run advising.its.there) ∙ advising.its.found)));
        step = λ n b setup history kept.
            let its = has_its_ccb transport old place segment request it n b setup history kept advising.its.fresh in
            let run : LiveRun = at_stop b.out.it segment in
            let before : World = between transport old segment setup history b.out.it in
            let end : World = record before { transport = record before.transport { live = with_ccb (record its.live { ccb = advised its.live.ccb request.arguments.first }) before.transport.live } } in
            record {
              world = end;
              step = deed_step before run request effects.Advise is ∙ ap (advises before run request) its.found;
              is = ap (λ (m : Transport). record end { transport = m; runs = record old.runs { list = with_run run old.runs.list } })
                  (sym (is_advised its.live (ap (λ (k : ℕ). ccb_of k transport.live) (ccb_is b.out.it b.there) ∙ its.found)));
            };
      }

pub overflow_cast-request : goal.overflow_cast-request
overflow_cast-request c = omega (arith, (advising c.args.transport.now c.args.runs.now c.args.place c.requires.1.0 c.args.request.now c.requires.1.1 c.requires.0).few)

pub ccb-requires : goal.ccb-requires
ccb-requires c = (c.requires.1.1.admitted.out.it, c.requires.1.1.admitted.there)

pub advise-requires : goal.advise-requires
advise-requires c =
    let its = (advising c.args.transport.now c.args.runs.now c.args.place c.requires.1.0 c.args.request.now c.requires.1.1 c.requires.0).its in
    (its.live, ap (λ (n : ℕ). ccb_of n c.args.transport.now.live) (c.ccb.ensures its.run its.there) ∙ its.found)

pub returns : goal.returns
returns c =
    record {
      does = λ segment it.
          rw c.number.ensures (advised_one c.args.transport.now c.args.runs.now c.args.place segment c.args.request.now it c.requires.0 c.ccb.result.0 c.advise.new.self c.ccb.ensures c.advise.ensures);
    }
