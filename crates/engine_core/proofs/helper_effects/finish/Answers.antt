use Rattle.std.proofs.Common.{◌≡◌, ℕ, refl, ap, sym, ◌∙◌, arith}
use Rattle.std.proofs.lemmas.Bool.{not-true}
use Rattle.helpers.specs.declared.table.HelperEffect.TheVariants as effects
use Rattle.helpers.specs.declared.request.Request.{Request}
use Rattle.helpers.specs.Table.{row_of, answer_number}
use Rattle.interpreter.specs.Segments.{SegmentState}
use Rattle.engine_runs.specs.RunsState.{RunsState}
use Rattle.engine_runs.specs.RunPlaces.{HasRunAt}
use Rattle.world.specs.World.{Transport, LiveRun, World}
use Rattle.world.specs.Lookups.{ccb_of, with_run}
use Rattle.world.specs.CcbSteps.{ended_with}
use Rattle.world.specs.RunSteps.{finishes}
use Rattle.world.proofs.Lists.Found.{leave, found_key}
use Rattle.world.proofs.Steps.Moves.{ccb_key}
use Rattle.world_laws.proofs.Deeds.{suits}
use Rattle.engine_core.specs.TakingOver.{IsCalled, at_stop, Does}
use Rattle.world.specs.Lookups.{is_waiting}
use Rattle.engine_core.proofs.Holding.{same_freezes}
use Rattle.engine_core.proofs.Calls.{is_ruled, is_answer, deed_step, between, rule, has_its_ccb, IsDisposing, disposing}
use Rattle.engine_core.proofs.helper_effects.finish.Goals as goal

module _ (transport : Transport) (old : RunsState) (place : ℕ) (segment : SegmentState) (request : Request) (it : IsCalled transport old place segment request) (is : (row_of request.helper).effect ≡ effects.Finish) where
  finishing : IsDisposing transport old place segment request it
  finishing =
      disposing transport old place segment request it
      (not-true _ (is_ruled it.admitted.setup.limits segment.to request _ _ _ _ _ _ _ (suits effects.Finish request is) (rule transport old place segment request it)).needed)

  finished_one : (ccb : ℕ) (more : Transport) → ((run : LiveRun) → HasRunAt old.runs.list place run → ccb ≡ run.ccb) → more ≡ record transport { live = leave ccb_key ccb transport.live } → Does place segment request (answer_number 0) transport old more old
  finished_one ccb more ccb_is fewer =
      let columns = suits effects.Finish request is in
      record {
        allowed = is_answer segment.to request (answer_number 0) _ _ columns.gives_is columns.machine_is (omega arith, omega arith) tt;
        list = refl;
        tokens = same_freezes transport.freezes more.freezes old it.admitted.kept.tokens (ap (λ (m : Transport). m.freezes) fewer);
        step = λ n b setup history kept.
            let its = has_its_ccb transport old place segment request it n b setup history kept finishing.fresh in
            let run : LiveRun = at_stop b.out.it segment in
            let before : World = between transport old segment setup history b.out.it in
            let end : World = ended_with before its.live.ccb request.arguments.first in
            let named : its.live.ccb.number.0 ≡ ccb = found_key ccb_key b.out.it.ccb transport.live its.live its.found ∙ sym (ccb_is b.out.it b.there) in
            record {
              world = end;
              step = deed_step before run request effects.Finish is ∙ ap (finishes before run request) its.found;
              is = ap (λ (m : Transport). record end { transport = m; runs = record old.runs { list = with_run run old.runs.list } })
                  (ap (λ (k : ℕ). record transport { live = leave ccb_key k transport.live }) named ∙ sym fewer);
            };
      }

pub ccb-requires : goal.ccb-requires
ccb-requires c = (c.requires.1.1.admitted.out.it, c.requires.1.1.admitted.there)

pub finish-requires : goal.finish-requires
finish-requires c =
    let its = finishing c.args.transport.now c.args.runs.now c.args.place c.requires.1.0 c.args.request.now c.requires.1.1 c.requires.0 in
    (its.live, ap (λ (n : ℕ). ccb_of n c.args.transport.now.live) (c.ccb.ensures its.run its.there) ∙ its.found, ap is_waiting its.state)

pub returns : goal.returns
returns c =
    record {
      does = λ segment it.
          rw c.number.ensures (finished_one c.args.transport.now c.args.runs.now c.args.place segment c.args.request.now it c.requires.0 c.ccb.result.0 c.finish.new.self c.ccb.ensures c.finish.ensures);
    }
