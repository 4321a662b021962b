use Rattle.std.proofs.Common.{◌≡◌, Option, Some, refl, ap, sym, subst, ◌∙◌}
use Rattle.ccb.specs.declared.QueueId.{QueueId}
use Rattle.world.specs.Lookups.{run_of}
use Rattle.engine_runs.specs.declared.run_record.RunRecord.{RunRecord}
use Rattle.engine_runs.specs.Admits.{KnowsProgram}
use Rattle.engine_runs.specs.LiveRuns.{live_of, lives_of}
use Rattle.engine_runs.specs.RunsState.{RunsState}
use Rattle.engine_runs.proofs.Records.{found_there}
use Rattle.engine_runs.proofs.runs.Runs.admit_run.Goals as goal

-- of the queue that is known the recorded run has this program
pub is_out_with-requires : goal.is_out_with-requires
is_out_with-requires c =
    let it : RunRecord = c.index-it.result.now in
    let found : run_of c.args.run (lives_of c.self.inside.records.values) ≡ Some (live_of it) = c.in_ok-place.ensures.found it ∙ ap (λ (r : RunRecord). Some (live_of r)) (sym c.index-it.ensures) in
    let knows : KnowsProgram (lives_of c.self.inside.records.values) c.args.run c.args.program.now.program c.args.known = subst (λ (s : RunsState). KnowsProgram s.runs.list c.args.run c.args.program.now.program c.args.known) (sym c.self.view_is) c.requires in
    λ yes. (subst (λ (known : Option QueueId). KnowsProgram (lives_of c.self.inside.records.values) c.args.run c.args.program.now.program known) (c.is_of_known-is_its.ensures yes) knows) (live_of it) found refl

pub returns-then-is_out_with-clause-admitted : goal.returns-then-is_out_with-clause-admitted
returns-then-is_out_with-clause-admitted c =
    let within = c.in_ok-place.ensures.within in
    let found = c.in_ok-place.ensures.found in
    rw (← c.self.view_is) (
      λ yes. record {
        it = live_of c.index-it.result.now;
        found = found c.index-it.result.now ∙ ap (λ (r : RunRecord). Some (live_of r)) (sym c.index-it.ensures);
        recorded = c.is_out_with.ensures.0 c.if-is_out_with.true;
      },
      λ is. refl,
    )

pub returns-then-is_out_with-clause-place : goal.returns-then-is_out_with-clause-place
returns-then-is_out_with-clause-place c =
    rw (← c.self.view_is)
    (found_there c.self.inside.records.values c.args.run c.in_ok-place.place c.index-it.result.now
    (c.in_ok-place.ensures.within, c.in_ok-place.ensures.found))
