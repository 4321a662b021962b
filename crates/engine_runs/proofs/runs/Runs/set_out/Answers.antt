use Rattle.std.proofs.Common.{◌≡◌, ◌<◌, List, length, refl, ap, sym, subst, ◌∙◌}
use Rattle.world.specs.World.{LiveRun}
use Rattle.world.specs.Lookups.{with_run}
use Rattle.engine_runs.specs.declared.run_record.RunRecord.{RunRecord}
use Rattle.engine_runs.specs.RunsState.{RunsState, tokens_in}
use Rattle.engine_runs.specs.LiveRuns.{live_of, lives_of}
use Rattle.engine_runs.specs.RunPlaces.{HasRunAt}
use Rattle.engine_runs.proofs.Records.{key_of, run_at, record_changed, record_kept}
use Rattle.engine_runs.proofs.Kept.{kept_changed, seen_is}
use Rattle.engine_runs.proofs.runs.Runs.set_out.Goals as goal

here : (c : goal.After-self-1) (it : LiveRun) → HasRunAt (lives_of c.self.inside.records.values) c.args.place it → (c.args.place < length c.self.inside.records.values) × (live_of c.index_mut.result.now ≡ it)
here c it at = run_at c.self.inside.records.values c.args.place it c.index_mut.result.now at c.index_mut.ensures.value

pub invariant_of-self : goal.invariant_of-self
invariant_of-self c =
    let run = subst (λ (s : RunsState). (it : LiveRun) × HasRunAt s.runs.list c.args.place it) (sym c.self.view_is) c.requires in
    kept_changed c.self.inside.records c.self.inside.greatest c.args.place c.index_mut.result.now _ c.self.invariant (here c run.0 run.1).0 c.index_mut.ensures.value refl

pub returns : goal.returns
returns c =
    let rs : List RunRecord = c.self.inside.records.values in
    let r : RunRecord = c.index_mut.result.now in
    let after : RunRecord = record r { out = c.args.out } in
    rw (← c.self.view_is) (λ it at.
    seen_is _ c.self.inside.greatest c.self.inside.tables _ _
    (record_changed rs c.self.inside.greatest c.args.place after r c.self.invariant.rising (here c it at).0 (sym (ap key_of c.index_mut.ensures.value))
    ∙ ap (λ (x : LiveRun). with_run (record x { out = c.args.out }) (lives_of rs)) (here c it at).1)
    (record_kept tokens_in rs c.args.place r after (here c it at).0 c.index_mut.ensures.value refl))
