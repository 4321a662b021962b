use Rattle.std.proofs.Common.{◌≡◌, ◌<◌, List, length, set, refl, ap, sym, subst, ◌∙◌, arith}
use Rattle.std.proofs.lemmas.List.{get_or-set_same}
use Rattle.std.proofs.Math.ListN.{length-set}
use Rattle.bpf_semantics.specs.MachineState.{MachineState}
use Rattle.bpf_semantics.specs.Step.{answered}
use Rattle.world.specs.World.{LiveRun}
use Rattle.world.specs.Lookups.{with_run}
use Rattle.engine_runs.specs.declared.run_record.RunRecord.{RunRecord}
use Rattle.engine_runs.specs.RunsState.{RunsState, tokens_in}
use Rattle.engine_runs.specs.LiveRuns.{live_of, lives_of}
use Rattle.engine_runs.specs.RunPlaces.{HasRunAt}
use Rattle.engine_runs.proofs.Records.{key_of, run_at, has_run_at, record_changed, record_kept}
use Rattle.engine_runs.proofs.Kept.{kept_changed, seen_is}
use Rattle.engine_runs.proofs.runs.Runs.go_on.Goals as goal

here : (c : goal.After-self-1) (it : LiveRun) → HasRunAt (lives_of c.self.inside.records.values) c.args.place it → (c.args.place < length c.self.inside.records.values) × (live_of c.index_mut.result.now ≡ it)
here c it at = run_at c.self.inside.records.values c.args.place it c.index_mut.result.now at c.index_mut.ensures.value

-- what the run is then
goes_on : (c : goal.After-self-1) (it : LiveRun) → HasRunAt (lives_of c.self.inside.records.values) c.args.place it → live_of (record c.index_mut.result.now { machine = c.replace.new.dest }) ≡ record it { machine = answered c.args.request.now c.args.answer.now c.args.to.value }
goes_on c it at =
    ap (λ (x : LiveRun). record x { machine = c.replace.new.dest.value }) (here c it at).1
    ∙ ap (λ (m : MachineState). record it { machine = m }) (ap (λ b. b.value) c.replace.ensures.after ∙ (c.pass.ensures.machine ∙ ap (answered c.args.request.now c.args.answer.now) c.deref_mut.ensures.value))

pub invariant_of-self : goal.invariant_of-self
invariant_of-self c =
    let run = subst (λ (s : RunsState). (it : LiveRun) × HasRunAt s.runs.list c.args.place it) (sym c.self.view_is) c.requires.run in
    kept_changed c.self.inside.records c.self.inside.greatest c.args.place c.index_mut.result.now _ c.self.invariant (here c run.0 run.1).0 c.index_mut.ensures.value refl

pub returns-clause-goes : goal.returns-clause-goes
returns-clause-goes c =
    let rs : List RunRecord = c.self.inside.records.values in
    let r : RunRecord = c.index_mut.result.now in
    let after : RunRecord = record r { machine = c.replace.new.dest } in
    rw (← c.self.view_is) (λ it at.
    seen_is _ c.self.inside.greatest c.self.inside.tables _ _
    (record_changed rs c.self.inside.greatest c.args.place after r c.self.invariant.rising (here c it at).0 (sym (ap key_of c.index_mut.ensures.value))
    ∙ ap (λ (x : LiveRun). with_run x (lives_of rs)) (goes_on c it at))
    (record_kept tokens_in rs c.args.place r after (here c it at).0 c.index_mut.ensures.value refl))

pub returns-clause-place : goal.returns-clause-place
returns-clause-place c =
    let rs : List RunRecord = c.self.inside.records.values in
    let after : RunRecord = record c.index_mut.result.now { machine = c.replace.new.dest } in
    rw (← c.self.view_is) (λ it at.
    let l : c.args.place < length (set rs c.args.place after) = omega (arith, length-set rs c.args.place after, (here c it at).0) in
    subst (HasRunAt (lives_of (set rs c.args.place after)) c.args.place) (goes_on c it at)
    (has_run_at (set rs c.args.place after) c.args.place after l (sym (get_or-set_same rs c.args.place after after (here c it at).0))))
