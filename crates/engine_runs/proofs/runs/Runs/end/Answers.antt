use Rattle.std.proofs.Common.{◌≡◌, ◌<◌, length, map, ap, sym, subst, ◌∙◌}
use Rattle.world.specs.World.{LiveRun}
use Rattle.engine_runs.specs.RunsState.{RunsState, tokens_in}
use Rattle.engine_runs.specs.LiveRuns.{live_of, lives_of, number_of}
use Rattle.engine_runs.specs.RunPlaces.{HasRunAt}
use Rattle.cam_numbered_slots.specs.NumberedState.{NumberedState}
use Rattle.cam_numbered_slots.proofs.Numbers.{map_remove}
use Rattle.engine_runs.specs.declared.run_record.RunRecord.{RunRecord}
use Rattle.engine_runs.proofs.Records.{key_of, run_at, record_removed}
use Rattle.engine_runs.proofs.Kept.{kept_ended, seen_is}
use Rattle.engine_runs.proofs.runs.Runs.end.Goals as goal

here : (c : goal.After-drop-ended) (it : LiveRun) → HasRunAt (lives_of c.self.inside.records.values) c.args.place it → (c.args.place < length c.self.inside.records.values) × (live_of c.remove-ended.result ≡ it)
here c it at = run_at c.self.inside.records.values c.args.place it c.remove-ended.result at c.remove-ended.ensures.value

pub invariant_of-self : goal.invariant_of-self
invariant_of-self c =
    let run = subst (λ (s : RunsState). (it : LiveRun) × HasRunAt s.runs.list c.args.place it) (sym c.self.view_is) c.requires.run in
    kept_ended c.self.inside.records _ c.self.inside.greatest c.args.place c.remove-ended.result.number c.remove-ended.result c.self.invariant (run_at c.self.inside.records.values c.args.place run.0 c.remove-ended.result run.1 c.remove-ended.ensures.value).0 (sym (ap key_of c.remove-ended.ensures.value)) c.remove-ended.ensures.others

pub returns : goal.returns
returns c =
    rw (← c.self.view_is) (λ it at.
    seen_is _ c.self.inside.greatest c.self.inside.tables _ _
    (ap (λ (s : NumberedState RunRecord). lives_of s.values) c.remove-ended.ensures.others
    ∙ record_removed c.self.inside.records.values c.self.inside.greatest c.args.place it.number c.remove-ended.result c.self.invariant.rising (here c it at).0 (sym (ap key_of c.remove-ended.ensures.value) ∙ ap number_of (here c it at).1))
    (ap (λ (s : NumberedState RunRecord). map tokens_in s.values) c.remove-ended.ensures.others ∙ map_remove tokens_in c.self.inside.records.values c.args.place (here c it at).0))
