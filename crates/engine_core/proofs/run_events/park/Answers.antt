use Rattle.std.proofs.Common.{◌≡◌, true, false, ap, sym, subst, ◌∙◌}
use Rattle.engine_runs.specs.RunsState.{RunsState}
use Rattle.engine_runs.specs.RunPlaces.{HasRunAt}
use Rattle.world.specs.World.{LiveRun}
use Rattle.engine_core.proofs.Parking.{is_same_run, with_out_run}
use Rattle.engine_core.proofs.Performing.{parks_it}
use Rattle.engine_core.proofs.run_events.park.Goals as goal

pub returns-clause-performs : goal.returns-clause-performs
returns-clause-performs c setup transport history kept =
    let there = c.requires.place in
    let same = is_same_run c.args.runs.now.runs.list c.args.run.number c.requires.out.it there.0 c.requires.out.found there.1 in
    let out : there.0.out ≡ true = sym (ap (λ (r : LiveRun). r.out) same) ∙ c.requires.out.recorded.0 in
    parks_it setup history transport c.args.runs.now c.set_out.new.self c.args.run there.0 c.number.result c.number.ensures kept there.1 out
    (subst (λ (r : RunsState). c.set_out.new.self ≡ with_out_run there.0 false r) (c.keep_place-2.ensures ∙ c.keep_place.ensures) (c.set_out.ensures there.0 (subst (λ (r : RunsState). HasRunAt r.runs.list c.args.place there.0) (sym (c.keep_place-2.ensures ∙ c.keep_place.ensures)) there.2)))

pub set_out-requires : goal.set_out-requires
set_out-requires c = (c.requires.place.0, subst (λ (r : RunsState). HasRunAt r.runs.list c.args.place c.requires.place.0) (sym (c.keep_place-2.ensures ∙ c.keep_place.ensures)) c.requires.place.2)
