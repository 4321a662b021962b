use Rattle.std.proofs.Common.{[], ap, refl, sym, subst, ◌∙◌}
use Rattle.world.specs.World.{LiveRun}
use Rattle.engine_runs.specs.RunsState.{RunsState, tokens_in}
use Rattle.engine_runs.specs.RunPlaces.{HasRunAt}
use Rattle.engine_runs.specs.Tokens.{AreTokensWith}
use Rattle.engine_runs.proofs.Records.{run_at, seen_at}
use Rattle.engine_runs.proofs.Kept.{kept_changed, tokens_set}
use Rattle.engine_runs.proofs.runs.Runs.let_go.Goals as goal

pub invariant_of-self : goal.invariant_of-self
invariant_of-self c =
    let run = subst (λ (s : RunsState). (it : LiveRun) × HasRunAt s.runs.list c.args.place it) (sym c.self.view_is) c.requires.run in
    let at = run_at c.self.inside.records.values c.args.place run.0 c.index_mut.result.now run.1 c.index_mut.ensures.value in
    kept_changed c.self.inside.records c.self.inside.greatest c.args.place c.index_mut.result.now _ c.self.invariant at.0 c.index_mut.ensures.value refl

pub returns : goal.returns
returns c =
    let run = subst (λ (s : RunsState). (it : LiveRun) × HasRunAt s.runs.list c.args.place it) (sym c.self.view_is) c.requires.run in
    let at = run_at c.self.inside.records.values c.args.place run.0 c.index_mut.result.now run.1 c.index_mut.ensures.value in
    rw (← c.self.view_is) (λ freezes it.
    let its : AreTokensWith c.deref_mut.result.now.items freezes c.args.freeze = record {
      are = ap (λ (ts : _). ts.items) c.deref_mut.ensures.value ∙ (seen_at tokens_in c.self.inside.records.values c.args.place c.index_mut.result.now [] at.0 c.index_mut.ensures.value ∙ it.are);
      high = it.high;
      rising = it.rising;
      entry = it.entry;
      found = it.found;
    } in
    let went = c.let_go.ensures freezes its in (
      went.0,
      tokens_set c.self.inside.records.values c.self.inside.greatest c.self.inside.tables c.args.place c.index_mut.result.now _ _ at.0 c.index_mut.ensures.value refl went.1,
    ))
