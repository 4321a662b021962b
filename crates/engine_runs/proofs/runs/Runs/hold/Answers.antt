use Rattle.std.proofs.Common.{List, [], ◌∷◌, ◌++◌, Option, Some, refl, ap, sym, subst, ◌∙◌}
use Rattle.freeze_ledger.specs.declared.freeze.Freeze.{Freeze}
use Rattle.world.specs.World.{LiveRun}
use Rattle.engine_runs.specs.RunsState.{RunsState, tokens_in}
use Rattle.engine_runs.specs.RunPlaces.{HasRunAt}
use Rattle.engine_runs.proofs.Records.{run_at, seen_at}
use Rattle.engine_runs.proofs.Kept.{kept_changed, tokens_set}
use Rattle.engine_runs.proofs.runs.Runs.hold.Goals as goal

pub invariant_of-self : goal.invariant_of-self
invariant_of-self c =
    let run = subst (λ (s : RunsState). (it : LiveRun) × HasRunAt s.runs.list c.args.place it) (sym c.self.view_is) c.requires.run in
    let at = run_at c.self.inside.records.values c.args.place run.0 c.index_mut.result.now run.1 c.index_mut.ensures.value in
    kept_changed c.self.inside.records c.self.inside.greatest c.args.place c.index_mut.result.now _ c.self.invariant at.0 c.index_mut.ensures.value refl

pub returns-clause-tokens : goal.returns-clause-tokens
returns-clause-tokens c =
    let run = subst (λ (s : RunsState). (it : LiveRun) × HasRunAt s.runs.list c.args.place it) (sym c.self.view_is) c.requires.run in
    let at = run_at c.self.inside.records.values c.args.place run.0 c.index_mut.result.now run.1 c.index_mut.ensures.value in
    rw (← c.self.view_is)
    (tokens_set c.self.inside.records.values c.self.inside.greatest c.self.inside.tables c.args.place c.index_mut.result.now _ _ at.0 c.index_mut.ensures.value refl
    (c.hold.ensures.tokens
    ∙ (ap (λ (ts : List (Option Freeze)). ts ++ Some c.args.token ∷ []) (ap (λ (ts : _). ts.items) c.deref_mut.ensures.value)
    ∙ ap (λ (ts : List (Option Freeze)). ts ++ Some c.args.token ∷ []) (seen_at tokens_in c.self.inside.records.values c.args.place c.index_mut.result.now [] at.0 c.index_mut.ensures.value))))
