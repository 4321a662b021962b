use Rattle.std.proofs.Common.{◌≤◌, subst, sym}
use Rattle.engine_runs.specs.RunsState.{RunsState}
use Rattle.engine_runs.proofs.Kept.{kept_passed}
use Rattle.engine_runs.proofs.runs.Runs.pass_over.Goals as goal

pub invariant_of-self : goal.invariant_of-self
invariant_of-self c =
    let up : c.self.inside.greatest ≤ c.args.number = subst (λ (s : RunsState). s.runs.greatest ≤ c.args.number) (sym c.self.view_is) c.requires in
    kept_passed c.self.inside.records c.self.inside.greatest c.args.number c.self.invariant up
