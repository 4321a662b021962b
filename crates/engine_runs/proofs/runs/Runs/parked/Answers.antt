use Rattle.std.proofs.Common.{Some, ap, sym, ◌∙◌}
use Rattle.engine_runs.specs.declared.run_record.RunRecord.{RunRecord}
use Rattle.engine_runs.specs.LiveRuns.{live_of}
use Rattle.engine_runs.proofs.Records.{has_run_at}
use Rattle.engine_runs.proofs.runs.Runs.parked.Goals as goal

pub returns-else-index-clause-place : goal.returns-else-index-clause-place
returns-else-index-clause-place c =
    let within = c.in_ok-place.ensures.within in
    let found = c.in_ok-place.ensures.found in
    rw (← c.self.view_is) (
      live_of c.index.result.now,
      found c.index.result.now ∙ ap (λ (r : RunRecord). Some (live_of r)) (sym c.index.ensures),
      c.if-index.false,
      has_run_at c.self.inside.records.values c.in_ok-place.place c.index.result.now within c.index.ensures,
    )
