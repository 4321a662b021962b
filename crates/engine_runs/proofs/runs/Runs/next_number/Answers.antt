use Rattle.std.proofs.Common.{sym, subst, arith}
use Rattle.engine_runs.specs.RunsState.{RunsState, seen}
use Rattle.engine_runs.proofs.Kept.{HasRoom, has_room}
use Rattle.engine_runs.proofs.runs.Runs.next_number.Goals as goal

pub overflow_add-result : goal.overflow_add-result
overflow_add-result c =
    let room = has_room (seen c.self.inside.records.values c.self.inside.greatest c.self.inside.tables).runs (subst (λ (s : RunsState). HasRoom s.runs) (sym c.self.view_is) c.requires) in
    omega (arith, room.1)
