use Rattle.std.proofs.Common.{ℕ, ◌<◌, List, [], ◌∷◌, length, arith}
use Rattle.engine_runs.specs.declared.run_record.RunRecord.{RunRecord}
use Rattle.engine_runs.proofs.Records.{found_there}
use Rattle.engine_runs.proofs.runs.Runs.place_of.Goals as goal

-- a record of a list that has one
some_of : (records : List RunRecord) (place : ℕ) → place < length records → RunRecord
some_of [] place within = absurd (omega arith)
some_of (it ∷ records) place within = it

pub returns-clause-place : goal.returns-clause-place
returns-clause-place c =
    let within = c.in_ok-place.ensures.within in
    rw (← c.self.view_is)
    (found_there c.self.inside.records.values c.args.run c.in_ok-place.place (some_of c.self.inside.records.values c.in_ok-place.place within) (within, c.in_ok-place.ensures.found))
