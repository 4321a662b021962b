use Rattle.engine_runs.proofs.Records.{looked_up}
use Rattle.engine_runs.proofs.places.place_of.Goals as goal

pub returns : goal.returns
returns c =
    let it = looked_up c.args.records.now c.requires.0 c.args.run c.place_of.result c.requires.1 c.place_of.ensures.found c.place_of.ensures.none in
    record { within = it.0; found = it.1; none = it.2 }
