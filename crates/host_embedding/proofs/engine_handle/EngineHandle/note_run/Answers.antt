use Rattle.host_embedding.proofs.Counts.{noted_run}
use Rattle.host_embedding.proofs.engine_handle.EngineHandle.note_run.Goals as goal

pub returns : goal.returns
returns c = noted_run c.self.inside.engine c.args.self.now c.runs.result.now.runs c.args.run _ c.self.view_is c.runs.ensures.value c.of_run.ensures c.recorded.ensures c.taken.ensures.within
