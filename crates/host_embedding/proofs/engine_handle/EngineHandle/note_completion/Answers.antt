use Rattle.host_embedding.proofs.Counts.{noted_completion}
use Rattle.host_embedding.proofs.engine_handle.EngineHandle.note_completion.Goals as goal

pub returns : goal.returns
returns c = noted_completion c.self.inside.engine c.args.self.now c.transport.result.now c.args.ccb.0 _ c.self.view_is c.transport.ensures.value c.before_completion.ensures c.recorded.ensures c.taken.ensures.within
