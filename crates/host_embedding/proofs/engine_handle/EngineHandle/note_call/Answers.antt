use Rattle.host_embedding.proofs.Counts.{noted_call}
use Rattle.host_embedding.proofs.engine_handle.EngineHandle.note_call.Goals as goal

pub returns : goal.returns
returns c = noted_call c.self.inside.engine c.args.self.now c.transport.result.now c.args.call.now _ c.self.view_is c.transport.ensures.value c.of_call.ensures c.recorded.ensures c.taken.ensures.within
