use Rattle.world_calls.specs.declared.call.Call.TheVariants.{Dispatch}
use Rattle.host_embedding.specs.Counting.{IsNoted}
use Rattle.host_embedding.proofs.Counts.{counted_so, made_called}
use Rattle.host_embedding.proofs.hosted_engine.HostedEngine.dispatch.Goals as goal

pub returns-clause-counted : goal.returns-clause-counted
returns-clause-counted c =
    counted_so c.args.self.now _ (λ world before. IsNoted world (Dispatch (record { 0 = c.args.queue })) before) c.note_call-noted.result c.note_call-noted.ensures
    (λ its. made_called c.dispatch-result.result c.args.self.now.engine c.dispatch-result.new.self _ (Dispatch (record { 0 = c.args.queue })) c.note_call-noted.result.before its c.dispatch-result.ensures.recorded)
    c.count_more.ensures
