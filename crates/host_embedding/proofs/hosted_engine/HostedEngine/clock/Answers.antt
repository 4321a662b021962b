use Rattle.world_calls.specs.declared.call.Call.TheVariants.{Clock}
use Rattle.host_embedding.specs.Counting.{IsNoted}
use Rattle.host_embedding.proofs.Counts.{counted_so, made_called}
use Rattle.host_embedding.proofs.hosted_engine.HostedEngine.clock.Goals as goal

pub returns-clause-counted : goal.returns-clause-counted
returns-clause-counted c =
    counted_so c.args.self.now _ (λ world before. IsNoted world (Clock c.args.reading) before) c.note_call-noted.result c.note_call-noted.ensures
    (λ its. made_called c.clock-result.result c.args.self.now.engine c.clock-result.new.self _ (Clock c.args.reading) c.note_call-noted.result.before its c.clock-result.ensures.recorded)
    c.count_more.ensures
