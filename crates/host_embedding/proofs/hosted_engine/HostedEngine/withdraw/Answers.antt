use Rattle.world_calls.specs.declared.call.Call.TheVariants.{Withdraw}
use Rattle.host_embedding.specs.Counting.{IsNoted}
use Rattle.host_embedding.proofs.Counts.{counted_so, made_called}
use Rattle.host_embedding.proofs.hosted_engine.HostedEngine.withdraw.Goals as goal

pub returns-clause-counted : goal.returns-clause-counted
returns-clause-counted c =
    counted_so c.args.self.now _ (λ world before. IsNoted world (Withdraw (record { 0 = c.args.ccb })) before) c.note_call-noted.result c.note_call-noted.ensures
    (λ its. made_called c.withdraw-result.result c.args.self.now.engine c.withdraw-result.new.self _ (Withdraw (record { 0 = c.args.ccb })) c.note_call-noted.result.before its c.withdraw-result.ensures)
    c.count_more.ensures
