use Rattle.host_embedding.specs.Counting.{IsNotedRun}
use Rattle.host_embedding.proofs.Counts.{counted_so, made_advanced}
use Rattle.host_embedding.proofs.hosted_engine.HostedEngine.advance.Goals as goal

pub returns-clause-counted : goal.returns-clause-counted
returns-clause-counted c =
    counted_so c.args.self.now _ (λ world before. IsNotedRun world c.out_number.result before) c.note_run-noted.result c.note_run-noted.ensures
    (λ its. made_advanced c.advance-result.result c.args.run.now.held c.advance-result.new.run.held c.args.self.now.engine c.advance-result.new.self c.advance-result.new.r0 c.advance-result.new.ended c.out_number.result c.note_run-noted.result.before its c.out_number.ensures c.advance-result.ensures.recorded)
    c.count_more.ensures
