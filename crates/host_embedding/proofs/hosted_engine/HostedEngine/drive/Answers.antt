use Rattle.host_embedding.specs.Counting.{IsNotedRun}
use Rattle.host_embedding.proofs.Counts.{counted_so, keeps_so, made_driven}
use Rattle.host_embedding.proofs.hosted_engine.HostedEngine.drive.Goals as goal

pub count_more-requires-clause-kept : goal.count_more-requires-clause-kept
count_more-requires-clause-kept c =
    (keeps_so c.args.self.now.engine c.drive-result.new.self (λ world before. IsNotedRun world c.out_number.result before) c.note_run-noted.result c.note_run-noted.ensures
    (λ its. made_driven c.drive-result.result c.args.run.now.held c.drive-result.new.run.held c.args.self.now.engine c.drive-result.new.self c.drive-result.new.r0 c.drive-result.new.ended c.out_number.result c.note_run-noted.result.before its c.out_number.ensures c.drive-result.ensures.driven)).0

pub count_more-requires-clause-within : goal.count_more-requires-clause-within
count_more-requires-clause-within c =
    (keeps_so c.args.self.now.engine c.drive-result.new.self (λ world before. IsNotedRun world c.out_number.result before) c.note_run-noted.result c.note_run-noted.ensures
    (λ its. made_driven c.drive-result.result c.args.run.now.held c.drive-result.new.run.held c.args.self.now.engine c.drive-result.new.self c.drive-result.new.r0 c.drive-result.new.ended c.out_number.result c.note_run-noted.result.before its c.out_number.ensures c.drive-result.ensures.driven)).1

pub returns-clause-counted : goal.returns-clause-counted
returns-clause-counted c =
    counted_so c.args.self.now _ (λ world before. IsNotedRun world c.out_number.result before) c.note_run-noted.result c.note_run-noted.ensures
    (λ its. made_driven c.drive-result.result c.args.run.now.held c.drive-result.new.run.held c.args.self.now.engine c.drive-result.new.self c.drive-result.new.r0 c.drive-result.new.ended c.out_number.result c.note_run-noted.result.before its c.out_number.ensures c.drive-result.ensures.driven)
    c.count_more.ensures
