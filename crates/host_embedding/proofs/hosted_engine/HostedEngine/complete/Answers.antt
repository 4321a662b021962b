use Rattle.std.proofs.Common.{ap}
use Rattle.ccb.specs.declared.CcbId.{CcbId}
use Rattle.host_embedding.specs.Counting.{IsNotedCcb}
use Rattle.host_embedding.proofs.Counts.{counted_so, made_completed}
use Rattle.host_embedding.proofs.hosted_engine.HostedEngine.complete.Goals as goal

pub returns-clause-counted : goal.returns-clause-counted
returns-clause-counted c =
    counted_so c.args.self.now _ (λ world before. IsNotedCcb world c.ccb.result.0 before) c.note_completion-noted.result c.note_completion-noted.ensures
    (λ its. made_completed c.complete-result.result c.args.self.now.engine c.complete-result.new.self c.args.completion c.ccb.result.0 c.note_completion-noted.result.before its (ap (λ (i : CcbId). i.0) c.ccb.ensures) c.complete-result.ensures.recorded)
    c.count_more.ensures
