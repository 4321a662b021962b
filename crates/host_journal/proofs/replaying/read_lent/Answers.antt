use Rattle.host_journal.proofs.Quiet.{since_result}
use Rattle.host_journal.proofs.replaying.read_lent.Goals as goal

pub returns-clause-steps : goal.returns-clause-steps
returns-clause-steps g c =
    since_result g.L.Lent.segment c.recover-result.new.source.failed g.L.Lent.steps (g.M.Reader.steps c.recover-result.new.source.reader) c.recover-result.result c.recover-result.ensures.reads c.recover-result.new.source.steps
