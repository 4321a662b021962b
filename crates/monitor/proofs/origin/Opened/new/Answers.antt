-- A new cell keeps the rule.
use Rattle.std.proofs.Common.{rules}
use Rattle.monitor.proofs.Making.{begins}
use Rattle.monitor.proofs.origin.Opened.new.Goals as goal

pub ruled-requires : goal.ruled-requires
ruled-requires c = (search rules, (search rules, begins _))
