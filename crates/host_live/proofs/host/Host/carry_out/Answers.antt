use Rattle.std.proofs.Common.{[]}
use Rattle.host_live.proofs.Growing.{as_none}
use Rattle.host_live.specs.declared.served.HostFault.{HostFault}
use Rattle.host_live.proofs.Turning.{none_asked, read_none}
use Rattle.host_live.proofs.host.Host.carry_out.Goals as goal

pub returns-in-None-clause-grown : goal.returns-in-None-clause-grown
returns-in-None-clause-grown g c = as_none _ _ _ (read_none c.args.now [] (none_asked HostFault c.args.manner c.args.request c.args.self.now.engine.engine c.in-None.is))
