use Rattle.world.specs.World.{version_of}
use Rattle.host_scenario.proofs.Carried.{refused_line}
use Rattle.host_scenario.proofs.Lent.{when_err}
use Rattle.host_scenario.proofs.host.Host.carry_out.Goals as goal

pub returns-then-is_hosts-clause-fault : goal.returns-then-is_hosts-clause-fault
returns-then-is_hosts-clause-fault g c =
    when_err _ _ c.ask.result (refused_line (version_of g.B.Origin.setup) c.args.step.line c.args.step.call c.args.self.now.caller.mine _ c.in-Some.call c.in-Some.is) c.ask.ensures.fault
