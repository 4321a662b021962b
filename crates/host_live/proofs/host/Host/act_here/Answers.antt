use Rattle.std.proofs.Common.{◌≡◌, false, true, [], rules}
use Rattle.host_live.proofs.Growing.{as_none}
use Rattle.host_live.specs.Turns.{is_of_steps}
use Rattle.host_live.specs.declared.served.HostFault.{HostFault}
use Rattle.host_live.proofs.Turning.{elsewhere_so, read_none}
use Rattle.host_live.proofs.host.Host.act_here.Goals as goal

pub returns-then-is_of_steps-clause-grown : goal.returns-then-is_of_steps-clause-grown
returns-then-is_of_steps-clause-grown g c =
    let stepped : c.args.manner.is_stepped ≡ false = search (rules, c.if-not-manner.true) in
    let steps : is_of_steps c.args.request ≡ true = search (rules, c.is_of_steps.ensures, c.if-is_of_steps.true) in
    as_none _ _ _ (read_none c.args.now [] (elsewhere_so HostFault c.args.manner c.args.request c.args.self.now.engine.engine stepped steps))
