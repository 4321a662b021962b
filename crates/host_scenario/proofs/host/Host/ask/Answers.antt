use Rattle.std.proofs.Common.{ap, sym}
use Rattle.host_scenario.proofs.Holding.{holds_so, made_so, refused_so, settled_so}
use Rattle.host_scenario.proofs.host.Host.ask.Goals as goal

pub shape_of-self : goal.shape_of-self
shape_of-self g c = settled_so _ _ _ _ _ _ _ c.call.result c.call.ensures (λ event reply p. sym p.1) (λ same. sym (ap (λ a. a.caller.ghost_name) same))

pub returns-in-Ok-clause-asked : goal.returns-in-Ok-clause-asked
returns-in-Ok-clause-asked g c =
    made_so g.B.Origin.setup _ c.args.call.now _ _ c.args.self.now.held c.call.new.self c.requires.hosts c.requires.holds (λ event reply p. p.0) _ c.in-Ok.ensures

pub returns-in-Ok-clause-holds : goal.returns-in-Ok-clause-holds
returns-in-Ok-clause-holds g c =
    holds_so g.B.Origin.setup _ c.args.call.now _ _ c.args.self.now.held c.call.new.self c.requires.hosts c.requires.holds (λ event reply p. p.0) _ c.in-Ok.ensures

pub returns-in-Err-clause-fault : goal.returns-in-Err-clause-fault
returns-in-Err-clause-fault g c = rw (c.fault_of.ensures) (
    refused_so g.B.Origin.setup _ c.args.call.now _ _ c.args.self.now.held c.call.new.self c.requires.hosts c.requires.holds c.args.line c.in-Err.unanswered c.in-Err.ensures (ap (λ a. a.caller.now)))
