use Rattle.host_live.specs.declared.reports.Unfollowed.TheVariants.{NoManifest}
use Rattle.cli_commands.specs.Following.{not_read}
use Rattle.cli_commands.proofs.Decided.{refused_so, suits_read}
use Rattle.cli_commands.proofs.following.Desk.follow_read.Goals as goal

pub returns-in-Some-clause-refused : goal.returns-in-Some-clause-refused
returns-in-Some-clause-refused g c =
    refused_so g.M.GivenManifest.may_read g.F.InForce.number _ g.F.InForce.own c.args.how c.args.engine.now _ c.next_of-next.result c.args.self.now.number_is
    (suits_read g.M.GivenManifest.may_read g.F.InForce.own c.args.how c.in-Some.bytes.items c.requires.reloaded (rw c.in-Some.is at c.requires.read)) c.decide.result c.next_of-next.ensures.refused c.decide.ensures.refused

pub returns-in-None-clause-refused : goal.returns-in-None-clause-refused
returns-in-None-clause-refused g c = not_read NoManifest c.requires.reloaded (rw c.in-None.is at c.requires.read)
