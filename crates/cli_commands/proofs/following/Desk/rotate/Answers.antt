use Rattle.std.proofs.Common.{◌∙◌}
use Rattle.cli_commands.proofs.Decided.{refused_so, suits_own}
use Rattle.cli_commands.proofs.following.Desk.rotate.Goals as goal

pub returns-clause-refused : goal.returns-clause-refused
returns-clause-refused g c =
    refused_so g.M.GivenManifest.may_read g.F.InForce.number _ g.F.InForce.own c.args.how c.args.engine.now _ c.next_of-next.result c.args.self.now.number_is
    (suits_own g.M.GivenManifest.may_read g.F.InForce.own c.args.how _ c.requires (c.in_ok-bytes.ensures ∙ c.args.self.now.own_is)) c.decide.result c.next_of-next.ensures.refused c.decide.ensures.refused
