use Rattle.std.proofs.Common.{rules}
use Rattle.host_live.specs.declared.reports.Unfollowed.TheVariants.{Manifest}
use Rattle.cli_commands.specs.Following.{not_read}
use Rattle.cli_commands.proofs.following.Desk.reload.Goals as goal

pub returns-in-Err-Failed-clause-refused : goal.returns-in-Err-Failed-clause-refused
returns-in-Err-Failed-clause-refused g c = not_read Manifest c.requires (search rules)
