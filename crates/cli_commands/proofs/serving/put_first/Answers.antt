use Rattle.cli_commands.proofs.Alone.{no_front}
use Rattle.cli_commands.proofs.serving.put_first.Goals as goal

pub returns-in-Err-clause-part : goal.returns-in-Err-clause-part
returns-in-Err-clause-part g c = no_front _ (g.S.Outlet.bytes c.args.out.now)
