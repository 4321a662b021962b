use Rattle.cli_commands.proofs.Alone.{front_taken}
use Rattle.cli_commands.proofs.serving.put_text.Goals as goal

pub returns-in-Err-clause-part : goal.returns-in-Err-clause-part
returns-in-Err-clause-part g c = front_taken c.args.text.now _ _ _ c.in-Err.ensures.handed.1
