use Rattle.cli_commands.proofs.Starting.{first_served, somewhere_begun}
use Rattle.cli_commands.proofs.journal_engine.serve_first.Goals as goal

pub returns-clause-served : goal.returns-clause-served
returns-clause-served g c = first_served _ _ _ _ _ _ _ _ _ _ c.args.lines.now c.begin_at.new.self _ _ _ _ _ _ c.begin_at.ensures.same c.serve_engine.ensures.served

pub serve_engine-requires-clause-somewhere : goal.serve_engine-requires-clause-somewhere
serve_engine-requires-clause-somewhere g c = somewhere_begun _ _ _ c.args.lines.now c.begin_at.new.self c.begin_at.ensures.same c.requires.first
