use Rattle.cli_commands.specs.Journaling.{served}
use Rattle.cli_commands.proofs.journaling.serve_opened.Goals as goal

pub returns-then-recovered-clause-starts : goal.returns-then-recovered-clause-starts
returns-then-recovered-clause-starts g c = λ held old own opened. c.serve_after.ensures.starts held old own opened

pub returns-clause-starts : goal.returns-clause-starts
returns-clause-starts g c = λ held old own opened new last left status on.
    served c.args.begun.now c.args.recovered c.args.own.now (g.D.Disk.steps c.args.disk) _ new _ last c.args.lines.now _ _ left _ status opened c.if-recovered.false own c.requires.first c.serve_first.ensures.served on
