use Rattle.cli_io.proofs.Stages.{dressed_as}
use Rattle.cli_io.proofs.replacing.dress.Goals as goal

pub returns-in-File : goal.returns-in-File
returns-in-File g c = λ path whole out name base at.
    dressed_as path whole base _ _ out c.args.look c.in-File.rights name _ c.in-File.is at c.dress.ensures
