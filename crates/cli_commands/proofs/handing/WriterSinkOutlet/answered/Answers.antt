use Rattle.std.proofs.Common.{ℕ, Option, Some, None, List, length, refl}
use Rattle.host_live.specs.Answering.{IsLong}
use Rattle.cli_commands.proofs.handing.WriterSinkOutlet.answered.Goals as goal

-- however many bytes there are
some_long : (bytes : Option (List ℕ)) → (count : ℕ) × IsLong bytes count
some_long None = (0, tt)
some_long (Some its) = (length its, refl)

pub returns-clause-answers : goal.returns-clause-answers
returns-clause-answers g c = let it = some_long (g.W.Write.contents c.args.self.now.out.now) in (it.0, it.1, refl)
