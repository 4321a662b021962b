use Rattle.std.proofs.Common.{refl}
use Rattle.engine_core.proofs.Numbered.{no_completion}
use Rattle.engine_core.proofs.numbered_engine.NumberedEngine.complete.Goals as goal

pub returns-in-None-clause-answered : goal.returns-in-None-clause-answered
returns-in-None-clause-answered c = (refl, λ answer. no_completion c.args.self.now c.args.completion.now answer c.in-None.ensures)
