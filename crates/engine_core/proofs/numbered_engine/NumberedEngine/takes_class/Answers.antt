use Rattle.std.proofs.Common.{ap, ◌∙◌}
use Rattle.world.specs.World.{class_fits, has_classes}
use Rattle.engine_core.specs.ByNumber.{NumberedState}
use Rattle.engine_core.proofs.numbered_engine.NumberedEngine.takes_class.Goals as goal

pub returns : goal.returns
returns c = c.is_fit.ensures ∙ ap (λ (s : NumberedState). class_fits (has_classes s.setup) c.args.class) c.self.view_is
