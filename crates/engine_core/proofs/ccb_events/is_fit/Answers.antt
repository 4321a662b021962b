use Rattle.std.proofs.Common.{◌≡◌, ℕ, Option, not, ap, subst, sym, ◌∙◌}
use Rattle.world.specs.World.{class_fits, has_classes}
use Rattle.engine_core.proofs.Numbered.{none_fits, one_fits}
use Rattle.engine_core.proofs.ccb_events.is_fit.Goals as goal

pub returns-in-None : goal.returns-in-None
returns-in-None c =
    subst (λ (o : Option ℕ). not c.has_classes-has_classes.result ≡ class_fits (has_classes c.args.config.now) o) (sym c.in-None.is)
    (ap not c.has_classes-has_classes.ensures ∙ none_fits (has_classes c.args.config.now))

pub returns-in-Some : goal.returns-in-Some
returns-in-Some c =
    subst (λ (o : Option ℕ). c.has_classes-has_classes.result ≡ class_fits (has_classes c.args.config.now) o) (sym c.in-Some.is)
    (c.has_classes-has_classes.ensures ∙ one_fits (has_classes c.args.config.now) c.in-Some.field-0)
