use Rattle.std.proofs.Common.{◌≡◌, Some, refl, ap, sym, ◌∙◌}
use Rattle.world.specs.World.{World}
use Rattle.engine_core.proofs.Performing.{no_classes, none_to_withdraw, waiting_is, works_still}
use Rattle.engine_core.proofs.ccb_events.withdrawal.Goals as goal

pub returns-then-not-has_classes-clause-refused : goal.returns-then-not-has_classes-clause-refused
returns-then-not-has_classes-clause-refused c world =
    no_classes c.args.setting.now (record world { transport = c.args.transport.now }) c.args.ccb (sym c.has_classes.ensures ∙ c.if-not-has_classes.true)

pub returns-in_default-clause-refused : goal.returns-in_default-clause-refused
returns-in_default-clause-refused c world =
    none_to_withdraw c.args.setting.now (record world { transport = c.args.transport.now }) c.args.ccb (sym c.in_default.ensures)

pub returns-then-not-is_waiting-clause-refused : goal.returns-then-not-is_waiting-clause-refused
returns-then-not-is_waiting-clause-refused c world =
    works_still c.args.setting.now (record world { transport = c.args.transport.now }) c.args.ccb c.in-Some.live (sym c.has_classes.ensures ∙ c.if-not-has_classes.false)
    (sym c.in-Some.ensures) (sym c.is_waiting.ensures ∙ c.if-not-is_waiting.true)

pub returns-clause-may : goal.returns-clause-may
returns-clause-may c = (
  sym c.has_classes.ensures ∙ c.if-not-has_classes.false,
  (c.in-Some.live, sym c.in-Some.ensures, waiting_is c.in-Some.live.state (sym c.is_waiting.ensures ∙ c.if-not-is_waiting.false)),
)
