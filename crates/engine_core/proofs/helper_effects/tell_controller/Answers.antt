use Rattle.std.proofs.Common.{ℕ, ap, ◌∙◌}
use Rattle.ccb.specs.declared.place.Place.TheVariants.{Controller}
use Rattle.freeze_ledger.specs.Freezes.{frozen}
use Rattle.helpers.specs.declared.table.HelperEffect.TheVariants as effects
use Rattle.world_laws.proofs.Deeds.{tell_controller}
use Rattle.engine_core.proofs.Calls.{told}
use Rattle.engine_core.proofs.Freezing.{controller_there}
use Rattle.engine_core.proofs.helper_effects.tell_controller.Goals as goal

pub controller_frozen-requires : goal.controller_frozen-requires
controller_frozen-requires c =
    controller_there c.args.transport.now c.args.runs.now c.args.place c.requires.1.0 c.args.request.now c.requires.1.1 c.controller.result
    (c.controller.ensures c.requires.1.1.admitted.out.it c.requires.1.1.admitted.there)

pub returns : goal.returns
returns c =
    record {
      does = λ segment it.
          rw (c.number.ensures, c.from.ensures)
          (told c.args.transport.now c.args.runs.now c.args.place segment c.args.request.now it effects.TellController c.requires.0 _ _ _ tell_controller c.controller_frozen.result
          (λ n b setup history. c.controller_frozen.ensures ∙ ap (λ (k : ℕ). frozen (Controller k) c.args.transport.now.freezes) (c.controller.ensures b.out.it b.there)));
    }
