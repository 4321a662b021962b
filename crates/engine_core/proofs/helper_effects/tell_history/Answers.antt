use Rattle.std.proofs.Common.{refl}
use Rattle.helpers.specs.declared.table.HelperEffect.TheVariants as effects
use Rattle.world_laws.proofs.Deeds.{nothing}
use Rattle.engine_core.proofs.Calls.{told}
use Rattle.engine_core.proofs.helper_effects.tell_history.Goals as goal

pub returns : goal.returns
returns c transport =
    record {
      does = λ segment it.
          rw c.number.ensures (told transport c.args.runs.now c.args.place segment c.args.request.now it effects.Nothing c.requires.0 _ _ _ nothing 0 (λ n b setup history. refl));
    }
