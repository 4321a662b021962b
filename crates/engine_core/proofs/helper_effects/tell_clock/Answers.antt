use Rattle.helpers.specs.declared.table.HelperEffect.TheVariants as effects
use Rattle.world_laws.proofs.Deeds.{tell_clock}
use Rattle.engine_core.proofs.Calls.{told}
use Rattle.engine_core.proofs.helper_effects.tell_clock.Goals as goal

pub returns : goal.returns
returns c =
    record {
      does = λ segment it.
          rw c.number.ensures (told c.args.transport.now c.args.runs.now c.args.place segment c.args.request.now it effects.TellClock c.requires.0 _ _ _ tell_clock c.clock.result (λ n b setup history. c.clock.ensures));
    }
