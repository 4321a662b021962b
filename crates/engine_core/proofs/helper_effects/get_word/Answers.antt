use Rattle.helpers.specs.declared.table.HelperEffect.TheVariants as effects
use Rattle.world_laws.proofs.Deeds.{suits, get_word}
use Rattle.engine_core.proofs.Calls.{told, its_word_there}
use Rattle.engine_core.proofs.helper_effects.get_word.Goals as goal

pub table_get-requires : goal.table_get-requires
table_get-requires c =
    its_word_there c.requires.1.0 c.args.runs.now c.args.place c.requires.1.1 c.args.request.now c.requires.1.2 _ (suits effects.GetWord c.args.request.now c.requires.0)

pub returns : goal.returns
returns c transport =
    record {
      does = λ segment it.
          rw c.number.ensures (told transport c.args.runs.now c.args.place segment c.args.request.now it effects.GetWord c.requires.0 _ _ _ get_word c.table_get.result (λ n b setup history. c.table_get.ensures));
    }
