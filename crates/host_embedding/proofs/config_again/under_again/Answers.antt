use Rattle.std.proofs.Common.{◌∙◌, [], inr, map}
use Rattle.engine_config.specs.Configured.{under_of}
use Rattle.host_embedding.proofs.Again.{no_words, same_setup}
use Rattle.host_embedding.proofs.config_again.under_again.Goals as goal

pub returns-in-Some : goal.returns-in-Some
returns-in-Some c =
    c.in-Some.ensures.value ∙ same_setup c.args.config.now c.in_ok-limits.limits c.controllers-controllers.result [] (map under_of c.in_ok-queues.queues.items) c.in_ok-limits.ensures
    c.controllers-controllers.ensures.value (no_words c.args.config.now c.queues-controllers.ensures.lawful (inr c.requires)) c.in_ok-queues.ensures c.queues-controllers.ensures.alone
