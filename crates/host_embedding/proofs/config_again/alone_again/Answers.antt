use Rattle.std.proofs.Common.{◌∙◌, [], inl, map, sym}
use Rattle.engine_config.specs.Configured.{alone_of}
use Rattle.host_embedding.proofs.Again.{no_controllers, no_words, same_setup}
use Rattle.host_embedding.proofs.config_again.alone_again.Goals as goal

pub returns-in-Some : goal.returns-in-Some
returns-in-Some c =
    c.in-Some.ensures.value ∙ same_setup c.args.config.now c.in_ok-limits.limits 0 [] (map alone_of c.in_ok-queues.queues.items) c.in_ok-limits.ensures
    (sym (no_controllers c.args.config.now c.queues.ensures.lawful c.requires)) (no_words c.args.config.now c.queues.ensures.lawful (inl c.requires)) c.in_ok-queues.ensures c.queues.ensures.alone
