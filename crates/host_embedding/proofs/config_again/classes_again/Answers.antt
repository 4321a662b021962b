use Rattle.std.proofs.Common.{◌∙◌, ap, map}
use Rattle.table_store.specs.Tables.{tables_with}
use Rattle.engine_config.specs.Configured.{firsts_of, under_of}
use Rattle.host_embedding.proofs.Again.{same_setup}
use Rattle.host_embedding.proofs.config_again.classes_again.Goals as goal

pub returns-in-Some : goal.returns-in-Some
returns-in-Some c =
    c.in-Some.ensures.value ∙ same_setup c.args.config.now c.in_ok-limits.limits c.controllers-controllers.result (firsts_of c.in_ok-tables.tables.items) (map under_of c.in_ok-queues.queues.items) c.in_ok-limits.ensures
    c.controllers-controllers.ensures.value (ap (tables_with c.args.config.now.limits.table_lengths) c.in_ok-tables.ensures ∙ c.first_words.ensures) c.in_ok-queues.ensures c.queues-controllers.ensures.alone
