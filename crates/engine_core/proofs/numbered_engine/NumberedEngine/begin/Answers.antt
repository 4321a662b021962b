use Rattle.engine_core.proofs.Numbered.{keeps_beginning}
use Rattle.engine_core.proofs.numbered_engine.NumberedEngine.begin.Goals as goal

pub invariant_of-result : goal.invariant_of-result
invariant_of-result c = keeps_beginning c.args.config.now _ c.args.transport c.args.runs c.args.tokens.items c.queues.ensures.lawful c.requires.beginning c.requires.none_held c.of-over.ensures c.requires.tokens
