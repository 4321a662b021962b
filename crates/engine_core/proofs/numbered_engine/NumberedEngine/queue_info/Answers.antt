use Rattle.engine_core.proofs.numbered_engine.NumberedEngine.queue_info.Goals as goal

pub returns-then-has_queue-clause-told : goal.returns-then-has_queue-clause-told
returns-then-has_queue-clause-told c = rw (← c.self.view_is) c.queue_info.ensures
