use Rattle.call_shape.proofs.checks.call_cycle.Goals as goal

pub unreachable-requires : goal.unreachable-requires
unreachable-requires c = c.in-None.ensures.nowhere c.requires.cycle.0 c.requires.cycle.1
