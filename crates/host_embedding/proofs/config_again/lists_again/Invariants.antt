use Rattle.std.proofs.Common.{◌≡◌, take}
use Rattle.engine_config.specs.Configured.{firsts_of}
use Rattle.host_embedding.proofs.config_again.lists_again.Given as goal

-- those of the lists so far
abbrev pub invariant-loop-place : goal.invariant-loop-place
invariant-loop-place l = firsts_of l.again.items ≡ take l.place (firsts_of l.lists)
