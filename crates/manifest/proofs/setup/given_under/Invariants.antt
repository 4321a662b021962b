-- the queues so far are given
use Rattle.std.proofs.Common.{map, take}
use Rattle.std.specs.List.{AllZip}
use Rattle.engine_config.specs.Configured.{under_of}
use Rattle.manifest_form.specs.Seen.{queue_seen}
use Rattle.manifest.specs.Seen.{named_seen, IsGivenFor}
use Rattle.manifest.proofs.setup.given_under.Given as goal

abbrev pub invariant-loop-queue : goal.invariant-loop-queue
invariant-loop-queue l = AllZip (IsGivenFor (map named_seen l.programs)) (map queue_seen (take l.queue-index l.queues)) (map under_of l.all.items)
