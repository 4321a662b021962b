use Rattle.std.proofs.Common.{Some, map, ap, sym, ◌∙◌}
use Rattle.std.proofs.lemmas.Bool.{false≢true}
use Rattle.engine_config.specs.Configured.{under_of}
use Rattle.world.specs.World.{Setup}
use Rattle.world_calls.specs.declared.trace.Version.TheVariants.{Two}
use Rattle.manifest_form.specs.Seen.{queue_seen}
use Rattle.manifest.specs.Seen.{named_seen}
use Rattle.manifest.proofs.Configured.{configured, setups}
use Rattle.manifest.proofs.setup.under.Goals as goal

pub unreachable-requires : goal.unreachable-requires
unreachable-requires c =
    false≢true (c.in_default.ensures.lawful.1 (c.requires.1.helpers, configured c.args.limits Two (Some c.args.controllers) c.requires.0 (map queue_seen c.args.queues.now) (map named_seen c.args.programs.now) (map under_of c.in_ok-given.given.items) c.requires.1 c.in_ok-given.ensures))

pub returns-clause-queues : goal.returns-clause-queues
returns-clause-queues c =
    setups (map named_seen c.args.programs.now) (map queue_seen c.args.queues.now) (map under_of c.in_ok-given.given.items) c.in_ok-given.ensures
    ∙ ap (λ (setup : Setup). map Some setup.queues) (sym c.in-Some.ensures.value)
