use Rattle.std.proofs.Common.{Some, map, ap, sym, ◌∙◌, subst, ℕ, List}
use Rattle.std.proofs.lemmas.Bool.{false≢true}
use Rattle.engine_config.specs.Configured.{HaveRoom, under_of}
use Rattle.world.specs.World.{Setup}
use Rattle.world_calls.specs.declared.trace.Version.TheVariants.{Three}
use Rattle.manifest_form.specs.Seen.{queue_seen, table_seen}
use Rattle.manifest.specs.Seen.{named_seen}
use Rattle.manifest.proofs.Configured.{configured, have_room, setups}
use Rattle.manifest.proofs.setup.classed.Goals as goal

pub unreachable-requires : goal.unreachable-requires
unreachable-requires c =
    let tables = map table_seen c.args.tables.items in
    false≢true (c.in_default.ensures.lawful.1 (
      c.requires.helpers,
      configured c.args.limits Three (Some c.args.controllers) tables (map queue_seen c.args.queues.now) (map named_seen c.args.programs.now) (map under_of c.in_ok-given.given.items) c.requires c.in_ok-given.ensures,
      subst (λ (firsts : List (List ℕ)). HaveRoom c.args.limits.table_lengths firsts) (sym c.in_ok-firsts.ensures) (have_room c.args.limits.table_lengths tables c.requires.table_lengths c.requires.are_tables),
    ))

pub returns-clause-queues : goal.returns-clause-queues
returns-clause-queues c =
    setups (map named_seen c.args.programs.now) (map queue_seen c.args.queues.now) (map under_of c.in_ok-given.given.items) c.in_ok-given.ensures
    ∙ ap (λ (setup : Setup). map Some setup.queues) (sym c.in-Some.ensures.value)
