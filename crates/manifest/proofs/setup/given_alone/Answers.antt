use Rattle.std.proofs.Common.{◌≡◌, arith, [], map, find, get_or, refl, sym, IsSome}
use Rattle.std.proofs.lemmas.List.{get_or_default}
use Rattle.engine_config.specs.Configured.{alone_of}
use Rattle.manifest_form.specs.declared.entries.QueueEntry.{QueueEntry}
use Rattle.manifest_form.specs.Entries.{QueueLine}
use Rattle.manifest.specs.Meaning.{is_named}
use Rattle.manifest_form.specs.Seen.{queue_seen}
use Rattle.manifest.specs.Seen.{named_seen, IsGivenFor}
use Rattle.manifest.proofs.OneByOne.{one_more}
use Rattle.manifest.proofs.Configured.{all_at}
use Rattle.manifest.proofs.setup.given_alone.Goals as goal

abbrev no_queue : QueueEntry
no_queue = record { openings = 0; controller = 0; program = record { ref_ptr = (0, 0); now = [] } }

pub loop-queue-preserved : goal.loop-queue-preserved
loop-queue-preserved c =
    let entries = c.args.queues.now in
    let i = c.loop-queue.queue-index in
    let entry = get_or entries i no_queue in
    let is : entry ≡ get_or entries i entry = get_or_default entries i no_queue entry (omega arith) in
    one_more (IsGivenFor (map named_seen c.args.programs.now)) queue_seen alone_of entries i entry c.loop-queue.all.items _ _
    (omega arith) is c.in_ok-push.ensures.items
    (record { verdict = c.in_ok-its_program.ensures; openings = refl; controller = sym (all_at (λ (queue : QueueLine). queue.controller ≡ 0) queue_seen entries i entry (omega arith) is c.requires.alone) }) c.loop-queue.invariant

pub its_program-requires : goal.its_program-requires
its_program-requires c =
    let entries = c.args.queues.now in
    let i = c.loop-queue.queue-index in
    let entry = get_or entries i no_queue in
    all_at (λ (queue : QueueLine). IsSome (find (is_named queue.program) (map named_seen c.args.programs.now))) queue_seen entries i entry
    (omega arith) (get_or_default entries i no_queue entry (omega arith)) c.requires.known
