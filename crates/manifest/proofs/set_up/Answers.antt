use Rattle.std.proofs.Common.{◌≡◌, ◌⊎◌, ℕ, List, map, ap, ◌∙◌}
use Rattle.std.proofs.lemmas.Result.{err_from_is_err_and}
use Rattle.helpers.specs.declared.limits.HelperLimits.{HelperLimits}
use Rattle.table_store.specs.Tables.{tables_with}
use Rattle.manifest.specs.declared.fault.ManifestFault.{ManifestFault}
use Rattle.manifest.specs.Meaning.{limits_of, HasProgramFault, IsUnread, IsUnaccepted}
use Rattle.manifest_form.specs.declared.entries.TableEntry.{TableEntry}
use Rattle.manifest_form.specs.Seen.{plan_seen, queue_seen, program_seen, table_seen}
use Rattle.manifest.specs.Seen.{named_seen}
use Rattle.manifest.proofs.OneByOne.{if_fault}
use Rattle.manifest.proofs.Configured.{line_size, line_words, limits_by, few_queues, fault_by, accepted_by, ready_by, queues_by}
use Rattle.manifest.proofs.set_up.Goals as goal

pub count-requires : goal.count-requires
count-requires c = few_queues c.args.plan c.deref.result.now c.deref.ensures.value c.requires

-- the lengths that the tables are given
lengths_are : (given : List ℕ) (lent items : List TableEntry) → given ≡ map line_size (map table_seen lent) → lent ≡ items → given ≡ map line_size (map table_seen items)
lengths_are given lent items is same = is ∙ ap (λ (those : List TableEntry). map line_size (map table_seen those)) same

pub returns-in_err-programs-clause-fault : goal.returns-in_err-programs-clause-fault
returns-in_err-programs-clause-fault c =
    let plan = plan_seen c.args.plan in
    let limits : HelperLimits = record { helpers = c.helpers_with.result; queues = c.count.result; table_lengths = c.new.result } in
    let lines = map program_seen c.deref-3.result.now in
    let limits_is : limits ≡ limits_of plan = limits_by c.args.plan c.helpers_with.result c.count.result c.deref.result.now c.new.result c.helpers_with.ensures c.deref.ensures.value c.count.ensures (c.new.ensures ∙ lengths_are _ _ _ c.in_ok-lengths.ensures c.deref-2.ensures.value) in
    let lines_is : lines ≡ plan.programs = ap (map program_seen) c.deref-3.ensures.value in
    let p = err_from_is_err_and c.from_residual-in_err-programs.result c.from_residual-in_err-programs.ensures.1 in
    rw (p.1, p.2) (if_fault (λ (fault : ManifestFault). IsUnread lines fault ⊎ IsUnaccepted limits lines fault) (HasProgramFault plan)
    (λ fault h. fault_by plan limits lines fault limits_is lines_is h)
    c.in_err-programs.field-0.0 c.in_err-programs.ensures.fault)

pub config-requires : goal.config-requires
config-requires c =
    let plan = plan_seen c.args.plan in
    let limits : HelperLimits = record { helpers = c.helpers_with.result; queues = c.count.result; table_lengths = c.new.result } in
    let limits_is : limits ≡ limits_of plan = limits_by c.args.plan c.helpers_with.result c.count.result c.deref.result.now c.new.result c.helpers_with.ensures c.deref.ensures.value c.count.ensures (c.new.ensures ∙ lengths_are _ _ _ c.in_ok-lengths.ensures c.deref-2.ensures.value) in
    let programs = map named_seen c.in_ok-programs.programs.items in
    ready_by plan limits (map queue_seen c.deref-4.result.now) programs (map named_seen c.deref-5.result.now) c.requires limits_is
    (ap (map queue_seen) c.deref-4.ensures.value) (ap (map named_seen) c.deref-5.ensures.value)
    (accepted_by plan limits (map program_seen c.deref-3.result.now) programs limits_is (ap (map program_seen) c.deref-3.ensures.value) c.in_ok-programs.ensures.accepted)

pub returns-clause-found : goal.returns-clause-found
returns-clause-found c =
    let plan = plan_seen c.args.plan in
    let limits : HelperLimits = record { helpers = c.helpers_with.result; queues = c.count.result; table_lengths = c.new.result } in
    let limits_is : limits ≡ limits_of plan = limits_by c.args.plan c.helpers_with.result c.count.result c.deref.result.now c.new.result c.helpers_with.ensures c.deref.ensures.value c.count.ensures (c.new.ensures ∙ lengths_are _ _ _ c.in_ok-lengths.ensures c.deref-2.ensures.value) in
    let programs = map named_seen c.in_ok-programs.programs.items in
    record {
      limits = c.in_ok-config.ensures.limits ∙ limits_is;
      controllers = c.in_ok-config.ensures.controllers;
      accepted = accepted_by plan limits (map program_seen c.deref-3.result.now) programs limits_is (ap (map program_seen) c.deref-3.ensures.value) c.in_ok-programs.ensures.accepted;
      queues = queues_by plan (map queue_seen c.deref-4.result.now) programs (map named_seen c.deref-5.result.now) _ (ap (map queue_seen) c.deref-4.ensures.value) (ap (map named_seen) c.deref-5.ensures.value) c.in_ok-config.ensures.queues;
      tables = c.in_ok-config.ensures.tables ∙ ap (λ (l : HelperLimits). tables_with l.table_lengths (map line_words plan.tables)) limits_is;
      alone = c.in_ok-config.ensures.alone;
    }
