use Rattle.std.proofs.Common.{inr, map}
use Rattle.toml.specs.View.{view, table_view}
use Rattle.toml.specs.declared.value.Value.{Table as TableCase}
use Rattle.toml.proofs.Views.{view-Table}
use Rattle.manifest.specs.declared.Manifest.{Manifest}
use Rattle.manifest.specs.Meaning.{AreShort, Means, HasFault, HasProgramFault, IsSetUp, Writes}
use Rattle.manifest_form.specs.Seen.{plan_seen, IfFault}
use Rattle.manifest.specs.Seen.{named_seen}
use Rattle.manifest.proofs.OneByOne.{if_ok, if_err, if_fault}
use Rattle.manifest.proofs.Configured.{writes_by}
use Rattle.manifest.proofs.Short.{set_up_short}
use Rattle.manifest.proofs.read.Goals as goal

pub returns-clause-found : goal.returns-clause-found
returns-clause-found c =
    let t = c.in_ok-parse.field-0 in
    let plan = plan_seen c.in_ok-plan.plan in
    let writes : Writes c.args.text.now plan = writes_by c.args.text.now (table_view t) (view (TableCase t)) plan (view-Table t) c.in_ok-parse.ensures.parsed c.in_ok-plan.ensures.lawful c.in_ok-plan.ensures.says in
    if_ok (λ (manifest : Manifest). IsSetUp plan manifest.config (map named_seen manifest.programs.items)) (λ (manifest : Manifest). Means c.args.text.now manifest.config (map named_seen manifest.programs.items))
    (λ manifest h. (plan, writes, h)) c.set_up.result c.set_up.ensures.found

pub returns-clause-fault : goal.returns-clause-fault
returns-clause-fault c =
    let t = c.in_ok-parse.field-0 in
    let plan = plan_seen c.in_ok-plan.plan in
    let writes : Writes c.args.text.now plan = writes_by c.args.text.now (table_view t) (view (TableCase t)) plan (view-Table t) c.in_ok-parse.ensures.parsed c.in_ok-plan.ensures.lawful c.in_ok-plan.ensures.says in
    if_err (IfFault (HasProgramFault plan)) (IfFault (HasFault c.args.text.now))
    (λ error h. if_fault (HasProgramFault plan) (HasFault c.args.text.now) (λ fault bad. inr (inr (plan, writes, bad))) error h)
    c.set_up.result c.set_up.ensures.fault

pub set_up-requires : goal.set_up-requires
set_up-requires c = record { document = view (TableCase c.in_ok-parse.field-0); says = c.in_ok-plan.ensures.says; lawful = c.in_ok-plan.ensures.lawful }

pub returns-clause-short : goal.returns-clause-short
returns-clause-short c =
    let plan = plan_seen c.in_ok-plan.plan in
    if_ok (λ (manifest : Manifest). IsSetUp plan manifest.config (map named_seen manifest.programs.items)) (λ (manifest : Manifest). AreShort manifest.config.queues)
    (λ manifest h. set_up_short plan manifest.config (map named_seen manifest.programs.items) h) c.set_up.result c.set_up.ensures.found
