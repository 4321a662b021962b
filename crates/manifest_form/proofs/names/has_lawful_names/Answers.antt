use Rattle.std.proofs.Common.{Bool, ◌&&◌, ap, map, sym, ◌∙◌, refl}
use Rattle.manifest_form.specs.Seen.{are_known, table_seen}
use Rattle.manifest_form.proofs.Naming.{names_told}
use Rattle.manifest_form.proofs.names.has_lawful_names.Goals as goal

pub returns-then-are_lawful : goal.returns-then-are_lawful
returns-then-are_lawful c =
    ap (λ (lawful : Bool). lawful && c.are_known.result) (sym c.if-are_lawful.true)
    ∙ names_told c.args.plan.now.version c.args.plan.now.controllers c.args.plan.now.queues.items _ (map table_seen c.args.plan.now.tables.items) c.args.plan.now.programs.items _ _ _ c.as_slice-programs.ensures.value c.as_slice.ensures.value c.are_lawful.ensures c.are_known.ensures

pub returns-else-are_lawful : goal.returns-else-are_lawful
returns-else-are_lawful c =
    let queues = c.args.plan.now.queues.items in
    let known = are_known queues c.as_slice-programs.result.now in
    c.if-are_lawful.false ∙ ap (λ (lawful : Bool). lawful && known) (sym c.if-are_lawful.false)
    ∙ names_told c.args.plan.now.version c.args.plan.now.controllers queues queues (map table_seen c.args.plan.now.tables.items) c.args.plan.now.programs.items _ _ known c.as_slice-programs.ensures.value refl c.are_lawful.ensures refl
