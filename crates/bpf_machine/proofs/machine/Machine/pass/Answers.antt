use Rattle.std.proofs.Common.{◌≡◌, ap, subst, sym, ◌∙◌}
use Rattle.helpers.specs.declared.columns.Change.{Change}
use Rattle.helpers.specs.declared.columns.Change.TheVariants as changes
use Rattle.helpers.specs.declared.columns.Gives.{Gives}
use Rattle.helpers.specs.declared.table.Row.{Row}
use Rattle.helpers.specs.Table.{row_of}
use Rattle.helpers.proofs.Together.{Wants, wanted}
use Rattle.bpf_semantics.specs.Step.{IsGiven}
use Rattle.bpf_machine.proofs.machine.Machine.pass.Goals as goal

pub change-requires-clause-new : goal.change-requires-clause-new
change-requires-clause-new c = λ holds.
    let row = row_of c.args.request.now.helper in
    let machine : row.machine ≡ changes.Holds = sym (ap (λ (r : Row). r.machine) c.row.ensures) ∙ holds in
    let gives = (subst (λ (change : Change). Wants change row) machine (wanted c.args.request.now.helper)).0 in
    subst (λ (gives : Gives). IsGiven c.args.self.now.held gives c.args.answer.now.r0) gives c.requires.allowed.0
