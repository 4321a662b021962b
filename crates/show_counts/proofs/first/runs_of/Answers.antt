use Rattle.std.proofs.Common.{◌∙◌, Option, ℕ, ap}
use Rattle.show_counts.specs.Columns.{first_told, or_later}
use Rattle.show_counts.specs.Told.{recovery}
use Rattle.show_counts.proofs.Steps.{empty_at}
use Rattle.show_counts.proofs.first.runs_of.Goals as goal

pub returns : goal.returns
returns c = λ number.
    c.in_ok-add_first_told.ensures number
    ∙ ap (λ (found : Option ℕ). or_later found (first_told recovery number c.args.records.now.items)) (empty_at c.new-table.result c.new-table.ensures.empty number)
