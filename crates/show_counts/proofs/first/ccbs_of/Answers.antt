use Rattle.std.proofs.Common.{◌∙◌, Option, ℕ, ap}
use Rattle.show_counts.specs.Columns.{first_told, or_later}
use Rattle.show_counts.specs.Told.{submission}
use Rattle.show_counts.proofs.first.ccbs_of.Goals as goal

pub returns : goal.returns
returns c = λ number.
    c.in_ok-add_first_told.ensures number
    ∙ ap (λ (found : Option ℕ). or_later found (first_told submission number c.args.records.now.items)) (c.in_ok-table.ensures number)
