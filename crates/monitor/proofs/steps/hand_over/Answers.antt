-- A caller's part goes from seat to seat.
use Rattle.std.proofs.Common.{rules, sym, ap, ◌∙◌}
use Rattle.monitor.specs.declared.knowledge.View.{View}
use Rattle.monitor.proofs.Parts.{goes_out, comes_in}
use Rattle.monitor.proofs.steps.hand_over.Goals as goal

pub split_pass-handed-requires : goal.split_pass-handed-requires
split_pass-handed-requires c = (search rules, (search rules, (c.requires.cell.0, goes_out _ _ c.requires.from.0 c.requires.from.1)))

pub join_pass-requires : goal.join_pass-requires
join_pass-requires c =
    let s = c.split_pass-handed.ensures.given in
    let cell = c.requires.cell in
    (search rules, (search rules, ((cell.1, s.0 ∙ cell.0 ∙ sym cell.1, s.2), comes_in _ _ _ _ (ap (λ (v : View). v.calls) s.1 ∙ c.requires.from.0) c.requires.to)))
