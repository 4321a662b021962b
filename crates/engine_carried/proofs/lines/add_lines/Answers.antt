use Rattle.std.proofs.Common.{◌∙◌, ◌++◌, [], ◌∷◌, ap}
use Rattle.world_calls.specs.declared.carried_line.CarriedLine.{CarriedLine}
use Rattle.engine_carried.proofs.Adding.{joined}
use Rattle.engine_carried.proofs.lines.add_lines.Goals as goal

pub returns : goal.returns
returns c =
    joined c.args.lines.now.items _ _ _ _ _ _ _ _ _ _ _ _
    (c.in_ok-add.ensures ∙ ap (λ (line : CarriedLine). c.args.lines.now.items ++ line ∷ []) c.numbers_line.ensures)
    (c.in_ok-add-2.ensures ∙ ap (λ (line : CarriedLine). c.add.new.lines.items ++ line ∷ []) c.clock_line.ensures)
    c.in_ok-add_openings.ensures c.in_ok-add_words.ensures c.in_ok-add_ccbs.ensures c.in_ok-add_freezes.ensures
