use Rattle.std.proofs.Common.{rules, flat_map, sym, ap, ◌∙◌, map-id, []}
use Rattle.std.proofs.Output.{has_written_append, has_written_of_eq}
use Rattle.std.proofs.lemmas.Iterator.{YieldsList-from_chars}
use Rattle.std.proofs.lemmas.Iterator.Consumers.{YieldsList-end}
use Rattle.std.proofs.lemmas.List.{flat_map_more}
use Rattle.cli_text_page.specs.Escaping.{shown_as}
use Rattle.cli_text_page.proofs.foreign.write_text.Goals as goal

pub loop-character-preserved : goal.loop-character-preserved
loop-character-preserved g c p =
    has_written_of_eq _ _ _ _ _ (flat_map_more shown_as [] c.loop-character.yielded c.in-Some.character)
    (has_written_append _ _ _ _ _ _ (c.loop-character.invariant p) (search rules))

pub returns : goal.returns
returns g c p _ =
    let end = YieldsList-end (YieldsList-from_chars c.args.text.now c.utf8.text cc) c.loop-character.yielded _ c.loop-character.yielded_by _ _ c.in-None.is c.next.ensures.steps in
    has_written_of_eq _ _ _ _ _ (ap (flat_map shown_as) (sym (map-id c.loop-character.yielded) ∙ end.0)) (c.loop-character.invariant p)
