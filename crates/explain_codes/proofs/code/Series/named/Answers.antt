use Rattle.std.proofs.Common.{rules, ℕ, bytes_eq, refl, ◌-◌, ◌∙◌, sym}
use Rattle.std.proofs.lemmas.Iterator.{YieldsList-from_map, YieldsList-from_range}
use Rattle.std.proofs.lemmas.Iterator.Adapters.{option_map_id}
use Rattle.std.proofs.lemmas.Iterator.Search.{find_from_yields_List}
use borrow.Author.Tests.{tests}
use Rattle.explain_codes.specs.declared.code.Code.{Code}
use Rattle.explain_codes.specs.Names.{name_of}
use Rattle.explain_codes.proofs.code.Series.named.Goals as goal

pub returns : goal.returns
returns c =
    sym (option_map_id c.find.result)
    ∙ find_from_yields_List (λ (code : Code). bytes_eq (name_of code) c.args.word.now) _ _ c.find.result c.find.ensures.ran
    (YieldsList-from_map _ (λ (number : ℕ). record { letter = c.args.self.letter; number = number }) (YieldsList-from_range 1 c.args.self.end (c.args.self.end - 1) c.map.ensures.source refl) c.map.ensures.closure (λ x r q k. search rules))
    (λ x b q k. search (rules, tests))
