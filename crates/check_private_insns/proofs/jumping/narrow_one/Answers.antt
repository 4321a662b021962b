use Rattle.std.proofs.Common.{◌≡◌, ap, ◌∙◌}
use Rattle.check_description.specs.declared.description.Description.{Description}
use Rattle.check_description.specs.Description.{kind_at}
use Rattle.check_private_insns.proofs.Described.{narrowed_described}
use Rattle.check_private_insns.proofs.StaysKnown.{changes_numbers}
use Rattle.check_private_insns.proofs.jumping.narrow_one.Goals as goal

pub returns-clause-means : goal.returns-clause-means
returns-clause-means c = λ numbers callers m word is same has.
    c.narrow_loaded.ensures.means numbers callers m word
    (narrowed_described numbers callers c.args.description.now c.find.new.description m c.args.reg c.find.ensures.only c.find.ensures.numbers c.find.ensures.loaded (rw c.find.ensures.found (word, same, has)) is) same has

pub returns-clause-set : goal.returns-clause-set
returns-clause-set c = ap (λ (d : Description). kind_at d c.args.reg) c.narrow_loaded.ensures.only ∙ c.find.ensures.found

pub returns-clause-only : goal.returns-clause-only
returns-clause-only c = changes_numbers c.args.description.now c.find.new.description c.narrow_loaded.new.self _ c.args.reg c.narrow_loaded.ensures.only c.find.ensures.only
