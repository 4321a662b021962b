-- The numbers tell the helpers apart.
use Rattle.std.proofs.Common.{◌≡◌, pos, true, Some, refl, ap, sym, ◌∙◌, arith, rules}
use Rattle.std.proofs.lemmas.Bool.{eqb-true}
use Rattle.helpers.specs.declared.table.Helper.{Helper}
use Rattle.helpers.specs.contracts.table.Helper as helper
use Rattle.helpers.specs.Table.{number_of, helper_of, is_helper}
use denote.Enum.Declared.{tag_of}
use denote.Enum.Bare.{tag_one}

pub same_helper : (a b : Helper) → is_helper a b ≡ true → a ≡ b
same_helper a b e =
    let same : tag_of helper.the_type a ≡ tag_of helper.the_type b = omega (arith, eqb-true (number_of a) (number_of b) e) in
    tag_one helper.the_type (search rules) a b same

-- each helper is the one of its number
pub numbered : (name : Helper) → helper_of (pos (number_of name)) ≡ Some name
numbered name = search rules
