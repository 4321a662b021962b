use Rattle.std.proofs.Common.{◌≡◌, arith, ap, sym, ◌∙◌}
use Rattle.std.specs.Prelude.{Some}
use Rattle.check_register_kinds.specs.declared.kind.Kind.TheVariants.{Freeze}
use Rattle.check_register_kinds.proofs.Freezes.{number_small}
use Rattle.check_local_calls.proofs.saved.copies_of.Goals as goal

pub returns-in-Freeze-clause-has : goal.returns-in-Freeze-clause-has
returns-in-Freeze-clause-has c = λ name number numbers run same held its.
    let kinds : Freeze c.in-Freeze.name ≡ Freeze name = sym c.in-Freeze.is ∙ same in
    let one : c.in-Freeze.name ≡ name = cc in
    let here : numbers c.in-Freeze.name ≡ Some number = ap numbers one ∙ its in
    c.within.ensures.has number (c.least_copy.ensures.bound number (numbers c.in-Freeze.name) (rw c.certainty.ensures (held.known c.in-Freeze.name)) here) (omega (arith, number_small numbers c.args.held.now run c.in-Freeze.name number held here))
