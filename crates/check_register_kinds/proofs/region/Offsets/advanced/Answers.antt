use Rattle.std.proofs.Common.{arith}
use Rattle.check_register_kinds.proofs.Shifts.{advanced_lies}
use Rattle.check_register_kinds.proofs.region.Offsets.advanced.Goals as goal

pub returns-clause-means : goal.returns-clause-means
returns-clause-means c = λ address word lies has.
    let least = c.in_ok-least.ensures.means in
    let most = c.in_ok-most.ensures.means in
    advanced_lies c.args.region c.args.self (record { least = c.in_ok-least.least; most = c.in_ok-most.most }) c.args.by.signed address word
    (omega (arith, c.size-size.ensures.near)) least.0 most.0 (omega (arith, most.1, c.size-size.ensures.is)) lies has.fits has.in_signed
