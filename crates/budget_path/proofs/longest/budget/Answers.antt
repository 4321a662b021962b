use Rattle.std.proofs.Common.{◌<◌, length, sym, subst, arith}
use Rattle.std.proofs.lemmas.List.{get_or_read}
use Rattle.call_shape.proofs.Places.{begins_first}
use Rattle.budget_path.specs.Longest.{IsLongestFrom}
use Rattle.budget_path.proofs.longest.budget.Goals as goal

pub returns : goal.returns
returns c =
    let known = c.in_ok-lengths.ensures in
    let is = c.program-program.ensures.program in
    let items = c.in_ok-lengths.lengths.items in
    let some : 0 < length items = omega (arith, known.whole, is.in_range.0) in
    let read = get_or_read items 0 c.index.result.now some c.index.ensures 0 in
    let budget = subst (IsLongestFrom c.args.shape.now 0) (sym read) (known.each 0 (begins_first c.args.shape.now is)) in
    record { path = budget.path; longest = budget.most; within = budget.few }
