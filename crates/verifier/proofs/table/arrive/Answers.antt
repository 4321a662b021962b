use Rattle.std.proofs.Common.{None, sym}
use Rattle.std.specs.Prelude.{slice_index_or}
use Rattle.std.proofs.lemmas.List.{get_or_default}
use Rattle.verifier.proofs.Joined.{joined_so}
use Rattle.verifier.proofs.Led.{if_both_ok}
use Rattle.verifier.proofs.table.arrive.Goals as goal

pub returns-clause-joined : goal.returns-clause-joined
returns-clause-joined c =
    let was = get_or_default c.args.table.now c.args.to None c.index-table-to.result c.requires.to in
    if_both_ok c.merge.result
    (joined_so c.args.table.now c.args.to c.args.new (slice_index_or c.args.table.now c.args.to c.index-table-to.result) c.merge.new.known c.requires.to (sym was))
    c.merge.ensures.some c.merge.ensures.merged
