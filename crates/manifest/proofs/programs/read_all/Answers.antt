use Rattle.std.proofs.Common.{arith, map}
use Rattle.std.proofs.lemmas.Result.{err_from_is_err_and}
use Rattle.manifest.specs.Meaning.{IsUnread}
use Rattle.manifest_form.specs.Seen.{program_seen}
use Rattle.manifest.specs.Seen.{read_seen, IsReadLine, IsUnreadLine}
use Rattle.manifest.proofs.OneByOne.{one_more, first_bad, unread_first, if_fault}
use Rattle.manifest.proofs.programs.read_all.Goals as goal

pub returns-in_err-read_program-clause-fault : goal.returns-in_err-read_program-clause-fault
returns-in_err-read_program-clause-fault c =
    let p = err_from_is_err_and c.from_residual.result c.from_residual.ensures.1 in
    let lines = map program_seen c.args.entries.now in
    let entry = c.entry-item.result in
    rw (p.1, p.2) (if_fault (IsUnreadLine (program_seen entry)) (IsUnread lines)
    (λ fault bad. unread_first lines fault (first_bad IsReadLine (λ line. IsUnreadLine line fault) program_seen read_seen c.args.entries.now c.loop-entry.entry-index entry c.loop-entry.programs.items (omega arith) c.entry-item.is c.loop-entry.invariant bad))
    c.in_err-read_program.field-0.0 c.in_err-read_program.ensures.fault)

pub loop-entry-preserved : goal.loop-entry-preserved
loop-entry-preserved c =
    one_more IsReadLine program_seen read_seen c.args.entries.now c.loop-entry.entry-index c.entry-item.result c.loop-entry.programs.items _ c.in_ok-read_program.field-0
    (omega arith) c.entry-item.is c.in_ok-keep.ensures c.in_ok-read_program.ensures.read c.loop-entry.invariant
