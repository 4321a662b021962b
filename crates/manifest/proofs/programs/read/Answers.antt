use Rattle.std.proofs.Common.{Vec, Global, inr, map, ◌⊎◌}
use Rattle.std.specs.List.{AllZip}
use Rattle.manifest.specs.declared.fault.ManifestFault.{ManifestFault}
use Rattle.manifest.specs.declared.programs.NamedProgram.{NamedProgram}
use Rattle.manifest.specs.Meaning.{IsAccepted, IsUnread, IsUnaccepted}
use Rattle.manifest_form.specs.Seen.{program_seen, IfFault}
use Rattle.manifest.specs.Seen.{read_seen, named_seen, IsReadLine, IsAcceptedLine, IsUnacceptedAmong}
use Rattle.manifest.proofs.OneByOne.{accepted_lines, unaccepted_first, if_fault, if_ok, if_err}
use Rattle.manifest.proofs.programs.read.Goals as goal

pub returns-clause-accepted : goal.returns-clause-accepted
returns-clause-accepted c =
    let lines = map program_seen c.args.entries.now in
    let reads = map read_seen c.deref.result.now in
    let read : AllZip IsReadLine lines reads = rw c.deref.ensures.value c.in_ok-programs.ensures.read in
    if_ok (λ (programs : Vec NamedProgram Global). AllZip (IsAcceptedLine c.args.limits.now) reads (map named_seen programs.items))
    (λ (programs : Vec NamedProgram Global). AllZip (IsAccepted c.args.limits.now) lines (map named_seen programs.items))
    (λ programs h. accepted_lines c.args.limits.now lines reads (map named_seen programs.items) read h)
    c.accept_all.result c.accept_all.ensures.accepted

pub returns-clause-fault : goal.returns-clause-fault
returns-clause-fault c =
    let lines = map program_seen c.args.entries.now in
    let reads = map read_seen c.deref.result.now in
    let read : AllZip IsReadLine lines reads = rw c.deref.ensures.value c.in_ok-programs.ensures.read in
    let Among = IsUnacceptedAmong c.args.limits.now reads in
    let Whole = λ (fault : ManifestFault). IsUnread lines fault ⊎ IsUnaccepted c.args.limits.now lines fault in
    if_err (IfFault Among) (IfFault Whole)
    (λ error h. if_fault Among Whole (λ fault bad. inr (unaccepted_first c.args.limits.now lines reads fault read bad)) error h)
    c.accept_all.result c.accept_all.ensures.fault
