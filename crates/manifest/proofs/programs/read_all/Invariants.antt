-- the entries so far are read
use Rattle.std.proofs.Common.{map, take}
use Rattle.std.specs.List.{AllZip}
use Rattle.manifest_form.specs.Seen.{program_seen}
use Rattle.manifest.specs.Seen.{read_seen, IsReadLine}
use Rattle.manifest.proofs.programs.read_all.Given as goal

abbrev pub invariant-loop-entry : goal.invariant-loop-entry
invariant-loop-entry l = AllZip IsReadLine (map program_seen (take l.entry-index l.entries)) (map read_seen l.programs.items)
