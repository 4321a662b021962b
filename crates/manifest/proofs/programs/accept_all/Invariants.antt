-- the programs so far are accepted
use Rattle.std.proofs.Common.{map, take}
use Rattle.std.specs.List.{AllZip}
use Rattle.manifest.specs.Seen.{read_seen, named_seen, IsAcceptedLine}
use Rattle.manifest.proofs.programs.accept_all.Given as goal

abbrev pub invariant-loop-program : goal.invariant-loop-program
invariant-loop-program l = AllZip (IsAcceptedLine l.limits) (map read_seen (take l.program-index l.programs)) (map named_seen l.accepted.items)
