-- the tables so far are read
use Rattle.std.proofs.Common.{map, take}
use Rattle.std.specs.List.{AllZip}
use Rattle.toml.specs.View.{view}
use Rattle.trial_disks.specs.Said.{IsDevice}
use Rattle.trial_disks.proofs.reading.add_all.Given as goal

abbrev pub invariant-loop-place : goal.invariant-loop-place
invariant-loop-place l = AllZip IsDevice (map view (take l.place l.values)) l.devices.items
