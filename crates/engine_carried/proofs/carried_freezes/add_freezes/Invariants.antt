use Rattle.std.proofs.Common.{◌≡◌, ◌++◌, take}
use Rattle.engine_carried.specs.FreezeAbove.{number_before}
use Rattle.engine_beginning.specs.Lines.{freeze_lines}
use Rattle.engine_carried.specs.TakenOver.{freezes_under}
use Rattle.engine_carried.proofs.carried_freezes.add_freezes.Given as goal

-- the lines of the freezes so far are added
abbrev pub invariant-loop-place : goal.invariant-loop-place
invariant-loop-place l =
    (l.lines.items ≡ l.fn.lines.items ++ take l.place (freeze_lines (freezes_under l.numbering l.transport.freezes))) × (l.last ≡ number_before l.place l.transport.freezes)
