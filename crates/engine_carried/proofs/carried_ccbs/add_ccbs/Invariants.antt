use Rattle.std.proofs.Common.{◌≡◌, ◌++◌, take}
use Rattle.engine_beginning.specs.Lines.{ccb_lines}
use Rattle.engine_carried.specs.TakenOver.{ccbs_under}
use Rattle.engine_carried.proofs.carried_ccbs.add_ccbs.Given as goal

-- the lines of the CCBs so far are added
abbrev pub invariant-loop-place : goal.invariant-loop-place
invariant-loop-place l = l.lines.items ≡ l.fn.lines.items ++ take l.place (ccb_lines (ccbs_under l.numbering l.transport.live))
