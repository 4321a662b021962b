-- the lines so far are taken
use Rattle.std.proofs.Common.{◌≡◌, take}
use Rattle.engine_succession.specs.Taking.{AreTaken}
use Rattle.engine_succession.proofs.beginning.take_all.Given as goal

abbrev pub invariant-loop-line : goal.invariant-loop-line
invariant-loop-line l = record {
  place_is : l.place ≡ l.line-index;
  taken : AreTaken l.fn.beginning (take l.line-index l.lines) l.fn.guests.items l.beginning l.guests.items;
}
