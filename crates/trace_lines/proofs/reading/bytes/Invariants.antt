-- what was read so far, and how much there is
use Rattle.std.proofs.Common.{◌≡◌, ◌≤◌, length, take}
use Rattle.trace_lines.proofs.SensePairs.{IsReadSoFar}
use Rattle.trace_lines.proofs.reading.bytes.Given as goal

abbrev pub invariant-loop-rest : goal.invariant-loop-rest
invariant-loop-rest l = record { room : length l.bytes ≡ 64; few : l.count ≤ 64; read : IsReadSoFar l.word (take l.count l.bytes) l.rest }

abbrev pub decreases-loop-rest : goal.decreases-loop-rest
decreases-loop-rest l = length l.rest
