-- what was read so far and what the rest says are what the text says
use Rattle.std.proofs.Common.{◌≡◌, option_map, length, ◌++◌}
use Rattle.manifest_form.specs.Code.{bytes_in}
use Rattle.manifest_form.proofs.code.bytes.Given as goal

abbrev pub invariant-loop-rest : goal.invariant-loop-rest
invariant-loop-rest l = option_map (λ more. l.bytes.items ++ more) (bytes_in l.rest) ≡ bytes_in l.text

abbrev pub decreases-loop-rest : goal.decreases-loop-rest
decreases-loop-rest l = length l.rest
