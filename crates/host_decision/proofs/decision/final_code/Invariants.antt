-- no record so far has a code
use Rattle.std.proofs.Common.{◌≡◌, drop}
use Rattle.host_decision.specs.Decided.{code_in}
use Rattle.host_decision.proofs.decision.final_code.Given as goal

abbrev pub invariant-loop-told : goal.invariant-loop-told
invariant-loop-told l = code_in l.records ≡ code_in (drop l.told-index l.records)
