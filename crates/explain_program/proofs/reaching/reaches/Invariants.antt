use Rattle.std.proofs.Common.{◌-◌}
use Rattle.bpf_insn.specs.declared.program.TheConstants.{MAX_SLOTS}
use Rattle.explain_program.proofs.Search.{IsSearch}
use Rattle.explain_program.proofs.reaching.reaches.Given as goal

abbrev pub invariant-loop-followed : goal.invariant-loop-followed
invariant-loop-followed l = IsSearch l.program l.from l.places l.followed

abbrev pub decreases-loop-followed : goal.decreases-loop-followed
decreases-loop-followed l = MAX_SLOTS - l.followed
