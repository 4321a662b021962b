-- how far the carried lines were read, by how far they were
use Rattle.std.proofs.Common.{◌≡◌, ◌-◌, ℕ, List, Option}
use Rattle.world.specs.World.{Setup}
use Rattle.host_recovery.specs.Carries.{CarriesAt}
use Rattle.host_recovery.specs.declared.recovering.TheConstants.{MOST_WHOLE}
use Rattle.host_recovery.proofs.carried.read_carried_lines.Given as goal

abbrev pub invariant-loop-carrying : goal.invariant-loop-carrying
invariant-loop-carrying g l = record {
  carries : (config : Setup) (from : Option (List ℕ)) → CarriesAt config from (g.S.Source.remaining l.fn.source) l.fn.lines.ahead l.fn.carrying → CarriesAt config from (g.S.Source.remaining l.source) l.lines.ahead l.carrying;
  still : g.S.Source.failures l.source ≡ g.S.Source.failures l.fn.source;
}

abbrev pub decreases-loop-carrying : goal.decreases-loop-carrying
decreases-loop-carrying g l = MOST_WHOLE - l.carrying.whole
