-- where the segment stands, by where it stood
use Rattle.std.proofs.Common.{◌≡◌, ◌-◌, ℕ, List, Option, None}
use Rattle.world.specs.World.{Setup}
use Rattle.host_recovery.specs.Reads.{IsPast, StandsAt}
use Rattle.host_recovery.specs.declared.recovering.TheConstants.{MOST_WHOLE}
use Rattle.host_recovery.proofs.recovering.read_all.Given as goal

abbrev pub invariant-loop-reading : goal.invariant-loop-reading
invariant-loop-reading g l = record {
  stands : (config : Setup) (from : Option (List ℕ)) → StandsAt config from (g.S.Source.remaining l.fn.source) None l.fn.lines.ahead l.fn.reading → StandsAt config from (g.S.Source.remaining l.source) None l.lines.ahead l.reading;
  past : IsPast l.reading;
  still : g.S.Source.failures l.source ≡ g.S.Source.failures l.fn.source;
}

abbrev pub decreases-loop-reading : goal.decreases-loop-reading
decreases-loop-reading g l = MOST_WHOLE - l.reading.whole
