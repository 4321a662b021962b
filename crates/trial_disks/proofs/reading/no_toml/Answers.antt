use Rattle.trial_disks.proofs.Parts.{of_text}
use Rattle.trial_disks.proofs.reading.no_toml.Goals as goal

pub returns : goal.returns
returns c = of_text _ c.at.result _ _ c.fault_of.ensures c.at.ensures
