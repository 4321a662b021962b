-- What a trial says of the manifest.
use Rattle.std.proofs.Common.{ℕ, List, Option}
use Rattle.cli_commands.specs.Told.{IsManifest}
use Rattle.cli_inspection.specs.Trials.{IsTriedOut}

-- a trial that is done is one over a manifest
pub is_manifest : (path : Option (List ℕ)) (manifest devices : List ℕ) (out-old out-new kept-old kept-new : Option (List ℕ))
    → IsTriedOut path manifest devices out-old out-new kept-old kept-new → IsManifest manifest
is_manifest path manifest devices out-old out-new kept-old kept-new out = (out.1.config, out.1.configured.0, out.1.configured.1)
