-- What an explanation's verdict tells of the manifest.
use Rattle.std.proofs.Common.{◌≡◌, ℕ, List, map, subst}
use Rattle.std.specs.Prelude.{MatchResult, Result, Ok, Err}
use Rattle.manifest.specs.Meaning.{HasFault, Means}
use Rattle.manifest.specs.Seen.{named_seen}
use Rattle.manifest.specs.declared.Manifest.{Manifest}
use Rattle.manifest.specs.declared.fault.ManifestFault.{ManifestFault}
use Rattle.cli_commands.specs.Told.{IsFaultyManifest, IsManifest, IsManifestFault}
use Rattle.cli_commands.specs.declared.fault.Fault.{Fault}
use Rattle.cli_commands.specs.declared.fault.Fault.TheVariants as fault

pub verdict_told : (bytes read : List ℕ) (verdict : Result Manifest ManifestFault) → read ≡ bytes
    → MatchResult verdict (λ manifest. Means read manifest.config (map named_seen manifest.programs.items)) (HasFault read)
    → MatchResult verdict (λ _. IsManifest bytes) (HasFault bytes)
verdict_told bytes read (Ok manifest) same means =
    (manifest.config, map named_seen manifest.programs.items, subst (λ (r : List ℕ). Means r manifest.config (map named_seen manifest.programs.items)) same means)
verdict_told bytes read (Err fault) same has = subst (λ (r : List ℕ). HasFault r fault) same has

-- a manifest with this fault is faulty
pub is_faulty : (manifest : List ℕ) (told : Fault) → IsManifestFault manifest told → IsFaultyManifest manifest
is_faulty manifest (fault.Manifest f) has = (f, has)
is_faulty manifest fault.OutOfMemory has = absurd has
is_faulty manifest (fault.File path) has = absurd has
is_faulty manifest (fault.Text f) has = absurd has
is_faulty manifest (fault.Program f) has = absurd has
is_faulty manifest (fault.Line line) has = absurd has
is_faulty manifest (fault.NotHeld line) has = absurd has
is_faulty manifest (fault.Trace f) has = absurd has
is_faulty manifest (fault.Replay f) has = absurd has
is_faulty manifest fault.InternalError has = absurd has
