-- What `migrate` makes of a manifest of a lower version, and which fault is answered of a text that it makes nothing of.
use Rattle.std.specs.Prelude.{◌≡◌, ◌⊎◌, ℕ, false, true, List, Some}
use Rattle.toml.specs.Data.{Data, Members}
use Rattle.toml.specs.Parse.{parse_document}
use Rattle.world.specs.World.{Setup}
use Rattle.world_calls.specs.declared.trace.Version.{Version}
use Rattle.manifest_form.specs.Entries.{Plan}
use Rattle.manifest_form.specs.Migration.{IsLaterForm, as_later, comes_after}
use Rattle.manifest.specs.declared.fault.ManifestFault.{ManifestFault}
use Rattle.manifest.specs.declared.fault.ManifestFault.TheVariants.{Migrated}
use Rattle.manifest.specs.Meaning.{HasFault, IsSetUp, Named, Writes}

-- The text is TOML that says what that manifest says, in the later version.
pub record PrintsLater (manifest : Data) (to : Version) (text : List ℕ) : Type 0 where
  pub members : Members
  pub parsed : parse_document text ≡ Some members
  pub later : IsLaterForm manifest to members

-- The old text is a manifest of a lower version that can be set up, and the new one writes the same plan in the later version: with one
-- controller over all its queues, if there were none.
pub record IsMigrated (to : Version) (old new : List ℕ) : Type 0 where
  pub plan : Plan
  pub setup : Setup
  pub programs : List Named
  pub written : Writes old plan
  pub set_up : IsSetUp plan setup programs
  pub lower : comes_after plan.version to ≡ true
  pub anew : Writes new (as_later to plan)

-- M9: the text has no other fault, and its version is not lower.
pub record IsLate (to : Version) (text : List ℕ) : Type 0 where
  pub plan : Plan
  pub setup : Setup
  pub programs : List Named
  pub written : Writes text plan
  pub set_up : IsSetUp plan setup programs
  pub not_lower : comes_after plan.version to ≡ false

abbrev pub HasMigrationFault : Version → List ℕ → ManifestFault → Type 0
HasMigrationFault to text fault = HasFault text fault ⊎ ((fault ≡ Migrated) × IsLate to text)
