-- A device without failures, a text that is read as a document, and one that is no TOML.
use Rattle.std.proofs.Common.{◌≡◌, ℕ, None, Some, Result, Ok, Err, IfOk, List, [], codes, ap, subst, ◌∙◌}
use Rattle.toml.specs.Data.{Data, table, Members, get}
use Rattle.toml.specs.Parse.{parse_document}
use Rattle.base.specs.declared.or_memory.OrMemory.{OrMemory}
use Rattle.base.specs.declared.or_memory.OrMemory.TheVariants.{OutOfMemory, Fault}
use Rattle.manifest_form.specs.Seen.{IfFault}
use Rattle.trial_disks.specs.declared.fault.DisksFault.{DisksFault}
use Rattle.trial_disks.specs.declared.fault.Wrong.{Wrong}
use Rattle.trial_disks.specs.declared.fault.Wrong.TheVariants as wrongs
use Rattle.trial_disks.specs.Codes.{code_of}
use Rattle.trial_disks.specs.declared.data.Device.{Device}
use Rattle.trial_disks.specs.declared.data.Disks.{Disks}
use Rattle.trial_disks.specs.Said.{IsAlone, IsDevice, AreDisks, SaysDisks}
use Rattle.trial_disks.proofs.Numbers.{no_elements}

pub without_failures : (entry : Data) (device : Device) → get (codes "failure") entry ≡ None → device.failures.items ≡ [] → IsAlone entry device → IsDevice entry device
without_failures entry device none empty is = record { alone = is; failures = rw (no_elements (codes "failure") entry none, empty) tt }

-- what a text says that is read as a document
pub said_by : {E : Type 0} (text : List ℕ) (document : Members) (whole : Data) (read : Result Disks E) → whole ≡ table document
    → parse_document text ≡ Some document → IfOk read (AreDisks whole) → IfOk read (SaysDisks text)
said_by text document whole (Ok disks) is parsed said = record {
  document = document;
  parsed = parsed;
  said = subst (λ (those : Data). AreDisks those disks) is said;
}
said_by text document whole (Err error) is parsed said = tt

-- the code of a text that is no TOML
pub of_text : (wrong : Wrong) (error : OrMemory DisksFault) (line column : ℕ) → wrong ≡ wrongs.Text line column
    → IfFault (λ fault. fault.wrong ≡ wrong) error → IfFault (λ fault. code_of fault.wrong ≡ codes "D1") error
of_text wrong OutOfMemory line column is same = tt
of_text wrong (Fault fault) line column is same = ap code_of (same ∙ is)
