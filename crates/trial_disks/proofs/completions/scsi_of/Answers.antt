use Rattle.std.proofs.Common.{◌≡◌, ℕ, Option, Some, IfSome, sym, subst}
use Rattle.trace_lines.specs.Texts.{byte_text}
use Rattle.trial_disks.proofs.Spelled.{byte_told}
use Rattle.trial_disks.proofs.completions.scsi_of.Goals as goal

pub returns : goal.returns
returns c =
    subst (λ (found : Option ℕ). IfSome found (λ it. byte_text it ≡ Some c.args.word.now)) (sym c.byte_in.ensures) (byte_told c.args.word.now c.read.result c.read.ensures)
