use Rattle.std.proofs.Common.{◌≡◌, List, ℕ, Option, Some, IfSome, sym, subst}
use Rattle.trace_lines.specs.Texts.{sense_text}
use Rattle.trial_disks.proofs.Spelled.{sense_told}
use Rattle.trial_disks.proofs.completions.sense_of.Goals as goal

pub returns : goal.returns
returns c =
    subst (λ (found : Option (List ℕ)). IfSome found (λ it. sense_text it ≡ Some c.args.word.now)) (sym c.bytes_in.ensures) (sense_told c.args.word.now c.read.result c.read.ensures)
