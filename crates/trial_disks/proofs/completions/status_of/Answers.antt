use Rattle.std.proofs.Common.{◌≡◌, Option, Some, IfSome, sym, subst}
use Rattle.ccb.specs.declared.cam_status.CamStatus.{CamStatus}
use Rattle.trace_lines.specs.Texts.{status_text}
use Rattle.trial_disks.proofs.Spelled.{status_told}
use Rattle.trial_disks.proofs.completions.status_of.Goals as goal

pub returns : goal.returns
returns c =
    subst (λ (found : Option CamStatus). IfSome found (λ it. status_text it ≡ Some c.args.word.now)) (sym c.status_in.ensures) (status_told c.args.word.now c.read.result c.read.ensures)
