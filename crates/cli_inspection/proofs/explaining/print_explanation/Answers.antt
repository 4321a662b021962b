use Rattle.std.proofs.Common.{rules}
use Rattle.std.specs.Io.KnownBytes.{Appends}
use Rattle.std.specs.Prelude.{◌++◌}
use Rattle.cli_commands.specs.FaultText.{report_of}
use Rattle.cli_commands.specs.declared.fault.Fault.TheVariants.{Manifest}
use Rattle.cli_inspection.proofs.Judged.{went}
use Rattle.cli_inspection.proofs.explaining.print_explanation.Goals as goal

pub returns-in-Ok-clause-refused : goal.returns-in-Ok-clause-refused
returns-in-Ok-clause-refused g c = λ is.
    let old = g.W.Write.contents c.args.out.now in
    let new = g.W.Write.contents c.print_refused.new.out in
    let told = Manifest c.in-Err-verdict.fault in
    let text = c.as_str-in-Err-verdict.result.now in
    (told, text, search rules, went c.print_refused.result c.refused.result (Appends old new (report_of told ++ text)) c.refused.ensures.status c.print_refused.ensures is)
