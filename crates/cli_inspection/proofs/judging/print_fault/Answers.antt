use Rattle.std.proofs.Common.{◌≡◌, ℕ, List, ap, rules}
use Rattle.std.specs.Io.KnownBytes.{Appends, Keeps}
use Rattle.std.specs.Prelude.{◌++◌}
use Rattle.cli_commands.specs.FaultText.{report_of}
use Rattle.cli_commands.specs.Faults.{status_of}
use Rattle.cli_inspection.proofs.Judged.{kept, puts_beside, went, within}
use Rattle.cli_inspection.proofs.judging.print_fault.Goals as goal

pub returns-in_default-print_explanation-clause-refused : goal.returns-in_default-print_explanation-clause-refused
returns-in_default-print_explanation-clause-refused g c = λ is.
    puts_beside c.args.manifest.1.now c.args.file.1.now c.args.fault.now _ _ (c.requires (ap status_of c.in-Manifest.is)) (c.print_explanation.ensures.refused is)

pub returns-in_default : goal.returns-in_default
returns-in_default g c =
    let one : status_of c.args.fault.now ≡ 1 = search rules in
    let told = c.args.fault.now in
    let old = g.W.Write.contents c.args.out.now in
    let new = g.W.Write.contents c.print_report.new.out in
    let before = g.E.Write.contents c.args.err.now in
    let after = g.E.Write.contents c.refused.new.err in
    record {
      status = within c.print_report.result c.refused.result (Keeps before after) c.refused.ensures.status;
      fault = λ is. one;
      refused = λ is.
          let put = went c.print_report.result c.refused.result ((rest : List ℕ) × Appends old new (report_of told ++ rest)) c.refused.ensures.status c.print_report.ensures is in
          (told, put.0, c.requires one, put.1);
      quiet = kept c.print_report.result c.refused.result (Keeps before after) c.refused.ensures.status c.refused.ensures.quiet;
    }
