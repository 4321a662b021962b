use Rattle.std.proofs.Common.{◌≡◌, Some, rules}
use Rattle.std.proofs.lemmas.Result.{IfOk-weaker}
use Rattle.clap.specs.Words.{found_of, rows_of, subcommand_name_of, subcommand_rows_of}
use Rattle.cli_line.proofs.Planned.{entered_is, rows_in}
use Rattle.cli_inspect_line.proofs.Planned.{plan_in}
use Rattle.cli_inspect_line.proofs.words.planned.Goals as goal

pub returns-in-Some : goal.returns-in-Some
returns-in-Some c =
    let m = c.args.matches.now in
    let name = c.in-Some.name.now in
    let rows = rows_of (found_of c.in-Some.found.now) in
    let named : Some name ≡ subcommand_name_of m = search rules in
    let found : Some rows ≡ rows_in (subcommand_rows_of m) = search rules in
    IfOk-weaker c.plan_behind.result _ _ (λ o h. plan_in (subcommand_rows_of m) name rows o (entered_is m name rows named found) h) c.plan_behind.ensures
