use Rattle.std.proofs.Common.{◌≡◌, List, Bor, true, map, subst}
use Rattle.std.proofs.lemmas.Result.{IfOk-weaker}
use Rattle.clap.specs.Words.{App, FailsBy, HasMatchesOf, Text, fault_of, is_simple_and_free}
use Rattle.cli_line.proofs.PlainWords.{is_simple_alone, is_simple_camr}
use Rattle.cli_line.proofs.words.parsed.Goals as goal

pub returns-clause-rows : goal.returns-clause-rows
returns-clause-rows c =
    let words : List Text = map (λ (word : Bor Text). word.now) c.args.words.now in
    IfOk-weaker c.try_get_matches_from.result _ _
    (λ m h. (subst (λ (app : App). HasMatchesOf app words m) c.in_ok-camr_command.ensures.0 h is_simple_alone).1) c.try_get_matches_from.ensures.matches

pub returns-clause-faults : goal.returns-clause-faults
returns-clause-faults c =
    let words : List Text = map (λ (word : Bor Text). word.now) c.args.words.now in
    subst (λ (app : App). is_simple_and_free app ≡ true → FailsBy (fault_of app words) c.try_get_matches_from.result) c.in_ok-camr_command.ensures.0
    c.try_get_matches_from.ensures.kinds is_simple_camr
