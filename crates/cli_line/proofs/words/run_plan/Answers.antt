use Rattle.std.proofs.Common.{Bool, codes, refl, subst}
use Rattle.std.specs.Prelude.{MatchBool}
use Rattle.clap.specs.Words.{found_of, rows_of}
use Rattle.cli_line.specs.FoundPlan.{IsGiven}
use Rattle.cli_line.specs.RunLine.{watch_word}
use Rattle.cli_line.proofs.Given.{no_text, text_given}
use Rattle.cli_line.proofs.words.run_plan.Goals as goal

pub returns-in_default-get_str : goal.returns-in_default-get_str
returns-in_default-get_str c number manifest scenario watch given_number given_watch given_manifest given_scenario n spells lawful =
    no_text (found_of c.args.run.now) (codes "MANIFEST") c.get_str.result manifest c.get_str.ensures c.in_default-get_str.is given_manifest

pub returns-in_default-get_str-2 : goal.returns-in_default-get_str-2
returns-in_default-get_str-2 c number manifest scenario watch given_number given_watch given_manifest given_scenario n spells lawful =
    no_text (found_of c.args.run.now) (codes "SCENARIO") c.get_str-2.result scenario c.get_str-2.ensures c.in_default-get_str-2.is given_scenario

pub returns-then-is_given : goal.returns-then-is_given
returns-then-is_given c = let given = c.in-Some.ensures in let rows = rows_of (found_of c.args.run.now) in (
  (
    refl,
    subst (λ (b : Bool). MatchBool b (IsGiven (codes "strict") rows) (IsGiven (codes "strict") rows → ⊥)) c.if-is_given.true c.is_given.ensures,
    record {
      number = given.1.0;
      when = watch_word c.in-Some-watch_given.watch;
      manifest = c.in-Some-get_str.manifest.now;
      scenario = c.in-Some-get_str-2.scenario.now;
      workers_found = given.1.1;
      watch_found = c.in-Some-watch_given.ensures;
      manifest_found = text_given (found_of c.args.run.now) (codes "MANIFEST") c.get_str.result _ c.get_str.ensures c.in-Some-get_str.is;
      scenario_found = text_given (found_of c.args.run.now) (codes "SCENARIO") c.get_str-2.result _ c.get_str-2.ensures c.in-Some-get_str-2.is;
      same = (given.1.2, refl, c.in_ok-manifest.ensures.ok, c.in_ok-scenario.ensures.ok);
    },
  ),
  given.0,
)

pub returns : goal.returns
returns c = let given = c.in-Some.ensures in let rows = rows_of (found_of c.args.run.now) in (
  (
    refl,
    subst (λ (b : Bool). MatchBool b (IsGiven (codes "strict") rows) (IsGiven (codes "strict") rows → ⊥)) c.if-is_given.false c.is_given.ensures,
    record {
      number = given.1.0;
      when = watch_word c.in-Some-watch_given.watch;
      manifest = c.in-Some-get_str.manifest.now;
      scenario = c.in-Some-get_str-2.scenario.now;
      workers_found = given.1.1;
      watch_found = c.in-Some-watch_given.ensures;
      manifest_found = text_given (found_of c.args.run.now) (codes "MANIFEST") c.get_str.result _ c.get_str.ensures c.in-Some-get_str.is;
      scenario_found = text_given (found_of c.args.run.now) (codes "SCENARIO") c.get_str-2.result _ c.get_str-2.ensures c.in-Some-get_str-2.is;
      same = (given.1.2, refl, c.in_ok-manifest.ensures.ok, c.in_ok-scenario.ensures.ok);
    },
  ),
  given.0,
)
