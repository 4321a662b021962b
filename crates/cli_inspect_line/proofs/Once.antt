-- Plans of lines without a `-` read standard input once at most.
use Rattle.std.proofs.Common.{◌≡◌, ◌≤◌, [], List, arith, inr, subst, sym}
use Rattle.std.specs.Prelude.{Result, Ok, Err, IfErr, IfOk, string_bytes}
use Rattle.clap.specs.Words.{Text, fault_of, subcommand_of}
use Rattle.clap.specs.declared.error.Error.{Error}
use Rattle.cli_line.specs.RunCommand.{camr_command}
use Rattle.cli_line.specs.UsageFault.{Gives, IsValueFault}
use Rattle.cli_line.proofs.Once.{none_in_both, one_file}
use Rattle.cli_inspect_line.specs.Files.{stdin_reads}
use Rattle.cli_inspect_line.specs.FoundPlan.{HasFound, IsRefused}
use Rattle.cli_inspect_line.specs.InspectLines.{ArePlain, Asked, IsAsked}
use Rattle.cli_inspect_line.specs.InspectLines.Asked.{Explain, ExplainFile, Show, ShowAsJson, Summarise, SummariseAsJson, Draw}
use Rattle.cli_inspect_line.specs.declared.plans.Plan.{Plan}
use Rattle.cli_inspect_line.specs.declared.plans.Plan.TheVariants as plans

-- what is asked for by such a line
asked_once : (plan : Plan) (asked : Asked) → ArePlain asked → IsAsked asked plan → stdin_reads plan ≤ 1
asked_once (plans.ExplainCode code) asked plain is = omega arith
asked_once (plans.Explain a) asked plain is = omega (arith, one_file (string_bytes a))
asked_once (plans.Decide extent question a) asked plain is = omega (arith, one_file (string_bytes a))
asked_once (plans.Try seed trace a b) (Explain word) plain is = absurd is
asked_once (plans.Try seed trace a b) (ExplainFile manifest file) plain is = absurd is
asked_once (plans.Try seed trace a b) (Show manifest also) plain is = absurd is
asked_once (plans.Try seed trace a b) (ShowAsJson manifest also) plain is = absurd is
asked_once (plans.Try seed trace a b) (Summarise manifest also) plain is = absurd is
asked_once (plans.Try seed trace a b) (SummariseAsJson manifest also) plain is = absurd is
asked_once (plans.Try seed trace a b) (Draw drawing output manifest also) plain is = absurd is
asked_once (plans.ExplainFile a b) (ExplainFile manifest file) plain is = omega (arith, none_in_both (string_bytes a) (string_bytes b) manifest file is.0 is.1 plain.0 plain.1)
asked_once (plans.Show form filter a b) (Show manifest trace) plain is = omega (arith, none_in_both (string_bytes a) (string_bytes b) manifest trace is.1 is.2 plain.0 plain.1)
asked_once (plans.Show form filter a b) (ShowAsJson manifest trace) plain is = omega (arith, none_in_both (string_bytes a) (string_bytes b) manifest trace is.1 is.2 plain.0 plain.1)
asked_once (plans.Summarise form a b) (Summarise manifest trace) plain is = omega (arith, none_in_both (string_bytes a) (string_bytes b) manifest trace is.0 is.1 plain.0 plain.1)
asked_once (plans.Summarise form a b) (SummariseAsJson manifest trace) plain is = omega (arith, none_in_both (string_bytes a) (string_bytes b) manifest trace is.0 is.1 plain.0 plain.1)
asked_once (plans.Draw d a b c) (Draw drawing output manifest trace) plain is = omega (arith, none_in_both (string_bytes a) (string_bytes b) manifest trace is.0 is.1 plain.1 plain.2)
asked_once (plans.ExplainFile a b) (Explain word) plain is = absurd is
asked_once (plans.ExplainFile a b) (Show manifest trace) plain is = absurd is
asked_once (plans.ExplainFile a b) (ShowAsJson manifest trace) plain is = absurd is
asked_once (plans.ExplainFile a b) (Summarise manifest trace) plain is = absurd is
asked_once (plans.ExplainFile a b) (SummariseAsJson manifest trace) plain is = absurd is
asked_once (plans.ExplainFile a b) (Draw drawing output manifest trace) plain is = absurd is
asked_once (plans.Show form filter a b) (Explain word) plain is = absurd is
asked_once (plans.Show form filter a b) (ExplainFile manifest file) plain is = absurd is
asked_once (plans.Show form filter a b) (Summarise manifest trace) plain is = absurd is
asked_once (plans.Show form filter a b) (SummariseAsJson manifest trace) plain is = absurd is
asked_once (plans.Show form filter a b) (Draw drawing output manifest trace) plain is = absurd is
asked_once (plans.Summarise form a b) (Explain word) plain is = absurd is
asked_once (plans.Summarise form a b) (ExplainFile manifest file) plain is = absurd is
asked_once (plans.Summarise form a b) (Show manifest trace) plain is = absurd is
asked_once (plans.Summarise form a b) (ShowAsJson manifest trace) plain is = absurd is
asked_once (plans.Summarise form a b) (Draw drawing output manifest trace) plain is = absurd is
asked_once (plans.Draw d a b c) (Explain word) plain is = absurd is
asked_once (plans.Draw d a b c) (ExplainFile manifest file) plain is = absurd is
asked_once (plans.Draw d a b c) (Show manifest trace) plain is = absurd is
asked_once (plans.Draw d a b c) (ShowAsJson manifest trace) plain is = absurd is
asked_once (plans.Draw d a b c) (Summarise manifest trace) plain is = absurd is
asked_once (plans.Draw d a b c) (SummariseAsJson manifest trace) plain is = absurd is

-- What is so of a plan that is handed on. It was not, if it reads standard input twice.
module _ (plan : Plan) where
  pub handed : (P : Plan → Type 0) (r : Result Plan Error) → IfOk r (λ it. (it ≡ plan) × (stdin_reads plan ≤ 1)) → P plan → IfOk r P
  handed P (Ok it) same is = subst P (sym same.0) is
  handed P (Err e) same is = tt

  pub read_so : (r : Result Plan Error) → IfOk r (λ it. (it ≡ plan) × (stdin_reads plan ≤ 1)) → IfOk r (λ it. stdin_reads it ≤ 1)
  read_so (Ok it) same = subst (λ (p : Plan). stdin_reads p ≤ 1) (sym same.0) same.1
  read_so (Err e) same = tt

  pub once_gives : (asked : Asked) (r : Result Plan Error) → IfOk r (λ it. (it ≡ plan) × (stdin_reads plan ≤ 1)) → IfErr r (λ e. IsValueFault e × (2 ≤ stdin_reads plan))
      → IsAsked asked plan → ArePlain asked → Gives (IsAsked asked) r
  once_gives asked (Ok it) same twice is plain = subst (IsAsked asked) (sym same.0) is
  once_gives asked (Err e) same twice is plain = absurd (omega (arith, asked_once plan asked plain is, twice.1))

  pub refused_twice : (words : List Text) (r : Result Plan Error) → IfErr r (λ e. IsValueFault e × (2 ≤ stdin_reads plan)) → fault_of camr_command words ≡ [] → HasFound (subcommand_of camr_command words) plan → IfErr r (IsRefused words)
  refused_twice words (Ok it) twice clear found = tt
  refused_twice words (Err e) twice clear found = inr (clear, twice.0, plan, found, twice.1)
