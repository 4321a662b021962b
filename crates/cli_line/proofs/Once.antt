-- Plans of lines without a `-` read standard input once at most.
use Rattle.std.proofs.Common.{◌≡◌, ◌≤◌, ◌+◌, ◌∙◌, ℕ, Bool, true, false, List, [], ◌∷◌, Option, None, Some, ap, ap₂, arith, codes, inr, refl, subst, sym}
use Rattle.std.specs.Prelude.{String, if◌then◌else◌, option_map, string_bytes}
use Rattle.std.specs.Global.{Global}
use Rattle.std.specs.Prelude.{Result, Ok, Err, IfErr, IfOk}
use Rattle.clap.specs.Words.{Text, fault_of, subcommand_of}
use Rattle.clap.specs.declared.error.Error.{Error}
use Rattle.cli_line.specs.FileLines.{ArePlain, Asked, IsAsked}
use Rattle.cli_line.specs.FileLines.Asked.{Asm, Dis, Check, Migrate, Live, Reopen, Journal, Audit, Replay}
use Rattle.cli_line.specs.Files.{given_paths, is_stream, stdin_reads, stream_count}
use Rattle.cli_line.specs.FoundPlan.{HasFound, IsRefused}
use Rattle.cli_line.specs.RunCommand.{camr_command}
use Rattle.cli_line.specs.RunLine.{GivesRun, IsPlain, IsRun}
use Rattle.cli_line.specs.UsageFault.{Gives, IsValueFault}
use Rattle.cli_line.specs.declared.plans.Plan.{Plan}
use Rattle.cli_line.specs.declared.plans.Plan.TheVariants as plans

-- a plain path is no standard input
plain_first : (path : Text) (rest : List Text) → IsPlain path → stream_count (path ∷ rest) ≡ stream_count rest
plain_first [] rest plain = omega arith
plain_first (x ∷ word) rest plain = rw plain (omega arith)

pub one_file : (path : Text) → stream_count (path ∷ []) ≤ 1
one_file path = go (is_stream path)
  where
    go : (b : Bool) → (if b then 1 else 0) + 0 ≤ 1
    go true = omega arith
    go false = omega arith

none_in : (path word : Text) → path ≡ word → IsPlain word → stream_count (path ∷ []) ≡ 0
none_in path word is plain = ap (λ (p : Text). stream_count (p ∷ [])) is ∙ plain_first word [] plain

pub none_in_both : (path other word second : Text) → path ≡ word → other ≡ second → IsPlain word → IsPlain second → stream_count (path ∷ other ∷ []) ≡ 0
none_in_both path other word second is also plain too =
    ap₂ (λ (p q : Text). stream_count (p ∷ q ∷ [])) is also ∙ (plain_first word (second ∷ []) plain ∙ plain_first second [] too)

none_given : (path : Option (String Global)) → option_map string_bytes path ≡ None → stream_count (given_paths path) ≡ 0
none_given None is = refl
none_given (Some path) is = absurd cc

plain_given : (path : Option (String Global)) (word : Text) → option_map string_bytes path ≡ Some word → IsPlain word → stream_count (given_paths path) ≡ 0
plain_given None word is plain = absurd cc
plain_given (Some path) word is plain = let same : string_bytes path ≡ word = cc in none_in (string_bytes path) word same plain

run_once : (number manifest scenario : Text) (plan : Plan) → IsRun number (codes "never") manifest scenario plan → IsPlain manifest → IsPlain scenario → stdin_reads plan ≤ 1
run_once number manifest scenario (plans.Run workers watch a b) is pm ps = omega (arith, none_in_both (string_bytes a) (string_bytes b) manifest scenario is.2 is.3 pm ps)
run_once number manifest scenario (plans.Strict workers watch a b) is pm ps = absurd is
run_once number manifest scenario (plans.Asm a b) is pm ps = absurd is
run_once number manifest scenario (plans.Migrate later a b) is pm ps = absurd is
run_once number manifest scenario (plans.Dis a) is pm ps = absurd is
run_once number manifest scenario (plans.Check a) is pm ps = absurd is
run_once number manifest scenario (plans.Live manner a) is pm ps = absurd is
run_once number manifest scenario (plans.Journal manner synced a b) is pm ps = absurd is
run_once number manifest scenario (plans.Audit a) is pm ps = absurd is
run_once number manifest scenario (plans.Replay a b) is pm ps = absurd is

-- what is asked for by such a line
asked_once : (plan : Plan) (asked : Asked) → ArePlain asked → IsAsked asked plan → stdin_reads plan ≤ 1
asked_once (plans.Asm a b) asked plain is = omega (arith, one_file (string_bytes a))
asked_once (plans.Migrate later a b) asked plain is = omega (arith, one_file (string_bytes a))
asked_once (plans.Dis a) asked plain is = omega (arith, one_file (string_bytes a))
asked_once (plans.Check a) asked plain is = omega (arith, one_file (string_bytes a))
asked_once (plans.Audit a) asked plain is = omega arith
asked_once (plans.Live manner a) (Live is_clocked is_stepped is_told manifest) plain is = omega (arith, none_in (string_bytes a) manifest is.1 plain)
asked_once (plans.Journal manner synced a b) (Reopen is_synced is_clocked is_stepped is_told folder) plain is = omega (arith, none_given b is.3)
asked_once (plans.Journal manner synced a b) (Journal is_synced is_clocked is_stepped is_told folder manifest) plain is = omega (arith, plain_given b manifest is.3 plain.1)
asked_once (plans.Replay a b) (Replay manifest trace) plain is = omega (arith, none_in_both (string_bytes a) (string_bytes b) manifest trace is.0 is.1 plain.0 plain.1)
asked_once (plans.Run workers watch a b) (Asm text program) plain is = absurd is
asked_once (plans.Run workers watch a b) (Dis program) plain is = absurd is
asked_once (plans.Run workers watch a b) (Check manifest) plain is = absurd is
asked_once (plans.Run workers watch a b) (Migrate to manifest migrated) plain is = absurd is
asked_once (plans.Run workers watch a b) (Live is_clocked is_stepped is_told manifest) plain is = absurd is
asked_once (plans.Run workers watch a b) (Reopen is_synced is_clocked is_stepped is_told folder) plain is = absurd is
asked_once (plans.Run workers watch a b) (Journal is_synced is_clocked is_stepped is_told folder manifest) plain is = absurd is
asked_once (plans.Run workers watch a b) (Audit folder) plain is = absurd is
asked_once (plans.Run workers watch a b) (Replay manifest trace) plain is = absurd is
asked_once (plans.Strict workers watch a b) (Asm text program) plain is = absurd is
asked_once (plans.Strict workers watch a b) (Dis program) plain is = absurd is
asked_once (plans.Strict workers watch a b) (Check manifest) plain is = absurd is
asked_once (plans.Strict workers watch a b) (Migrate to manifest migrated) plain is = absurd is
asked_once (plans.Strict workers watch a b) (Live is_clocked is_stepped is_told manifest) plain is = absurd is
asked_once (plans.Strict workers watch a b) (Reopen is_synced is_clocked is_stepped is_told folder) plain is = absurd is
asked_once (plans.Strict workers watch a b) (Journal is_synced is_clocked is_stepped is_told folder manifest) plain is = absurd is
asked_once (plans.Strict workers watch a b) (Audit folder) plain is = absurd is
asked_once (plans.Strict workers watch a b) (Replay manifest trace) plain is = absurd is
asked_once (plans.Live manner a) (Asm text program) plain is = absurd is
asked_once (plans.Live manner a) (Dis program) plain is = absurd is
asked_once (plans.Live manner a) (Check manifest) plain is = absurd is
asked_once (plans.Live manner a) (Migrate to manifest migrated) plain is = absurd is
asked_once (plans.Live manner a) (Reopen is_synced is_clocked is_stepped is_told folder) plain is = absurd is
asked_once (plans.Live manner a) (Journal is_synced is_clocked is_stepped is_told folder manifest) plain is = absurd is
asked_once (plans.Live manner a) (Audit folder) plain is = absurd is
asked_once (plans.Live manner a) (Replay manifest trace) plain is = absurd is
asked_once (plans.Journal manner synced a b) (Asm text program) plain is = absurd is
asked_once (plans.Journal manner synced a b) (Dis program) plain is = absurd is
asked_once (plans.Journal manner synced a b) (Check manifest) plain is = absurd is
asked_once (plans.Journal manner synced a b) (Migrate to manifest migrated) plain is = absurd is
asked_once (plans.Journal manner synced a b) (Live is_clocked is_stepped is_told manifest) plain is = absurd is
asked_once (plans.Journal manner synced a b) (Audit folder) plain is = absurd is
asked_once (plans.Journal manner synced a b) (Replay manifest trace) plain is = absurd is
asked_once (plans.Replay a b) (Asm text program) plain is = absurd is
asked_once (plans.Replay a b) (Dis program) plain is = absurd is
asked_once (plans.Replay a b) (Check manifest) plain is = absurd is
asked_once (plans.Replay a b) (Migrate to manifest migrated) plain is = absurd is
asked_once (plans.Replay a b) (Live is_clocked is_stepped is_told manifest) plain is = absurd is
asked_once (plans.Replay a b) (Reopen is_synced is_clocked is_stepped is_told folder) plain is = absurd is
asked_once (plans.Replay a b) (Journal is_synced is_clocked is_stepped is_told folder manifest) plain is = absurd is
asked_once (plans.Replay a b) (Audit folder) plain is = absurd is

-- What is so of a plan that is handed on. It was not, if it reads standard input twice.
module _ (plan : Plan) where
  pub handed : (P : Plan → Type 0) (r : Result Plan Error) → IfOk r (λ it. (it ≡ plan) × (stdin_reads plan ≤ 1)) → P plan → IfOk r P
  handed P (Ok it) same is = subst P (sym same.0) is
  handed P (Err e) same is = tt

  pub read_so : (r : Result Plan Error) → IfOk r (λ it. (it ≡ plan) × (stdin_reads plan ≤ 1)) → IfOk r (λ it. stdin_reads it ≤ 1)
  read_so (Ok it) same = subst (λ (p : Plan). stdin_reads p ≤ 1) (sym same.0) same.1
  read_so (Err e) same = tt

  pub once_lines : (number manifest scenario : Text) (r : Result Plan Error) → IfOk r (λ it. (it ≡ plan) × (stdin_reads plan ≤ 1)) → IfErr r (λ e. IsValueFault e × (2 ≤ stdin_reads plan))
      → IsRun number (codes "never") manifest scenario plan → IsPlain manifest → IsPlain scenario → GivesRun number manifest scenario r
  once_lines number manifest scenario (Ok it) same twice is pm ps = subst (IsRun number (codes "never") manifest scenario) (sym same.0) is
  once_lines number manifest scenario (Err e) same twice is pm ps = absurd (omega (arith, run_once number manifest scenario plan is pm ps, twice.1))

  pub once_gives : (asked : Asked) (r : Result Plan Error) → IfOk r (λ it. (it ≡ plan) × (stdin_reads plan ≤ 1)) → IfErr r (λ e. IsValueFault e × (2 ≤ stdin_reads plan))
      → IsAsked asked plan → ArePlain asked → Gives (IsAsked asked) r
  once_gives asked (Ok it) same twice is plain = subst (IsAsked asked) (sym same.0) is
  once_gives asked (Err e) same twice is plain = absurd (omega (arith, asked_once plan asked plain is, twice.1))

  pub refused_twice : (words : List Text) (r : Result Plan Error) → IfErr r (λ e. IsValueFault e × (2 ≤ stdin_reads plan)) → fault_of camr_command words ≡ [] → HasFound (subcommand_of camr_command words) plan → IfErr r (IsRefused words)
  refused_twice words (Ok it) twice clear found = tt
  refused_twice words (Err e) twice clear found = inr (clear, twice.0, plan, found, twice.1)
