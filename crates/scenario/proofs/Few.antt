-- There are no more steps than lines.
use Rattle.std.proofs.Common.{◌≤◌, ◌+◌, ◌==◌, ℕ, suc, Bool, true, false, List, [], ◌∷◌, length, arith}
use Rattle.std.specs.Prelude.{if◌then◌else◌}
use Rattle.std.proofs.lemmas.List.Splits.{length-slice_split}
use Rattle.std.proofs.lemmas.List.Sums.{count_by-le-length}
use Rattle.world_calls.specs.declared.call.Call.{Call}
use Rattle.scenario.specs.declared.command.Command.TheVariants as commands
use Rattle.scenario.specs.Commands.{Step, is_drain}
use Rattle.scenario.specs.Said.{is_skipped, lines_of}
use Rattle.scenario.specs.Steps.{steps_of, with_first}

one_first : (number most : ℕ) (later : List Call → List Step) → ((calls : List Call) → length (later calls) ≤ most) → (calls : List Call) → length (with_first number later calls) ≤ suc most
one_first number most later few [] = omega arith
one_first number most later few (call ∷ calls) = omega (arith, few calls)

one_said : (number most : ℕ) (later : List Call → List Step) → ((calls : List Call) → length (later calls) ≤ most) → (calls : List Call) (skipped drain : Bool)
    → length (if skipped then later calls else (if drain then record { line = number; command = commands.Drain } ∷ later calls else with_first number later calls)) ≤ suc most
one_said number most later few calls true drain = omega (arith, few calls)
one_said number most later few calls false true = omega (arith, few calls)
one_said number most later few calls false false = one_first number most later few calls

few_steps : (number : ℕ) (lines : List (List ℕ)) (calls : List Call) → length (steps_of number lines calls) ≤ length lines
few_steps number [] calls = omega arith
few_steps number (line ∷ lines) calls = one_said number (length lines) (steps_of (number + 1) lines) (few_steps (number + 1) lines) calls (is_skipped line) (is_drain line)

pub few_said : (text : List ℕ) (calls : List Call) → length (steps_of 1 (lines_of text) calls) ≤ length text + 1
few_said text calls = omega (arith, few_steps 1 (lines_of text) calls, length-slice_split (λ byte. byte == 10) text, count_by-le-length (λ byte. byte == 10) text)
