use Rattle.std.proofs.Common.{◌≡◌, ◌⊎◌, ◌∙◌, [], Bor, List, None, Option, Some, ap, inl, inr, map, string_bytes, subst, sym}
use Rattle.std.specs.Prelude.{Result, Ok, Err, IfErr, IsErrAnd}
use Rattle.clap.specs.Words.{HasKind, Row, Text, fault_of, kind_of, subcommand_of, subcommand_rows_of}
use Rattle.clap.specs.declared.error.Error.{Error}
use Rattle.clap.specs.declared.error.kind.ErrorKind.TheVariants as kind
use Rattle.cli_line.specs.FileLines.{IsAsked}
use Rattle.cli_line.specs.FoundPlan.{IsUnplanned, PlansFound}
use Rattle.cli_line.specs.RunCommand.{camr_command}
use Rattle.cli_line.specs.RunLine.{GivesRun, SpellsNoLawfulNumber}
use Rattle.cli_line.specs.UsageFault.{IsValueFault}
use Rattle.cli_line.specs.declared.plans.Plan.{Plan}
use Rattle.cli_line.proofs.AskedLines.{asked_clear}
use Rattle.cli_line.proofs.Clear.{clear_fault, clear_none, clear_plan, no_memory as only_memory}
use Rattle.cli_line.proofs.PlanLines.{line_fault, line_plan, line_refuses}
use Rattle.cli_line.proofs.SpelledOut.{run_out}
use Rattle.cli_line.proofs.words.asked_for.Goals as goal

-- an error that is handed on
handed_on : (n m s : Text) (r : Result Plan Error) (e : Error) → IsErrAnd r (λ x. x ≡ e)
    → (kind_of e ≡ kind.OutOfMemory) ⊎ ((kind_of e ≡ kind.ValueValidation) × SpellsNoLawfulNumber n) → GivesRun n m s r
handed_on n m s (Ok plan) e is has = absurd is
handed_on n m s (Err x) e is has =
    subst (λ y. (kind_of y ≡ kind.OutOfMemory) ⊎ ((kind_of y ≡ kind.ValueValidation) × SpellsNoLawfulNumber n)) (sym is) has

-- the number was refused here, and not by `clap`
refused : (n : Text) (e : Error) → IsValueFault e → SpellsNoLawfulNumber n
    → (kind_of e ≡ kind.OutOfMemory) ⊎ ((kind_of e ≡ kind.ValueValidation) × SpellsNoLawfulNumber n)
refused n e (inl is) none = inr (is, none)
refused n e (inr memory) none = inl memory

-- memory was refused
no_memory : (n m s : Text) (r : Result Plan Error) → IsErrAnd r (λ e. kind_of e ≡ kind.OutOfMemory) → GivesRun n m s r
no_memory n m s (Ok plan) is = absurd is
no_memory n m s (Err e) is = inl is

-- the words that were lent are those that are spelled out
lent : (items read : List (Bor Text)) (out : List Text) → read ≡ items → map (λ word. word.now) items ≡ out → map (λ word. word.now) read ≡ out
lent items read out same is = ap (map (λ (word : Bor Text). word.now)) same ∙ is

-- what was found is what stands for the line
found_so : (read line : List Text) (rows : Option (Text × List Row)) (planned : Option Plan) → read ≡ line → rows ≡ subcommand_of camr_command read → PlansFound rows planned → PlansFound (subcommand_of camr_command line) planned
found_so read line rows planned same is found = subst (λ f. PlansFound f planned) (is ∙ ap (subcommand_of camr_command) same) found

pub returns-in_err-spelled-clause-lines : goal.returns-in_err-spelled-clause-lines
returns-in_err-spelled-clause-lines c n m s line pn pm ps = no_memory n m s c.from_residual.result c.from_residual.ensures.1

pub returns-in_err-matches-clause-lines : goal.returns-in_err-matches-clause-lines
returns-in_err-matches-clause-lines c n m s line pn pm ps =
    let words = map string_bytes c.args.words.now in
    let same = lent _ c.deref.result.now _ c.deref.ensures.value c.in_ok-spelled.ensures ∙ run_out words n m s line pn pm ps in
    let e = c.in_err-matches.field-0.0 in
    handed_on n m s c.from_residual-in_err-matches.result e c.from_residual-in_err-matches.ensures.1
    (line_fault words n m s line pn pm ps e (subst (λ ws. HasKind (fault_of camr_command ws) e) same c.in_err-matches.ensures.faults))

pub returns-in-Some-clause-lines : goal.returns-in-Some-clause-lines
returns-in-Some-clause-lines c n m s line pn pm ps =
    let words = map string_bytes c.args.words.now in
    let found = found_so _ words _ (Some c.in-Some.plan) (lent _ c.deref.result.now _ c.deref.ensures.value c.in_ok-spelled.ensures ∙ run_out words n m s line pn pm ps) c.in_ok-matches.ensures.rows (subst (λ o. PlansFound (subcommand_rows_of c.in_ok-matches.matches) o) c.in-Some.is c.in_ok-plan.ensures) in
    line_plan words n m s line pn pm ps c.in-Some.plan found.0

pub returns-clause-lines : goal.returns-clause-lines
returns-clause-lines c n m s line pn pm ps =
    let words = map string_bytes c.args.words.now in
    let found = found_so _ words _ None (lent _ c.deref.result.now _ c.deref.ensures.value c.in_ok-spelled.ensures ∙ run_out words n m s line pn pm ps) c.in_ok-matches.ensures.rows (subst (λ o. PlansFound (subcommand_rows_of c.in_ok-matches.matches) o) c.in-None.is c.in_ok-plan.ensures) in
    refused n c.no_plan.result c.no_plan.ensures (line_refuses words n m s line pn pm ps found)

pub returns-in_err-spelled-clause-gives : goal.returns-in_err-spelled-clause-gives
returns-in_err-spelled-clause-gives c asked line plain = only_memory (IsAsked asked) c.from_residual.result c.from_residual.ensures.1

pub returns-in_err-matches-clause-gives : goal.returns-in_err-matches-clause-gives
returns-in_err-matches-clause-gives c asked line plain =
    clear_fault PlansFound _ (map string_bytes c.args.words.now) _ _ (asked_clear asked plain) (lent _ c.deref.result.now _ c.deref.ensures.value c.in_ok-spelled.ensures) line
    c.from_residual-in_err-matches.result c.in_err-matches.field-0.0 c.from_residual-in_err-matches.ensures.1 c.in_err-matches.ensures.faults

pub returns-in_err-plan-clause-gives : goal.returns-in_err-plan-clause-gives
returns-in_err-plan-clause-gives c asked line plain = only_memory (IsAsked asked) c.from_residual-in_err-plan.result c.from_residual-in_err-plan.ensures.1

pub returns-in-Some-clause-gives : goal.returns-in-Some-clause-gives
returns-in-Some-clause-gives c asked line plain =
    clear_plan PlansFound _ (map string_bytes c.args.words.now) _ _ (asked_clear asked plain) (lent _ c.deref.result.now _ c.deref.ensures.value c.in_ok-spelled.ensures) line
    _ c.in-Some.plan c.in_ok-matches.ensures.rows (subst (λ o. PlansFound (subcommand_rows_of c.in_ok-matches.matches) o) c.in-Some.is c.in_ok-plan.ensures)

pub returns-clause-gives : goal.returns-clause-gives
returns-clause-gives c asked line plain = absurd
    (clear_none PlansFound _ (map string_bytes c.args.words.now) _ _ (asked_clear asked plain) (lent _ c.deref.result.now _ c.deref.ensures.value c.in_ok-spelled.ensures) line
    _ c.in_ok-matches.ensures.rows (subst (λ o. PlansFound (subcommand_rows_of c.in_ok-matches.matches) o) c.in-None.is c.in_ok-plan.ensures))

-- memory was refused
memory_only : (words : List Text) (r : Result Plan Error) → IsErrAnd r (λ e. kind_of e ≡ kind.OutOfMemory) → IfErr r (IsUnplanned words)
memory_only words (Ok plan) is = tt
memory_only words (Err e) is = inl (inl is)

-- the error was handed on
refused_so : (words : List Text) (r : Result Plan Error) (e : Error) → IsErrAnd r (λ x. x ≡ e) → IsUnplanned words e → IfErr r (IsUnplanned words)
refused_so words (Ok plan) e is has = tt
refused_so words (Err x) e is has = subst (IsUnplanned words) (sym is) has

pub returns-in_err-spelled-clause-refuses : goal.returns-in_err-spelled-clause-refuses
returns-in_err-spelled-clause-refuses c = memory_only _ c.from_residual.result c.from_residual.ensures.1

pub returns-in_err-matches-clause-refuses : goal.returns-in_err-matches-clause-refuses
returns-in_err-matches-clause-refuses c =
    let same = lent _ c.deref.result.now _ c.deref.ensures.value c.in_ok-spelled.ensures in
    let e = c.in_err-matches.field-0.0 in
    refused_so _ c.from_residual-in_err-matches.result e c.from_residual-in_err-matches.ensures.1
    (inl (subst (λ ws. HasKind (fault_of camr_command ws) e) same c.in_err-matches.ensures.faults))

pub returns-in_err-plan-clause-refuses : goal.returns-in_err-plan-clause-refuses
returns-in_err-plan-clause-refuses c = memory_only _ c.from_residual-in_err-plan.result c.from_residual-in_err-plan.ensures.1

pub returns-clause-refuses : goal.returns-clause-refuses
returns-clause-refuses c =
    let same = lent _ c.deref.result.now _ c.deref.ensures.value c.in_ok-spelled.ensures in
    inr (
      subst (λ ws. fault_of camr_command ws ≡ []) same c.in_ok-matches.ensures.faults,
      c.no_plan.ensures,
      found_so _ _ _ None same c.in_ok-matches.ensures.rows (subst (λ o. PlansFound (subcommand_rows_of c.in_ok-matches.matches) o) c.in-None.is c.in_ok-plan.ensures),
    )

pub returns-in-Some-clause-clear : goal.returns-in-Some-clause-clear
returns-in-Some-clause-clear c = subst (λ ws. fault_of camr_command ws ≡ []) (lent _ c.deref.result.now _ c.deref.ensures.value c.in_ok-spelled.ensures) c.in_ok-matches.ensures.faults
