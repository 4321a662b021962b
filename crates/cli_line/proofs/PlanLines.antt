-- What follows for the plan of a line that asks for a run.
use Rattle.std.proofs.Common.{◌≡◌, ◌⊎◌, ◌∙◌, List, [], ◌∷◌, Bool, Option, Some, None, true, false, inl, inr, refl, sym, subst, ap, codes}
use Rattle.std.specs.Prelude.{if◌then◌else◌, unwrap_or}
use Rattle.clap.specs.Words.{HasKind, Row, Text, fault_of, first_of, kind_of, subcommand_of}
use Rattle.clap.specs.ValueTests.{accepts}
use Rattle.clap.specs.declared.error.Error.{Error}
use Rattle.clap.specs.declared.error.kind.ErrorKind.TheVariants as kind
use Rattle.cli_line.specs.FoundPlan.{HasFound, HasFoundBehind, HasFoundIn, PlansFound}
use Rattle.cli_line.specs.RunCommand.{camr_command}
use Rattle.cli_line.specs.RunLine.{IsPlain, IsRun, RunLine, SpellsNoLawfulNumber}
use Rattle.cli_line.specs.declared.plans.Plan.{Plan}
use Rattle.cli_line.specs.declared.plans.Watch.TheVariants.{Never}
use Rattle.cli_line.specs.declared.plans.Plan.TheVariants.{Asm, Migrate, Dis, Check, Run, Strict, Live, Journal, Audit, Replay}
use Rattle.cli_line.proofs.Numbers.{refused_number}
use Rattle.cli_line.proofs.Planned.{apart, not_given}
use Rattle.cli_line.proofs.Readings.{line_reading, one_to_sixteen}

module _ (words : List Text) (number manifest scenario : Text) (line : RunLine words number manifest scenario)
    (plain_n : IsPlain number) (plain_m : IsPlain manifest) (plain_s : IsPlain scenario) where
  abbrev passes : Bool
  passes = accepts false one_to_sixteen number

  pub line_plan : (plan : Plan) → HasFound (subcommand_of camr_command words) plan → IsRun number (codes "never") manifest scenario plan
  line_plan plan found =
      let read = line_reading words number manifest scenario line plain_n plain_m plain_s in
      let here : HasFound (Some (codes "run", read.rows)) plan = subst (λ f. HasFound f plan) read.enters found in
      go plan read.rows (run_found plan read.rows read.says.strict_is here) read.says.workers read.says.watch_is read.says.manifest_is read.says.scenario_is
    where
      run_found : (plan : Plan) (rows : List Row) → first_of (codes "strict") rows ≡ Some (codes "false") → HasFoundBehind (codes "run") rows plan → HasFoundIn IsRun rows plan
      run_found (Run workers watch a b) rows loose found = found.2
      run_found (Strict workers watch a b) rows loose found = absurd (not_given loose found.1)
      run_found (Asm text program) rows loose found = absurd (apart (codes "run") (codes "asm") refl found.0)
      run_found (Migrate to manifest migrated) rows loose found = absurd (apart (codes "run") (codes "migrate") refl found.0)
      run_found (Dis program) rows loose found = absurd (apart (codes "run") (codes "dis") refl found.0)
      run_found (Check path) rows loose found = absurd (apart (codes "run") (codes "check") refl found.0)
      run_found (Live manner manifest) rows loose found = absurd (apart (codes "run") (codes "live") refl found.0)
      run_found (Journal manner is_synced folder manifest) rows loose found = absurd (apart (codes "run") (codes "live") refl found.0)
      run_found (Audit folder) rows loose found = absurd (apart (codes "run") (codes "audit") refl found.0)
      run_found (Replay manifest trace) rows loose found = absurd (apart (codes "run") (codes "replay") refl found.0)

      go : (plan : Plan) (rows : List Row) → HasFoundIn IsRun rows plan → first_of (codes "workers") rows ≡ Some number → first_of (codes "watch") rows ≡ Some (codes "never")
          → first_of (codes "MANIFEST") rows ≡ Some manifest → first_of (codes "SCENARIO") rows ≡ Some scenario → IsRun number (codes "never") manifest scenario plan
      go plan rows found w t m s =
          let some : (a b : Text) (o : Option Text) → o ≡ Some a → o ≡ Some b → a ≡ b = λ a b o p q. ap (λ (x : Option Text). unwrap_or x a) (sym p ∙ q) in
          subst (λ x. IsRun number (codes "never") manifest x plan) (some found.scenario scenario _ found.scenario_found s)
          (subst (λ x. IsRun number (codes "never") x found.scenario plan) (some found.manifest manifest _ found.manifest_found m)
          (subst (λ x. IsRun number x found.manifest found.scenario plan) (some found.when (codes "never") _ found.watch_found t)
          (subst (λ x. IsRun x found.when found.manifest found.scenario plan) (some found.number number _ found.workers_found w) found.same)))

  pub line_refuses : PlansFound (subcommand_of camr_command words) None → SpellsNoLawfulNumber number
  line_refuses nothing =
      let read = line_reading words number manifest scenario line plain_n plain_m plain_s in
      nothing (codes "run") read.rows read.enters number manifest scenario Never read.says.workers read.says.watch_is read.says.manifest_is read.says.scenario_is

  pub line_fault : (e : Error) → HasKind (fault_of camr_command words) e
      → (kind_of e ≡ kind.OutOfMemory) ⊎ ((kind_of e ≡ kind.ValueValidation) × SpellsNoLawfulNumber number)
  line_fault e has =
      let read = line_reading words number manifest scenario line plain_n plain_m plain_s in
      go passes refl (subst (λ ks. HasKind ks e) read.faults has)
    where
      go : (b : Bool) → passes ≡ b → HasKind (if b then [] else kind.ValueValidation ∷ []) e
          → (kind_of e ≡ kind.OutOfMemory) ⊎ ((kind_of e ≡ kind.ValueValidation) × SpellsNoLawfulNumber number)
      go true is h = elim h [ inl memory ↦ inl memory | inr bad ↦ absurd bad ]
      go false is h = elim h [
        | inl memory ↦ inl memory
        | inr (inl kind_is) ↦ inr (kind_is, refused_number number plain_n is)
        | inr (inr bad) ↦ absurd bad
      ]
