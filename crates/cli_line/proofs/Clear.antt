-- Lines in which only memory can be refused: what follows for their plans.
use Rattle.std.proofs.Common.{◌≡◌, ◌∙◌, List, [], Option, None, Some, ap, inl, inr, map, subst}
use Rattle.std.specs.Prelude.{Result, Ok, Err, IsErrAnd}
use Rattle.clap.specs.Words.{HasKind, Row, Text, fault_of, kind_of, subcommand_of}
use Rattle.clap.specs.Kinds.{Kinds}
use Rattle.clap.specs.declared.error.Error.{Error}
use Rattle.clap.specs.declared.error.kind.ErrorKind.TheVariants as kind
use Rattle.cli_line.specs.RunCommand.{camr_command}
use Rattle.cli_line.specs.RunLine.{spelled_out}
use Rattle.cli_line.specs.UsageFault.{Gives}

-- `clap` refuses nothing of the line, a plan of these is found, and it is so
pub record IsClear {Plan : Type 0} (Found : Option (Text × List Row) → Option Plan → Type 0) (line : List Text) (P : Plan → Type 0) : Type 0 where
  pub out : map spelled_out line ≡ line
  pub faultless : fault_of camr_command line ≡ []
  pub plans : (plan : Plan) → Found (subcommand_of camr_command line) (Some plan) → P plan
  pub some : Found (subcommand_of camr_command line) None → ⊥

-- memory was refused
pub no_memory : {Plan : Type 0} (P : Plan → Type 0) (r : Result Plan Error) → IsErrAnd r (λ e. kind_of e ≡ kind.OutOfMemory) → Gives P r
no_memory P (Ok plan) is = absurd is
no_memory P (Err e) is = is

only_memory : (e : Error) → HasKind [] e → kind_of e ≡ kind.OutOfMemory
only_memory e (inl memory) = memory
only_memory e (inr bad) = absurd bad

handed_on : {Plan : Type 0} (P : Plan → Type 0) (r : Result Plan Error) (e : Error) → IsErrAnd r (λ x. x ≡ e) → kind_of e ≡ kind.OutOfMemory → Gives P r
handed_on P (Ok plan) e is memory = absurd is
handed_on P (Err x) e is memory = ap kind_of is ∙ memory

module _ {Plan : Type 0} (Found : Option (Text × List Row) → Option Plan → Type 0)
    (read words line : List Text) (P : Plan → Type 0) (clear : IsClear Found line P) (spelled : read ≡ map spelled_out words) (is : words ≡ line) where
  same : read ≡ line
  same = spelled ∙ (ap (map spelled_out) is ∙ clear.out)

  -- `clap` handed its fault on
  pub clear_fault : (r : Result Plan Error) (e : Error) → IsErrAnd r (λ x. x ≡ e) → HasKind (fault_of camr_command read) e → Gives P r
  clear_fault r e handed has = handed_on P r e handed (only_memory e (subst (λ (ks : Kinds). HasKind ks e) (ap (fault_of camr_command) same ∙ clear.faultless) has))

  found_there : (rows : Option (Text × List Row)) (planned : Option Plan) → rows ≡ subcommand_of camr_command read → Found rows planned → Found (subcommand_of camr_command line) planned
  found_there rows planned rows_are found = subst (λ (f : Option (Text × List Row)). Found f planned) (rows_are ∙ ap (subcommand_of camr_command) same) found

  -- a plan was found
  pub clear_plan : (rows : Option (Text × List Row)) (plan : Plan) → rows ≡ subcommand_of camr_command read → Found rows (Some plan) → P plan
  clear_plan rows plan rows_are found = clear.plans plan (found_there rows (Some plan) rows_are found)

  -- none was, which cannot be
  pub clear_none : (rows : Option (Text × List Row)) → rows ≡ subcommand_of camr_command read → Found rows None → ⊥
  clear_none rows rows_are found = clear.some (found_there rows None rows_are found)
