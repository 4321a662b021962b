-- From what `clap` found after `explain` to the plan.
use Rattle.std.proofs.Common.{◌≡◌, ◌∙◌, List, None, Some, ap, codes, refl, sym}
use Rattle.clap.specs.Words.{Row, Text, first_of}
use Rattle.explain_codes.specs.Names.{code_named}
use Rattle.cli_inspect_line.specs.FoundPlan.{HasFoundBehind, IsOfFiles, IsOfWord}
use Rattle.cli_inspect_line.specs.declared.plans.Plan.{Plan}
use Rattle.cli_inspect_line.specs.declared.plans.Plan.TheVariants.{ExplainCode, Explain, ExplainFile, Show, Summarise, Draw, Decide, Try}

pub word_behind : (rows : List Row) (word : Text) (plan : Plan) → first_of (codes "WORD") rows ≡ Some word → first_of (codes "FILE") rows ≡ None
    → IsOfWord word plan → HasFoundBehind (codes "explain") rows plan
word_behind rows word (ExplainCode code) is none of = (refl, (word, is, of), none)
word_behind rows word (Explain path) is none of = (refl, is ∙ ap Some (sym of.0), ap code_named of.0 ∙ of.1, none)
word_behind rows word (ExplainFile a b) is none of = absurd of
word_behind rows word (Show form filter a b) is none of = absurd of
word_behind rows word (Summarise form a b) is none of = absurd of
word_behind rows word (Draw d a b c) is none of = absurd of
word_behind rows word (Decide extent question a) is none of = absurd of
word_behind rows word (Try seed trace a b) is none of = absurd of

pub files_behind : (rows : List Row) (manifest file : Text) (plan : Plan) → first_of (codes "WORD") rows ≡ Some manifest → first_of (codes "FILE") rows ≡ Some file
    → IsOfFiles manifest file plan → HasFoundBehind (codes "explain") rows plan
files_behind rows manifest file (ExplainCode code) is also of = absurd of
files_behind rows manifest file (Explain path) is also of = absurd of
files_behind rows manifest file (ExplainFile a b) is also of = (refl, is ∙ ap Some (sym of.0), also ∙ ap Some (sym of.1))
files_behind rows manifest file (Show form filter a b) is also of = absurd of
files_behind rows manifest file (Summarise form a b) is also of = absurd of
files_behind rows manifest file (Draw d a b c) is also of = absurd of
files_behind rows manifest file (Decide extent question a) is also of = absurd of
files_behind rows manifest file (Try seed trace a b) is also of = absurd of
