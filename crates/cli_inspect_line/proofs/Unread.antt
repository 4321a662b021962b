-- A word that says nothing of what is read there.
use Rattle.std.proofs.Common.{◌≡◌, ◌∙◌, List, Option, None, Some, ap, sym}
use Rattle.std.specs.Prelude.{unwrap_or}
use Rattle.clap.specs.Words.{Row, Text, first_of}
use Rattle.cli_inspect_line.specs.FoundPlan.{Finds}

pub unread : {X : Type 0} (read : Text → Option X) (name word : Text) (rows : List Row) (o : Option X) → first_of name rows ≡ Some word → read word ≡ None
    → Finds read name rows o → ⊥
unread read name word rows None is none found = let bad : Some word ≡ None = sym is ∙ found in cc
unread read name word rows (Some x) is none found =
    let same : found.0 ≡ word = ap (λ (o : Option Text). unwrap_or o word) (sym found.1 ∙ is) in
    let bad : Some x ≡ None = sym found.2 ∙ (ap read same ∙ none) in cc
