-- What follows from what `clap` found after `show`.
use Rattle.std.proofs.Common.{◌≡◌, ◌∙◌, List, None, Option, Some, codes, inl, inr, subst, sym}
use Rattle.clap.specs.Words.{Row, Text, first_of}
use Rattle.cli_inspect_line.specs.FoundPlan.{AsksOne, HasFilter, Suffices}
use Rattle.cli_inspect_line.proofs.AskedRows.{same_filter}
use Rattle.show_events.specs.declared.filter.Filter.{Filter}

clash : (o : Option Text) (word : Text) → o ≡ Some word → o ≡ None → ⊥
clash o word some none = let bad : Some word ≡ None = sym some ∙ none in cc

-- two drawings are no one thing that is asked for
pub both_drawn : (rows : List Row) (filter : Filter) (svg perfetto : Text) → first_of (codes "svg") rows ≡ Some svg → first_of (codes "perfetto") rows ≡ Some perfetto
    → HasFilter rows filter → Suffices (codes "show") rows → ⊥
both_drawn rows filter svg perfetto one other found makes =
    let asks : AsksOne rows filter = subst (λ (f : Filter). AsksOne rows f) (sym (same_filter rows filter makes.1.0 found makes.1.2)) makes.1.3 in
    elim asks [
      | inl account ↦ clash (first_of (codes "svg") rows) svg one account.1.0
      | inr all ↦ elim all.3 [
        | inl none ↦ clash (first_of (codes "svg") rows) svg one none
        | inr none ↦ clash (first_of (codes "perfetto") rows) perfetto other none
      ]
    ]
