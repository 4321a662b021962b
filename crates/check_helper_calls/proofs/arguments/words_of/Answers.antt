use Rattle.std.proofs.Common.{◌≡◌, ℕ, None, Some, ap, sym, ◌∙◌}
use Rattle.std.specs.Prelude.{slice_index_or}
use Rattle.check_helper_calls.proofs.arguments.words_of.Goals as goal

pub returns-in-Some-clause-known : goal.returns-in-Some-clause-known
returns-in-Some-clause-known c = λ number known.
    let both : Some c.in-Some.number ≡ Some number = sym c.in-Some.is ∙ c.known.ensures.known number known in
    let same : c.in-Some.number ≡ number = cc in
    c.length_of.ensures ∙ ap (λ (n : ℕ). slice_index_or c.args.lengths.now n 0) same

pub returns-in-None-clause-known : goal.returns-in-None-clause-known
returns-in-None-clause-known c = λ number known. let bad : None ≡ Some number = sym c.in-None.is ∙ c.known.ensures.known number known in absurd cc
