use Rattle.std.proofs.Common.{◌∙◌, ap, length, map, ℕ, List}
use Rattle.std.proofs.lemmas.Result.{IfOk-weaker}
use Rattle.table_store.proofs.Firsts.{lengths_with}
use Rattle.host_decision.proofs.opening_words.first_tables.Goals as goal

pub returns-clause-lengths : goal.returns-clause-lengths
returns-clause-lengths c =
    IfOk-weaker c.with_words.result _ _
    (λ tables is. ap (λ (ts : List (List ℕ)). map (λ (table : List ℕ). length table) ts) is ∙ (lengths_with _ _ ∙ c.table_lengths.ensures)) c.with_words.ensures
