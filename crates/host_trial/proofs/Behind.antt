-- What follows an engine to which nothing happened.
use Rattle.std.proofs.Common.{◌≡◌, List, subst, sym}
use Rattle.world_calls.specs.declared.record.Record.{Record}
use Rattle.engine_core.specs.ByNumber.{IsBehind, NumberedState}

-- the same records
pub none_more : (old new : NumberedState) (before after : List Record) → IsBehind before old → new ≡ old → after ≡ before → IsBehind after new
none_more old new before after behind same is =
    subst (λ (rs : List Record). IsBehind rs new) (sym is) (subst (λ (e : NumberedState). IsBehind before e) (sym same) behind)
