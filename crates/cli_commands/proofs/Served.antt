-- What went out of a scenario's run.
use Rattle.std.proofs.Common.{◌∙◌, ℕ, List, Option, None, Some, refl}
use Rattle.std.specs.Io.KnownBytes.{Appends, Keeps}
use Rattle.std.specs.Prelude.{Result, Ok, Err, IfOk}
use Rattle.cli_commands.specs.Told.{IsPrinted}
use Rattle.world_calls.specs.declared.trace.Trace.{Trace}

pub keeps_same : (bytes : Option (List ℕ)) → Keeps bytes bytes
keeps_same None = tt
keeps_same (Some bytes) = refl

appends_kept : (old between new : Option (List ℕ)) (text : List ℕ) → Appends old between text → Keeps between new → Appends old new text
appends_kept None between new text appends keeps = tt
appends_kept (Some xs) None new text appends keeps = absurd appends
appends_kept (Some xs) (Some ys) None text appends keeps = absurd keeps
appends_kept (Some xs) (Some ys) (Some zs) text appends keeps = keeps ∙ appends

-- what was printed is out, also if nothing but a flush came after it
pub flushed : {T E : Type 0} (trace : Trace) (old between new : Option (List ℕ)) (r : Result T E) → IsPrinted trace old between → Keeps between new → IfOk r (λ _. IsPrinted trace old new)
flushed trace old between new (Ok done) printed keeps = (printed.0, printed.1, appends_kept old between new printed.0 printed.2 keeps)
flushed trace old between new (Err error) printed keeps = tt
