-- What a slot holds after a call that asked the engine nothing: a succession that the text of a manifest was refused for, and what no device reports.
use Rattle.std.proofs.Common.{◌≡◌, ℕ, Option, Some, Result, Err, List, [], append-nil, subst, sym}
use Rattle.engine_carried.specs.declared.numbering.Numbering.{Numbering}
use Rattle.manifest.specs.declared.fault.ManifestFault.{ManifestFault}
use Rattle.host_metrics.proofs.Counting.{counts_none}
use Rattle.host_embedding.specs.Counting.{CountsRecords, is_same_beside}
use Rattle.host_embedding.specs.Results.{number_of}
use Rattle.host_embedding.specs.declared.call_result.CallResult.{CallResult}
use Rattle.host_embedding.specs.declared.call_result.CallResult.TheVariants.{Faulty}
use Rattle.host_embedding.specs.declared.hosted_engine.HostedEngine.{HostedEngine}
use Rattle.host_opening.specs.Opened.{Succeeds}
use Rattle.camr_c.specs.Exports.{EngineTurns, IsNumberOf}

pub refused : (held : Option HostedEngine) (old new : HostedEngine) (numbering : Numbering) (text : List ℕ) (fault : ManifestFault) (number : ℕ) → held ≡ Some old → number ≡ number_of Faulty → Succeeds numbering text (Err fault) old.engine new.engine → is_same_beside old new → (answer : Result CallResult ManifestFault) × IsNumberOf answer number × EngineTurns held (Some new) (λ before after. Succeeds numbering text answer before after)
refused held old new numbering text fault number is told succeeds beside = (
  Err fault,
  told,
  subst (λ (it : Option HostedEngine). EngineTurns it (Some new) (λ before after. Succeeds numbering text (Err fault) before after)) (sym is) (succeeds, beside),
)

-- nothing is counted
pub counts_nothing : (engine : HostedEngine) → CountsRecords engine engine
counts_nothing engine = record { more = []; history = sym (append-nil engine.engine.history); counts = counts_none engine.metrics }
