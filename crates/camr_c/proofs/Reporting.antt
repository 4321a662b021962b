-- A call that takes a run further, with what the run has done with its CCB, as the slots of its host have it.
use Rattle.std.proofs.Common.{◌≡◌, ℕ, Bool, Option, Some}
use Rattle.host_embedding.specs.Calls.{IsAdvanced, IsDriven}
use Rattle.host_embedding.specs.Counting.{CountsRecords}
use Rattle.host_embedding.specs.Fates.{TellsFate, code_of, number_of as fate_number}
use Rattle.host_embedding.specs.Held.{is_same_run, out_of}
use Rattle.host_embedding.specs.Results.{number_of}
use Rattle.host_embedding.specs.declared.call_result.CallResult.{CallResult}
use Rattle.host_embedding.specs.declared.fates.Fate.{Fate}
use Rattle.host_embedding.specs.declared.hosted_engine.HostedEngine.{HostedEngine}
use Rattle.host_embedding.specs.declared.run_handle.RunHandle.{RunHandle}
use Rattle.camr_c.specs.Exports.{Did, EngineCounts, Reports, Turns}

pub advanced : (slot : Option HostedEngine) (place : Option RunHandle) (old new : HostedEngine) (was is : RunHandle) (its : CallResult) (number r0 : ℕ) (ended : Bool) (what : Fate) (fate code : ℕ) → slot ≡ Some old → place ≡ Some was
    → number ≡ number_of its → IsAdvanced its was.held is.held old.engine new.engine r0 ended → TellsFate its (out_of was.held) new.engine.history what → fate ≡ fate_number what → code ≡ code_of what
    → is_same_run was is → new.left ≡ old.left → CountsRecords old new
    → Did number (λ its. EngineCounts slot (Some new) (λ before after. Turns place (Some is) (λ was is.
    (IsAdvanced its was.held is.held before after r0 ended × Reports its (out_of was.held) after.history fate code) × is_same_run was is)))
advanced slot place old new was is its number r0 ended what fate code slot_is place_is number_is told tells fate_is code_is same left counts =
    rw (slot_is, place_is) (its, number_is, (((told, (what, tells, fate_is, code_is)), same), left, counts))

pub driven : (slot : Option HostedEngine) (place : Option RunHandle) (old new : HostedEngine) (was is : RunHandle) (its : CallResult) (number r0 : ℕ) (ended : Bool) (what : Fate) (fate code : ℕ) → slot ≡ Some old → place ≡ Some was
    → number ≡ number_of its → IsDriven its (out_of was.held) is.held old.engine new.engine r0 ended → TellsFate its (out_of was.held) new.engine.history what → fate ≡ fate_number what → code ≡ code_of what
    → is_same_run was is → new.left ≡ old.left → CountsRecords old new
    → Did number (λ its. EngineCounts slot (Some new) (λ before after. Turns place (Some is) (λ was is.
    (IsDriven its (out_of was.held) is.held before after r0 ended × Reports its (out_of was.held) after.history fate code) × is_same_run was is)))
driven slot place old new was is its number r0 ended what fate code slot_is place_is number_is told tells fate_is code_is same left counts =
    rw (slot_is, place_is) (its, number_is, (((told, (what, tells, fate_is, code_is)), same), left, counts))
