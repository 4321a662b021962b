-- An engine that follows another one in its host's handle.
use Rattle.std.proofs.Common.{◌≡◌, ◌≤◌, true, false, List, [], ◌∷◌, Some, None, length, refl, sym, ap, subst, ◌∙◌, arith}
use Rattle.std.specs.Prelude.{is_some}
use Rattle.std.proofs.lemmas.List.Elements.{All-weaker}
use Rattle.freeze_ledger.specs.declared.freeze.Freeze.{Freeze}
use Rattle.world_calls.specs.declared.carried_line.CarriedLine.{CarriedLine}
use Rattle.world.specs.Beginning.{IsCarriedFreeze}
use Rattle.world.specs.Refusals.{is_unknown}
use Rattle.world.specs.World.{LiveRun, Setup, World}
use Rattle.engine_beginning.specs.Lines.{lines_of}
use Rattle.engine_carried.proofs.Free.{left_begins}
use Rattle.engine_carried.specs.TakenOver.{Fits}
use Rattle.engine_carried.specs.declared.numbering.Numbering.{Numbering}
use Rattle.engine_core.specs.EngineState.{EngineState, IsRun}
use Rattle.engine_core.specs.Settings.{setup_over}
use Rattle.engine_succession.specs.Succession.{TakesOver}
use Rattle.host_embedding.specs.Beginning.{KnowsBeginning}
use Rattle.host_embedding.specs.Guests.{HasGuests}
use Rattle.host_embedding.specs.Succession.{IsRenewed, IsSucceeded, configuration}
use Rattle.host_embedding.specs.declared.call_result.CallResult.{CallResult}
use Rattle.host_embedding.specs.declared.call_result.CallResult.TheVariants.{DoesNotFit}

pub none_of : (list : List LiveRun) → length list ≤ 0 → list ≡ []
none_of [] few = refl
none_of (run ∷ list) few = absurd (omega (arith, few))

-- what an engine leaves fits its own configuration
pub fits_itself : (state : EngineState) → IsRun state → state.world.runs.list ≡ [] → Fits (configuration state) state.world
fits_itself state run none =
    let begins = left_begins state run none in
    record {
      ccbs = begins.limits.ccbs.queues;
      plain = begins.limits.ccbs.plain;
      freezes = All-weaker (IsCarriedFreeze state.setup) (λ (freeze : Freeze). is_unknown state.setup freeze.place ≡ false) (λ freeze is. is.place) state.world.transport.freezes begins.freezes;
    }

-- the handle of an engine that takes over a world
pub has_guests : (world : World) (config : Setup) (new : EngineState) (guests : List Freeze) (lines : List CarriedLine) → IsRun new → TakesOver world config new guests lines → HasGuests new guests
has_guests world config new guests lines run takes = subst (λ (it : EngineState). HasGuests it guests) (sym takes.engine_is)
    (record { run = subst IsRun takes.engine_is run; all = takes.guests_are })

-- the configuration of an engine, of itself
pub its_configuration : (state : EngineState) (config : Setup) → setup_over config state.setup.carried ≡ state.setup → config.carried ≡ None → config ≡ configuration state
its_configuration state config over alone =
    (λ i. record config { carried = alone i }) ∙ ap (λ (setup : Setup). setup_over setup None) over

some_same : (one other : World) → Some one ≡ Some other → one ≡ other
some_same one other e = cc

pub knows_beginning : (world : World) (config : Setup) (new : EngineState) (guests : List Freeze) (lines : List CarriedLine) → TakesOver world config new guests lines → KnowsBeginning new true lines
knows_beginning world config new guests lines takes = record {
  continued = ap (λ (it : EngineState). is_some it.setup.carried) (sym takes.engine_is);
  lines_are = λ fresh carried is.
      takes.lines_are ∙ ap lines_of (some_same world carried (ap (λ (it : EngineState). it.setup.carried) (sym takes.engine_is) ∙ is));
}

-- a succession with the configuration in force
pub renewed : (result : CallResult) (numbering : Numbering) (state : EngineState) (config : Setup) (new : EngineState) → IsRun state → state.world.runs.list ≡ [] → config ≡ configuration state
    → IsSucceeded result numbering state config new → IsRenewed result numbering state new
renewed result numbering state config new run none is succeeded =
    let its : IsSucceeded result numbering state (configuration state) new = subst (λ (setup : Setup). IsSucceeded result numbering state setup new) is succeeded in (
      its,
      λ told.
          let refused : IsSucceeded DoesNotFit numbering state (configuration state) new = subst (λ (r : CallResult). IsSucceeded r numbering state (configuration state) new) told its in
          refused.0.1 (fits_itself state run none),
    )
