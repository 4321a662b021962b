-- The tokens of all guests' freezes: what is no guest's call leaves them as they are.
use Rattle.std.proofs.Common.{◌≡◌, ℕ, ◌+◌, List, [], ◌∷◌, ◌++◌, None, IsSome, Contains, inl, inr, refl, ap, sym, subst, ◌∙◌, arith}
use Rattle.std.specs.List.{insert}
use Rattle.freeze_ledger.specs.declared.freeze.Holder.TheVariants.{Guest}
use Rattle.ccb.specs.declared.place.Place.{Place}
use Rattle.freeze_ledger.specs.declared.freeze.Freeze.{Freeze}
use Rattle.freeze_ledger.specs.Freezes.{entry_of, without}
use Rattle.world_calls.specs.declared.call.Call.{Call}
use Rattle.world_calls.specs.declared.call.Call.TheVariants.{GuestFreeze, GuestRelease}
use Rattle.world_calls.specs.declared.call_answer.CallAnswer.{CallAnswer}
use Rattle.world_calls.specs.declared.call_answer.CallAnswer.TheVariants as answers
use Rattle.ccb.specs.declared.call_refusal.CallRefusal.{CallRefusal}
use Rattle.world_calls.specs.declared.record.Record.{Record}
use Rattle.world_calls.specs.declared.record.Record.TheVariants.{Called, Advance}
use Rattle.world_calls.specs.declared.record.StoppedAt.{StoppedAt}
use Rattle.world.specs.World.{Setup, World, beginning}
use Rattle.world.specs.Lawful.{IsLawful}
use Rattle.world.specs.WorldRun.{WorldRun}
use Rattle.world.specs.Event.{Event, Reply, called, refused, replies}
use Rattle.world.specs.FreezeSteps.{froze, is_guest}
use Rattle.world.specs.Refusals.{refusals_of}
use Rattle.world.specs.Step.{WorldStep}
use Rattle.world.specs.Flat.{events_of, flat}
use Rattle.world.proofs.Lists.Entries.{freeze_key}
use Rattle.world.proofs.Lists.Rising.{missing_high}
use Rattle.world.proofs.Steps.Moves.{KeepsLists}
use Rattle.world_laws.proofs.Leads.{leads_append, lists_are_kept}
use Rattle.world_laws.proofs.Steps.Cases.{guest_release_parts}
use Rattle.world_laws.proofs.Steps.Refusing.{by_refusals}
use Rattle.world_laws.proofs.Steps.Running.{some_is}
use Rattle.engine_core.specs.declared.answers.CallFault.{CallFault}
use Rattle.engine_core.specs.declared.answers.CallFault.TheVariants.{OutOfMemory, Refused}
use Rattle.engine_core.specs.declared.answers.ReleaseFault.{ReleaseFault}
use Rattle.engine_core.specs.declared.answers.ReleaseFault.TheVariants.{NotHeld, OutOfMemory as release_memory}
use Rattle.engine_core.specs.Faults.{FaultIs, HoldsUnlessTold}
use Rattle.engine_core.specs.EngineState.{EngineState, IsRun, Records, GuestHolds}
use Rattle.engine_core.specs.ByNumber.{AreTokens, guests_of}
use Rattle.engine_core.proofs.Guests.{AreOthers, IsOthers, guests_stay, advance_is_others, guest_among, guest_entered, guest_left, tokens_rise}
use Rattle.engine_core.proofs.Holding.{its_entry}
use Rattle.engine_core.proofs.Recording.{flat_push}
use Rattle.host_embedding.specs.declared.call_result.CallResult.{CallResult}
use Rattle.host_embedding.specs.Calls.{IsReleased}
use Rattle.host_embedding.specs.Guests.{HasGuests}
use Rattle.host_embedding.specs.Results.{released_result}

lists : (state : EngineState) → IsRun state → KeepsLists state.setup state.world
lists state run = lists_are_kept state.setup (flat state.history) state.world run.run

-- an engine with one record more is the run of its history
run_more : (old new : EngineState) (told : Record) → IsRun old → Records old new told → IsRun new
run_more old new told is records =
    let run : WorldRun old.setup (flat new.history) new.world =
    subst (λ (xs : List (Event × Reply)). WorldRun old.setup xs new.world) (sym (ap flat records.history ∙ flat_push old.history told))
    (is.run.0, leads_append old.setup (beginning old.setup) (flat old.history) (events_of told) old.world new.world is.run.1 records.step) in
    record { lawful = subst IsLawful (sym records.setup) is.lawful; run = subst (λ (s : Setup). WorldRun s (flat new.history) new.world) (sym records.setup) run }

pub begins : (state : EngineState) (tokens : List Freeze) → IsRun state → guests_of state.world.transport.freezes ≡ [] → tokens ≡ [] → HasGuests state tokens
begins state tokens run none empty = record { run = run; all = empty ∙ sym none }

pub same : (old new : EngineState) (tokens : List Freeze) → HasGuests old tokens → new ≡ old → HasGuests new tokens
same old new tokens has e = subst (λ (it : EngineState). HasGuests it tokens) (sym e) has

others_stay : (old new : EngineState) (told : Record) (tokens : List Freeze) → HasGuests old tokens → AreOthers (events_of told) → Records old new told → IsRun new → HasGuests new tokens
others_stay old new told tokens has others records run = record {
  run = run;
  all = has.all ∙ sym (guests_stay old.setup old.world (events_of told) new.world (lists old has.run) others records.step);
}

-- a call that is no guest's
pub stay : (old new : EngineState) (answer : CallAnswer) (its : Call) (tokens : List Freeze) → HasGuests old tokens → IsOthers (called its) → Records old new (Called answer its) → IsRun new → HasGuests new tokens
stay old new answer its tokens has others records run = others_stay old new (Called answer its) tokens has (others, tt) records run

-- an advance
pub stay_advanced : (old new : EngineState) (run instructions : ℕ) (stop : StoppedAt) (r0 : ℕ) (tokens : List Freeze) → HasGuests old tokens → Records old new (Advance run instructions stop r0) → IsRun new → HasGuests new tokens
stay_advanced old new run instructions stop r0 tokens has records is = others_stay old new (Advance run instructions stop r0) tokens has (advance_is_others run instructions stop r0) records is

-- whose engine is the run of its history again
pub stays_advanced : (old new : EngineState) (run instructions : ℕ) (stop : StoppedAt) (r0 : ℕ) (tokens : List Freeze) → HasGuests old tokens → Records old new (Advance run instructions stop r0) → HasGuests new tokens
stays_advanced old new run instructions stop r0 tokens has records = stay_advanced old new run instructions stop r0 tokens has records (run_more old new (Advance run instructions stop r0) has.run records)

-- a call that was not carried out
pub stay_faulted : (old new : EngineState) (fault : CallFault) (its : Call) (tokens : List Freeze) → HasGuests old tokens → IsOthers (called its) → FaultIs fault (new ≡ old) (λ (refusal : CallRefusal). Records old new (Called (answers.Refused refusal) its)) → IsRun new → HasGuests new tokens
stay_faulted old new OutOfMemory its tokens has others e run = same old new tokens has e
stay_faulted old new (Refused refusal) its tokens has others records run = stay old new (answers.Refused refusal) its tokens has others records run

-- a guest's freeze that is not refused has the next number
freeze_step : (setup : Setup) (before after : World) (place : Place) (guest number : ℕ) → WorldStep setup before (called (GuestFreeze place guest)) (replies (answers.Freeze number)) after
    → (number ≡ before.transport.greatest_freeze + 1) × (after ≡ froze before place (Guest guest))
freeze_step setup before after place guest number e =
    elim (by_refusals (refusals_of setup before (GuestFreeze place guest)) before _ (replies (answers.Freeze number)) after e) [
      | inl it ↦ absurd (let bad : replies (answers.Freeze number) ≡ refused it.refusal = ap (λ (x : Reply × World). x.0) it.is in cc)
      | inr goes ↦
          let last = some_is _ _ goes.1 in
          let told : replies (answers.Freeze number) ≡ replies (answers.Freeze (before.transport.greatest_freeze + 1)) = ap (λ (x : Reply × World). x.0) last in
          (cc, ap (λ (x : Reply × World). x.1) last)
    ]

-- one that is refused changes nothing
refused_step : (setup : Setup) (before after : World) (place : Place) (guest : ℕ) (refusal : CallRefusal) → WorldStep setup before (called (GuestFreeze place guest)) (refused refusal) after → after ≡ before
refused_step setup before after place guest refusal e =
    elim (by_refusals (refusals_of setup before (GuestFreeze place guest)) before _ (refused refusal) after e) [
      | inl it ↦ ap (λ (x : Reply × World). x.1) it.is
      | inr goes ↦ absurd (let bad : refused refusal ≡ replies (answers.Freeze (before.transport.greatest_freeze + 1)) = ap (λ (x : Reply × World). x.0) (some_is _ _ goes.1) in cc)
    ]

pub stay_unfrozen : (old new : EngineState) (fault : CallFault) (place : Place) (guest : ℕ) (tokens : List Freeze) → HasGuests old tokens → FaultIs fault (new ≡ old) (λ (refusal : CallRefusal). Records old new (Called (answers.Refused refusal) (GuestFreeze place guest))) → IsRun new → HasGuests new tokens
stay_unfrozen old new OutOfMemory place guest tokens has e run = same old new tokens has e
stay_unfrozen old new (Refused refusal) place guest tokens has records run = record {
  run = run;
  all = has.all ∙ ap (λ (w : World). guests_of w.transport.freezes) (sym (sym records.step.2 ∙ refused_step old.setup old.world records.step.0 place guest refusal records.step.1));
}

-- no freeze has it
pub is_fresh : (old new : EngineState) (tokens : List Freeze) (place : Place) (guest number : ℕ) → HasGuests old tokens → Records old new (Called (answers.Freeze number) (GuestFreeze place guest)) → entry_of number old.world.transport.freezes ≡ None
is_fresh old new tokens place guest number has records =
    let next = (freeze_step old.setup old.world records.step.0 place guest number records.step.1).0 in
    missing_high freeze_key 0 old.world.transport.freezes old.world.transport.greatest_freeze number (omega (arith, next)) (lists old has.run).freezes.numbered

-- its token comes last
pub frozen : (old new : EngineState) (tokens later : List Freeze) (token : Freeze) (place : Place) (guest : ℕ) → HasGuests old tokens → Records old new (Called (answers.Freeze token.number) (GuestFreeze place guest))
    → token.place ≡ place → token.holder ≡ Guest guest → IsRun new → later ≡ tokens ++ token ∷ [] → HasGuests new later
frozen old new tokens later token place guest has records placed held run more =
    let step = freeze_step old.setup old.world records.step.0 place guest token.number records.step.1 in
    let freezes : List Freeze = old.world.transport.freezes in
    let entry : Freeze = record { number = old.world.transport.greatest_freeze + 1; place = place; holder = Guest guest } in
    let is : entry ≡ token = λ i. record { number = sym step.0 i; place = sym placed i; holder = sym held i } in
    let entered : new.world.transport.freezes ≡ freezes ++ token ∷ [] =
    ap (λ (w : World). w.transport.freezes) (sym records.step.2 ∙ step.1) ∙ ap (λ (f : Freeze). freezes ++ f ∷ []) is in
    record {
      run = run;
      all = more ∙ (ap (λ (its : List Freeze). its ++ token ∷ []) has.all ∙ (sym (guest_entered freezes token (ap is_guest held)) ∙ ap guests_of (sym entered)));
    }

-- the numbers of the tokens rise
pub rise : (state : EngineState) (tokens : List Freeze) → HasGuests state tokens → AreTokens tokens
rise state tokens has = subst AreTokens (sym has.all) (tokens_rise state.world.transport.freezes state.world.transport.greatest_freeze (lists state has.run).freezes.numbered)

-- a freeze that is given back takes its token along
pub released : (old new : EngineState) (tokens later : List Freeze) (count freeze : ℕ) → HasGuests old tokens → Records old new (Called (answers.Left count) (GuestRelease freeze)) → IsRun new → later ≡ without freeze tokens → HasGuests new later
released old new tokens later count freeze has records run fewer =
    let it = guest_release_parts old.setup old.world freeze (replies (answers.Left count)) records.step.0 records.step.1 in
    let freezes : List Freeze = old.world.transport.freezes in
    let e : called (GuestRelease freeze) ≡ called (GuestRelease it.number) = it.event_is in
    let same : it.number ≡ freeze = cc in
    let left : new.world.transport.freezes ≡ without freeze freezes =
    ap (λ (w : World). w.transport.freezes) (sym records.step.2 ∙ it.after_is) ∙ ap (λ (n : ℕ). without n freezes) same in
    record { run = run; all = fewer ∙ (ap (without freeze) has.all ∙ (sym (guest_left freeze freezes) ∙ ap guests_of (sym left))) }

-- one that is put back stands where it was
pub put_back : (old new : EngineState) (tokens fewer later : List Freeze) (place : ℕ) (token back : Freeze) → HasGuests old tokens → insert fewer place token ≡ tokens → back ≡ token → later ≡ insert fewer place back → new ≡ old → HasGuests new later
put_back old new tokens fewer later place token back has was same_token is e =
    subst (HasGuests new) (sym (is ∙ (ap (insert fewer place) same_token ∙ was))) (same old new tokens has e)

-- a token is a guest's freeze, which is found by its number
pub its_guest : (state : EngineState) (tokens : List Freeze) (token : Freeze) → HasGuests state tokens → Contains tokens token → GuestHolds state.world token
its_guest state tokens token has there = guest_among state.world.transport.freezes token (subst (λ (its : List Freeze). Contains its token) has.all there)

pub its_number : (state : EngineState) (tokens : List Freeze) (token : Freeze) (freeze : ℕ) → HasGuests state tokens → Contains tokens token → token.number ≡ freeze → IsSome (entry_of freeze (guests_of state.world.transport.freezes))
its_number state tokens token freeze has there named =
    let guests : List Freeze = guests_of state.world.transport.freezes in
    let rising = tokens_rise state.world.transport.freezes state.world.transport.greatest_freeze (lists state has.run).freezes.numbered in
    let found = its_entry guests rising.0 token rising.1 (subst (λ (its : List Freeze). Contains its token) has.all there) in
    subst IsSome (sym (ap (λ (n : ℕ). entry_of n guests) (sym named) ∙ found)) refl

pub no_number : (state : EngineState) (tokens : List Freeze) (freeze : ℕ) → HasGuests state tokens → entry_of freeze tokens ≡ None → entry_of freeze (guests_of state.world.transport.freezes) ≡ None
no_number state tokens freeze has none = subst (λ (its : List Freeze). entry_of freeze its ≡ None) has.all none

-- a release that is not carried out: no token is one of a freeze that is not held
pub not_released : (old new : EngineState) (tokens : List Freeze) (token : Freeze) (freeze left : ℕ) (fault : ReleaseFault) (result : CallResult) → HasGuests old tokens → Contains tokens token → token.number ≡ freeze
    → HoldsUnlessTold fault (GuestHolds old.world token) → new ≡ old → result ≡ released_result fault → IsReleased result old new left freeze
not_released old new tokens token freeze left release_memory result has there named held e is = rw is (e, its_number old tokens token freeze has there named)
not_released old new tokens token freeze left NotHeld result has there named held e is = absurd (held (its_guest old tokens token has there))
