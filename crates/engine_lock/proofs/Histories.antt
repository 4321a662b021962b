-- The shared history, some records longer.
use Rattle.std.proofs.Common.{◌≡◌, ℕ, true, false, Option, Some, List, [], ◌∷◌, ◌++◌, length, drop, refl, ap, sym, subst, ◌∙◌}
use Rattle.std.specs.Prelude.{MatchOption}
use Rattle.world_calls.specs.declared.record.Record.{Record}
use Rattle.monitor.specs.declared.knowledge.Pair.{Pair}
use Rattle.monitor.specs.LegalHistory.{LegalHistory, StartsWith, records, unshared}
use Rattle.monitor.specs.Telling.{CallerState, Joins, KeeperState, Looks, new_caller, new_watch}
use Rattle.world.specs.World.{Setup}
use Rattle.world.specs.WorldRun.{WorldRun}
use Rattle.world.specs.Flat.{flat}
use Rattle.engine_core.specs.EngineState.{EngineState, Records}
use Rattle.engine_core.specs.declared.event.Event.{Event}
use Rattle.engine_core.specs.declared.reply.Reply.{Reply}
use Rattle.engine_core.specs.declared.reply.Reply.TheVariants.{Success, Refused, NotAdmitted, OutOfMemory}
use Rattle.engine_core.specs.Replies.{ReplyMatchesEvent, GivesAsRecorded, IsRecorded, ToldFit, is_recorded, record_of}
use Rattle.engine_lock.specs.Publishing.{beyond}
use Rattle.engine_lock.specs.Sharing.{Answers, IsNewCaller, IsNewWatch, IsSince, Section, Tells, TellsUnrecorded, is_unfit}
use Rattle.engine_lock.proofs.Since.{HasRecord, has_record}

-- what was made is beyond what is known
dropped : (known : List Pair) (made : List Record) → drop (length known) (records known ++ made) ≡ made
dropped [] made = refl
dropped (p ∷ ps) made = dropped ps made

pub beyond_is : (known : List Pair) (whole made : List Record) → whole ≡ records known ++ made → beyond known whole ≡ made
beyond_is known whole made is = ap (beyond known) is ∙ dropped known made

pub is_beyond : (known : List Pair) (whole made : List Record) → whole ≡ records known ++ made → whole ≡ records known ++ beyond known whole
is_beyond known whole made is = is ∙ ap (λ (rs : List Record). records known ++ rs) (sym (beyond_is known whole made is))

-- of a call that is recorded this is the record that its reply makes
module _ (known : List Pair) (old new : EngineState) (event : Event) (reply : Reply) (fits : ReplyMatchesEvent event reply) (is : is_recorded reply ≡ true) (recorded : IsRecorded old event reply new) (same : records known ≡ old.history) where
  made : HasRecord old.setup event reply
  made = has_record old.setup event reply fits is

  one_longer : new.history ≡ records known ++ made.told ∷ []
  one_longer =
      let more : Records old new made.told = subst (λ (o : Option Record). MatchOption o (new ≡ old) (λ told. Records old new told)) made.is recorded in
      more.history ∙ ap (λ (before : List Record). before ++ made.told ∷ []) (sym same)

  pub call_beyond : new.history ≡ records known ++ beyond known new.history
  call_beyond = is_beyond known new.history (made.told ∷ []) one_longer

  pub tells_made : (setup : Setup) → old.setup ≡ setup → (history : List Pair) (before after : CallerState) → Joins setup history before (beyond known new.history) after → Tells setup history event reply before after
  tells_made setup of_it history before after joins =
      let made_is : record_of setup event reply ≡ Some made.told = subst (λ (s : Setup). record_of s event reply ≡ Some made.told) of_it made.is in
      subst (λ (o : Option Record). MatchOption o (TellsUnrecorded setup history reply before after) (λ told. Joins setup history before (told ∷ []) after)) (sym made_is)
      (subst (λ (rs : List Record). Joins setup history before rs after) (beyond_is known new.history (made.told ∷ []) one_longer) joins)

-- a call that is not recorded tells what was looked at, or nothing
pub tells_unfit : (setup : Setup) (history : List Pair) (event : Event) (reply : Reply) (before after : CallerState) → is_unfit reply ≡ true → Looks setup history before after → Tells setup history event reply before after
tells_unfit setup history event (Success given) before after is looks = absurd (let bad : false ≡ true = is in cc)
tells_unfit setup history event (Refused refusal) before after is looks = absurd (let bad : false ≡ true = is in cc)
tells_unfit setup history event (NotAdmitted back) before after is looks = looks
tells_unfit setup history event (OutOfMemory back) before after is looks = absurd (let bad : false ≡ true = is in cc)

pub tells_nothing : (setup : Setup) (history : List Pair) (event : Event) (reply : Reply) (before after : CallerState) → is_recorded reply ≡ false → is_unfit reply ≡ false → after ≡ before → Tells setup history event reply before after
tells_nothing setup history event (Success given) before after unrecorded fit same = absurd (let bad : true ≡ false = unrecorded in cc)
tells_nothing setup history event (Refused refusal) before after unrecorded fit same = absurd (let bad : true ≡ false = unrecorded in cc)
tells_nothing setup history event (NotAdmitted back) before after unrecorded fit same = absurd (let bad : true ≡ false = fit in cc)
tells_nothing setup history event (OutOfMemory back) before after unrecorded fit same = same

-- a call under the lock, by what stood there
pub section_of : (setup : Setup) (begun : List Record) (calls : ℕ) (found left : EngineState) (history : List Pair) (event : Event) (reply : Reply) (before after : CallerState) →
    IsSince setup begun calls found → records history ≡ found.history →
    IsRecorded found event reply left → ReplyMatchesEvent event reply → ToldFit found.world event reply → GivesAsRecorded found.setup found.world event left.world reply →
    Tells setup history event reply before after → Section setup event reply before after
section_of setup begun calls found left history event reply before after since its recorded fits fit gives tells = record {
  found = found;
  left = left;
  run = since.run;
  setup_is = since.setup_is;
  history = history;
  its = its;
  answers = record { recorded = recorded; fits = fits; fit = fit; gives = gives };
  tells = tells;
}

-- what is known of a shared engine is legal
pub legal_since : (setup : Setup) (begun : List Record) (calls : ℕ) (engine : EngineState) (history : List Pair) → IsSince setup begun calls engine → records history ≡ engine.history → LegalHistory setup history
legal_since setup begun calls engine history since same =
    (engine.world, subst (λ (rs : List Record). WorldRun setup (flat rs) engine.world) (sym same) (subst (λ (s : Setup). WorldRun s (flat engine.history) engine.world) since.setup_is since.run.run))

pub new_caller_is : (setup : Setup) (begun : List Record) (keeper : KeeperState) → LegalHistory setup keeper.history → StartsWith keeper.history (unshared begun) → IsNewCaller setup begun (new_caller keeper)
new_caller_is setup begun keeper legal front = record { mine = refl; told = refl; seen = legal; front = front }

pub new_watch_is : (setup : Setup) (begun : List Record) (keeper : KeeperState) → LegalHistory setup keeper.history → StartsWith keeper.history (unshared begun) → IsNewWatch setup begun (new_watch keeper)
new_watch_is setup begun keeper legal front = record { told = refl; seen = legal; front = front }

-- what is said of the engine inside the lock is said of the one that contracts see
module _ (inside seen : EngineState) (same : inside ≡ seen) where
  pub answered_so : (event : Event) (reply : Reply) (after : EngineState) → IsRecorded inside event reply after → ReplyMatchesEvent event reply → ToldFit inside.world event reply → GivesAsRecorded inside.setup inside.world event after.world reply → Answers seen event reply after
  answered_so event reply after recorded fits fit gives =
      subst (λ (e : EngineState). Answers e event reply after) same (record { recorded = recorded; fits = fits; fit = fit; gives = gives })
