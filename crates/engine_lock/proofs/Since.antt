-- A recorded call is one record more.
use Rattle.std.proofs.Common.{◌≡◌, ℕ, ◌+◌, List, [], ◌∷◌, ◌++◌, true, false, Option, Some, refl, ap, subst, ◌∙◌, arith, append_assoc, length-append}
use Rattle.std.specs.Prelude.{MatchOption}
use Rattle.world_calls.specs.declared.record.Record.{Record}
use Rattle.world.specs.World.{Setup}
use Rattle.engine_core.specs.EngineState.{EngineState, IsRun, Records}
use Rattle.engine_core.specs.declared.event.Event.{Event}
use Rattle.engine_core.specs.declared.event.Event.TheVariants.{Advance, GuestRelease, Park}
use Rattle.engine_core.specs.declared.reply.Reply.{Reply}
use Rattle.engine_core.specs.declared.reply.Reply.TheVariants.{Success, Refused, NotAdmitted, OutOfMemory}
use Rattle.engine_core.specs.Replies.{ReplyMatchesEvent, IsRecorded, is_recorded, record_of}
use Rattle.engine_lock.specs.Sharing.{IsSince}

-- which record it makes
pub record HasRecord (setup : Setup) (event : Event) (reply : Reply) : Type 0 where
  pub told : Record
  pub is : record_of setup event reply ≡ Some told

pub has_record : (setup : Setup) (event : Event) (reply : Reply) → ReplyMatchesEvent event reply → is_recorded reply ≡ true → HasRecord setup event reply
has_record setup event (Success given) fits is = record { told = _; is = refl }
has_record setup (Advance run) (Refused refusal) fits is = absurd (let bad : true ≡ false = fits in cc)
has_record setup (GuestRelease token) (Refused refusal) fits is = absurd (let bad : true ≡ false = fits in cc)
has_record setup (Park run) (Refused refusal) fits is = absurd (let bad : true ≡ false = fits in cc)
has_record setup event (Refused refusal) fits is = record { told = _; is = refl }
has_record setup event (NotAdmitted back) fits is = absurd (let bad : false ≡ true = is in cc)
has_record setup event (OutOfMemory back) fits is = absurd (let bad : false ≡ true = is in cc)

pub since_more : (setup : Setup) (begun : List Record) (calls : ℕ) (old new : EngineState) (event : Event) (reply : Reply) → IsSince setup begun calls old → ReplyMatchesEvent event reply → is_recorded reply ≡ true → IsRecorded old event reply new → IsRun new → IsSince setup begun (calls + 1) new
since_more setup begun calls old new event reply s fits is recorded run =
    let made = has_record old.setup event reply fits is in
    let more : Records old new made.told = subst (λ (o : Option Record). MatchOption o (new ≡ old) (λ told. Records old new told)) made.is recorded in
    record {
      run = run;
      setup_is = more.setup ∙ s.setup_is;
      untaken = more.taken ∙ s.untaken;
      since = s.since ++ made.told ∷ [];
      history = more.history ∙ (ap (λ (rs : List Record). rs ++ made.told ∷ []) s.history ∙ append_assoc begun s.since (made.told ∷ []));
      count = omega (arith, length-append s.since (made.told ∷ []), s.count);
    }
