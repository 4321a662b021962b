-- What an engine told follows; then nothing else that answers the same does.
use Rattle.std.proofs.Common.{◌≡◌, ℕ, List, [], ◌∷◌, ◌++◌, Bool, true, false, refl, ap, sym, subst, ◌∙◌}
use Rattle.std.specs.Prelude.{IsTrue, ◌↔◌}
use Rattle.world_calls.specs.declared.call.Call.{Call}
use Rattle.world_calls.specs.declared.call_answer.CallAnswer.{CallAnswer}
use Rattle.world_calls.specs.declared.call_answer.CallAnswer.TheVariants.{Ok}
use Rattle.world_calls.specs.declared.record.StoppedAt.{StoppedAt}
use Rattle.world_calls.specs.declared.record.Record.{Record}
use Rattle.world_calls.specs.declared.record.Record.TheVariants.{Called, Advance}
use Rattle.world.specs.World.{Setup, World, beginning}
use Rattle.world.specs.Event.{Event, Reply, replies, went_on, result}
use Rattle.world.specs.WorldRun.{Leads, WorldRun}
use Rattle.world.specs.Flat.{events_of, flat}
use Rattle.world_laws.proofs.Leads.{leads_split, world_after_leads}
use Rattle.world_laws.proofs.Steps.Running.{some_is}
use Rattle.engine_core.specs.ByNumber.{NumberedState, IsBehind, IsHistory, RecordFollows, CannotFollow, IsAdvanceOf}
use Rattle.engine_core.proofs.Recording.{flat_push}
use Rattle.replay.specs.Replaying.{FollowsIf}
use Rattle.replay.proofs.OneStretch.{IsSame, one_advance}

-- two records that lead on from one world
pub record FromOne (setup : Setup) (one other : Record) : Type 0 where
  pub before : World
  pub after : World
  pub later : World
  pub first : Leads setup before (events_of one) after
  pub second : Leads setup before (events_of other) later

from_one : (old new : NumberedState) (records : List Record) (one other : Record) → RecordFollows old one new → new.setup ≡ old.setup → IsBehind records old → IsHistory old.setup (records ++ other ∷ []) → FromOne old.setup one other
from_one old new records one other follows setup behind history =
    let next = follows records behind in
    let leads : WorldRun old.setup (flat (records ++ one ∷ [])) next.world = subst (λ (s : Setup). WorldRun s (flat (records ++ one ∷ [])) next.world) setup next.leads in
    let a = leads_split old.setup (beginning old.setup) (flat records) (events_of one) next.world (subst (λ (xs : List (Event × Reply)). WorldRun old.setup xs next.world) (flat_push records one) leads).1 in
    let b = leads_split old.setup (beginning old.setup) (flat records) (events_of other) history.0 (subst (λ (xs : List (Event × Reply)). WorldRun old.setup xs history.0) (flat_push records other) history.1).1 in
    let same : b.0 ≡ a.0 = sym (world_after_leads old.setup (beginning old.setup) (flat records) b.0 b.1) ∙ world_after_leads old.setup (beginning old.setup) (flat records) a.0 a.1 in
    record {
      before = a.0;
      after = next.world;
      later = history.0;
      first = a.2;
      second = subst (λ (w : World). Leads old.setup w (events_of other) history.0) same b.2;
    }

-- the answer, where one is told
answer_in : Reply → CallAnswer
answer_in (replies answer) = answer
answer_in went_on = Ok
answer_in (result r0) = Ok

-- a call has one answer
one_answer : (setup : Setup) (call : Call) (answer other : CallAnswer) → FromOne setup (Called answer call) (Called other call) → answer ≡ other
unfolding answer_in
one_answer setup call answer other it =
    sym (ap (λ (x : Reply × World). answer_in x.0) (some_is (replies answer, it.first.0) (replies other, it.second.0) (sym it.first.1 ∙ it.second.1)))

other_answer : (old new : NumberedState) (call : Call) (answer other : CallAnswer) → RecordFollows old (Called answer call) new → new.setup ≡ old.setup → (answer ≡ other → ⊥) → CannotFollow old (Called other call)
other_answer old new call answer other follows setup differ = λ records behind history.
    differ (one_answer old.setup call answer other (from_one old new records (Called answer call) (Called other call) follows setup behind history))

-- an advance to the next stop is one
same_advance : (run n m : ℕ) (stop other : StoppedAt) (r0 r1 : ℕ) → IsSame n m stop other r0 r1 → Advance run n stop r0 ≡ Advance run m other r1
same_advance run n m stop other r0 r1 same = λ i. Advance run (same.instructions_are i) (same.stop_are i) (same.r0_are i)

other_advance : (old new : NumberedState) (run n m : ℕ) (stop other : StoppedAt) (r0 r1 : ℕ) → RecordFollows old (Advance run n stop r0) new → new.setup ≡ old.setup → (Advance run n stop r0 ≡ Advance run m other r1 → ⊥) → CannotFollow old (Advance run m other r1)
other_advance old new run n m stop other r0 r1 follows setup differ = λ records behind history.
    let it = from_one old new records (Advance run n stop r0) (Advance run m other r1) follows setup behind history in
    differ (same_advance run n m stop other r0 r1 (one_advance old.setup it.before run n m stop other r0 r1 it.after it.later it.first it.second))

-- ---- by a test

pub answered_so : (same : Bool) (old new : NumberedState) (call : Call) (answer told : CallAnswer) → RecordFollows old (Called answer call) new → new.setup ≡ old.setup → (IsTrue same ↔ (answer ≡ told)) → FollowsIf same old (Called told call) new
answered_so true old new call answer told follows setup is = subst (λ (a : CallAnswer). RecordFollows old (Called a call) new) (is.0 refl) follows
answered_so false old new call answer told follows setup is = other_answer old new call answer told follows setup (λ e. let bad : false ≡ true = is.1 e in cc)

pub advanced_so : (same : Bool) (old new : NumberedState) (run m : ℕ) (other : StoppedAt) (r1 : ℕ) (made : Record) → IsAdvanceOf run made → RecordFollows old made new → new.setup ≡ old.setup → (IsTrue same ↔ (made ≡ Advance run m other r1)) → FollowsIf same old (Advance run m other r1) new
advanced_so true old new run m other r1 made it follows setup is = subst (λ (r : Record). RecordFollows old r new) (is.0 refl) follows
advanced_so false old new run m other r1 made it follows setup is =
    other_advance old new run it.instructions m it.stop other it.r0 r1 (subst (λ (r : Record). RecordFollows old r new) it.is follows) setup (λ e. let bad : false ≡ true = is.1 (it.is ∙ e) in cc)
