-- A failure in an engine: what it is answered tells whether a run starts.
use Rattle.std.proofs.Common.{◌≡◌, ◌∙◌, ℕ, List, ◌∷◌, [], ◌++◌, Option, Some, None, ap, subst, sym, unwrap_or}
use Rattle.ccb.specs.Completion.{Outcome}
use Rattle.world_calls.specs.declared.call.Call.TheVariants.{Complete}
use Rattle.world_calls.specs.declared.call_answer.CallAnswer.{CallAnswer}
use Rattle.world_calls.specs.declared.call_answer.CallAnswer.TheVariants as answers
use Rattle.world_calls.specs.declared.record.Record.{Record}
use Rattle.world_calls.specs.declared.record.Record.TheVariants.{Called}
use Rattle.world.specs.Event.{Event, Reply, called, replies, went_on, result}
use Rattle.world.specs.Flat.{events_of, flat}
use Rattle.world.specs.Step.{step}
use Rattle.world.specs.World.{Setup, World, beginning}
use Rattle.world.specs.WorldRun.{Leads, WorldRun}
use Rattle.world_laws.proofs.Leads.{leads_split, world_after_leads}
use Rattle.engine_core.specs.ByNumber.{AnswersCall, CannotFollow, IsBehind, NumberedState, RecordFollows}
use Rattle.engine_core.proofs.Recording.{flat_push}
use Rattle.host_decision.specs.Ran.{failed}
use Rattle.host_decision.specs.Steps.{started_by, started_in}

-- the run that a reply says has started, with its freeze
abbrev started_reply : Reply → Option (ℕ × ℕ)
started_reply (replies answer) = started_by answer
started_reply went_on = None
started_reply (result r0) = None

abbrev started_step : Option (Reply × World) → Option (ℕ × ℕ)
started_step None = None
started_step (Some x) = started_reply x.0

-- the world before the last record of a history, and where that record leads from it
record LastStep (setup : Setup) (records : List Record) (told : Record) : Type 0 where
  before : World
  leads : Leads setup (beginning setup) (flat records) before
  after : World
  last : Leads setup before (events_of told) after

last_step : (setup : Setup) (records : List Record) (told : Record) (world : World) → WorldRun setup (flat (records ++ told ∷ [])) world → LastStep setup records told
last_step setup records told world run =
    let parts = leads_split setup (beginning setup) (flat records) (events_of told) world (subst (λ xs. WorldRun setup xs world) (flat_push records told) run).1 in
    record { before = parts.0; leads = parts.1; after = world; last = parts.2 }

-- two histories that differ in their last record alone go on from one world
same_before : (setup : Setup) (records : List Record) (one other : Record) (first : LastStep setup records one) (second : LastStep setup records other) → first.before ≡ second.before
same_before setup records one other first second =
    sym (world_after_leads setup (beginning setup) (flat records) first.before first.leads) ∙ world_after_leads setup (beginning setup) (flat records) second.before second.leads

none_is_some : (x : ℕ × ℕ) → None ≡ Some x → ⊥
none_is_some x bad = cc

no_start : (old new : NumberedState) (outcome : Outcome) (answer : CallAnswer) → started_by answer ≡ None → RecordFollows old (Called answer (Complete outcome)) new → new.setup ≡ old.setup
    → (run freeze : ℕ) → CannotFollow old (failed outcome run freeze)
no_start old new outcome answer none follows same run freeze = λ records behind history.
    let next : IsBehind (records ++ Called answer (Complete outcome) ∷ []) new = follows records behind in
    let first : LastStep old.setup records (Called answer (Complete outcome)) =
    last_step old.setup records (Called answer (Complete outcome)) next.world
    (subst (λ (s : Setup). WorldRun s (flat (records ++ Called answer (Complete outcome) ∷ [])) next.world) same next.leads) in
    let second : LastStep old.setup records (failed outcome run freeze) = last_step old.setup records (failed outcome run freeze) history.0 history.1 in
    let before : first.before ≡ second.before = same_before old.setup records (Called answer (Complete outcome)) (failed outcome run freeze) first second in
    let one : step old.setup second.before (called (Complete outcome)) ≡ Some (replies answer, first.last.0) =
    subst (λ (w : World). step old.setup w (called (Complete outcome)) ≡ Some (replies answer, first.last.0)) before first.last.1 in
    let both : Some (replies answer, first.last.0) ≡ Some (replies (answers.Started run freeze), second.last.0) = sym one ∙ second.last.1 in
    let bad : None ≡ Some (run, freeze) = sym none ∙ ap started_step both in
    none_is_some (run, freeze) bad

-- no run starts where the answer does not say so
pub cannot_fail : (old new : NumberedState) (outcome : Outcome) (answer : Option CallAnswer) → started_in answer ≡ None → AnswersCall old (Complete outcome) answer new → new.setup ≡ old.setup
    → (run freeze : ℕ) → CannotFollow old (failed outcome run freeze)
cannot_fail old new outcome None none it same run freeze = it.1 (answers.Started run freeze)
cannot_fail old new outcome (Some answer) none it same run freeze = no_start old new outcome answer none it same run freeze

-- and where it says so, that record follows
started : (old new : NumberedState) (outcome : Outcome) (answer : CallAnswer) (run freeze : ℕ) → started_by answer ≡ Some (run, freeze) → RecordFollows old (Called answer (Complete outcome)) new
    → RecordFollows old (failed outcome run freeze) new
started old new outcome (answers.Started r f) run freeze is it =
    let r_is : r ≡ run = ap (λ (o : Option (ℕ × ℕ)). (unwrap_or o (0, 0)).0) is in
    let f_is : f ≡ freeze = ap (λ (o : Option (ℕ × ℕ)). (unwrap_or o (0, 0)).1) is in
    subst (λ (n : ℕ). RecordFollows old (failed outcome n freeze) new) r_is (subst (λ (n : ℕ). RecordFollows old (failed outcome r n) new) f_is it)
started old new outcome (answers.Ccb ccb) run freeze is it = absurd cc
started old new outcome (answers.Advised ccb advice) run freeze is it = absurd cc
started old new outcome answers.Done run freeze is it = absurd cc
started old new outcome (answers.Freeze freeze_taken) run freeze is it = absurd cc
started old new outcome (answers.Left count) run freeze is it = absurd cc
started old new outcome (answers.Removed count) run freeze is it = absurd cc
started old new outcome answers.Ok run freeze is it = absurd cc
started old new outcome (answers.Refused refusal) run freeze is it = absurd cc

pub has_started : (old new : NumberedState) (outcome : Outcome) (answer : Option CallAnswer) (run freeze : ℕ) → started_in answer ≡ Some (run, freeze) → AnswersCall old (Complete outcome) answer new
    → RecordFollows old (failed outcome run freeze) new
has_started old new outcome None run freeze is it = absurd cc
has_started old new outcome (Some answer) run freeze is it = started old new outcome answer run freeze is it
