-- What is kept of an engine's beginning: a call leaves it as it is, and after a record its lines say nothing.
use Rattle.std.proofs.Common.{◌≡◌, ◌<◌, ℕ, Bool, false, true, Option, List, [], ◌∷◌, ◌++◌, Some, None, length, refl, sym, ap, subst, ◌∙◌, arith}
use Rattle.std.specs.Prelude.{is_some}
use Rattle.world_calls.specs.declared.call.Call.{Call}
use Rattle.world_calls.specs.declared.call_answer.CallAnswer.TheVariants as answers
use Rattle.world_calls.specs.declared.carried_line.CarriedLine.{CarriedLine}
use Rattle.world_calls.specs.declared.record.Record.{Record}
use Rattle.world_calls.specs.declared.record.Record.TheVariants.{Called}
use Rattle.world_calls.specs.declared.trace.Version.{Version}
use Rattle.ccb.specs.declared.call_refusal.CallRefusal.{CallRefusal}
use Rattle.world.specs.World.{Setup, World, version_of}
use Rattle.engine_beginning.specs.Lines.{lines_of}
use Rattle.engine_core.specs.declared.answers.CallFault.{CallFault}
use Rattle.engine_core.specs.declared.answers.CallFault.TheVariants.{OutOfMemory, Refused}
use Rattle.engine_core.specs.EngineState.{EngineState, Records}
use Rattle.engine_core.specs.Faults.{FaultIs}
use Rattle.host_embedding.specs.Beginning.{KnowsBeginning}
use Rattle.host_embedding.specs.Calls.{HasMoreRecords}
use Rattle.host_embedding.specs.Lines.{PutsCarried, PutsLeft, PutsLines, carried_until}
use Rattle.host_embedding.specs.declared.call_result.CallResult.{CallResult}
use Rattle.carried_lines.specs.CarriedText.{carried_text}
use Rattle.carried_lines.specs.FirstLine.{continued_header}

pub alone : (state : EngineState) (lines : List CarriedLine) → state.setup.carried ≡ None → KnowsBeginning state false lines
alone state lines none = record {
  continued = ap is_some (sym none);
  lines_are = λ fresh world some. absurd (let bad : None ≡ Some world = sym none ∙ some in cc);
}

pub same : (old new : EngineState) (is_continued : Bool) (lines : List CarriedLine) → KnowsBeginning old is_continued lines → new ≡ old → KnowsBeginning new is_continued lines
same old new is_continued lines knows e = subst (λ (it : EngineState). KnowsBeginning it is_continued lines) (sym e) knows

nothing_before : (xs ys : List Record) → xs ++ ys ≡ [] → xs ≡ []
nothing_before [] ys e = refl
nothing_before (x ∷ xs) ys e = absurd cc

-- some records more, or none
pub more : (old new : EngineState) (is_continued : Bool) (lines : List CarriedLine) → KnowsBeginning old is_continued lines → HasMoreRecords old new → KnowsBeginning new is_continued lines
more old new is_continued lines knows records = record {
  continued = knows.continued ∙ ap (λ (s : Setup). is_some s.carried) (sym records.setup);
  lines_are = λ fresh world some. knows.lines_are (nothing_before old.history records.more (sym records.history ∙ fresh)) world (ap (λ (s : Setup). s.carried) (sym records.setup) ∙ some);
}

pub recorded : (old new : EngineState) (told : Record) (is_continued : Bool) (lines : List CarriedLine) → KnowsBeginning old is_continued lines → Records old new told → KnowsBeginning new is_continued lines
recorded old new told is_continued lines knows records = more old new is_continued lines knows (record { more = told ∷ []; history = records.history; setup = records.setup })

pub faulted : (old new : EngineState) (fault : CallFault) (its : Call) (is_continued : Bool) (lines : List CarriedLine) → KnowsBeginning old is_continued lines
    → FaultIs fault (new ≡ old) (λ (refusal : CallRefusal). Records old new (Called (answers.Refused refusal) its)) → KnowsBeginning new is_continued lines
faulted old new OutOfMemory its is_continued lines knows e = same old new is_continued lines knows e
faulted old new (Refused refusal) its is_continued lines knows records = recorded old new (Called (answers.Refused refusal) its) is_continued lines knows records

some_there : (records : List Record) → 0 < length records → records ≡ [] → ⊥
some_there records some none = omega (arith, some, ap length none)

-- after a record
pub begun : (old new : EngineState) (is_continued : Bool) (lines later : List CarriedLine) → KnowsBeginning old is_continued lines → new.setup ≡ old.setup → 0 < length new.history → KnowsBeginning new is_continued later
begun old new is_continued lines later knows setup some = record {
  continued = knows.continued ∙ ap (λ (s : Setup). is_some s.carried) (sym setup);
  lines_are = λ fresh world carried. absurd (some_there new.history some fresh);
}

-- ---- the lines that are put

pub left_so : (result : CallResult) (version : Version) (carried : Option World) (history : List Record) (lines : List CarriedLine) (from : ℕ) (before place : List ℕ) (written next : ℕ) → true ≡ is_some carried → length history ≡ 0
    → ((world : World) → carried ≡ Some world → lines ≡ lines_of world) → PutsLines (carried_text version) result (continued_header version) lines 0 from before place written next
    → PutsLeft result version (carried_until carried history) from before place written next
left_so result version None history lines from before place written next some none are puts = absurd cc
left_so result version (Some world) (first ∷ rest) lines from before place written next some none are puts = absurd (omega (arith, none))
left_so result version (Some world) [] lines from before place written next some none are puts =
    subst (λ (its : List CarriedLine). PutsLines (carried_text version) result (continued_header version) its 0 from before place written next) (are world refl) puts

pub none_there : (history : List Record) → length history ≡ 0 → history ≡ []
none_there [] none = refl
none_there (first ∷ rest) none = absurd (omega (arith, none))

pub puts_carried : (state : EngineState) (is_continued : Bool) (lines : List CarriedLine) (result : CallResult) (first : List ℕ) (from : ℕ) (before place : List ℕ) (written next : ℕ) → KnowsBeginning state is_continued lines
    → is_continued ≡ true → length state.history ≡ 0 → first ≡ continued_header (version_of state.setup) → PutsLines (carried_text (version_of state.setup)) result first lines 0 from before place written next
    → PutsCarried result state from before place written next
puts_carried state is_continued lines result first from before place written next knows continued none is puts =
    left_so result (version_of state.setup) state.setup.carried state.history lines from before place written next (sym continued ∙ knows.continued) none
    (knows.lines_are (none_there state.history none))
    (subst (λ (text : List ℕ). PutsLines (carried_text (version_of state.setup)) result text lines 0 from before place written next) is puts)
