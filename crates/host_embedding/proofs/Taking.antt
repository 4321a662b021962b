-- A run that was presented at its stop: it goes on, it has ended, or it is back where it was.
use Rattle.std.proofs.Common.{◌≡◌, ◌∙◌, ℕ, Bool, true, false, List, ap, refl, subst, sym}
use Rattle.world.specs.World.{LiveRun, Setup, World}
use Rattle.engine_runs.specs.Admits.{IsOutWith}
use Rattle.world_calls.specs.declared.record.Record.{Record}
use Rattle.world_calls.specs.declared.record.Record.TheVariants.{Advance}
use Rattle.engine_core.specs.Answers.{GoesOrEnds, r0_of, stopped_at}
use Rattle.engine_core.specs.declared.answers.AdvanceAnswer.{AdvanceAnswer}
use Rattle.engine_core.specs.declared.answers.AdvanceAnswer.TheVariants.{Goes, Ended}
use Rattle.engine_core.specs.declared.answers.AdvanceFault.{AdvanceFault}
use Rattle.engine_core.specs.declared.answers.AdvanceFault.TheVariants as fault
use Rattle.engine_core.specs.EngineState.{EngineState, Records}
use Rattle.engine_core.specs.Faults.{AdmitsUnlessTold}
use Rattle.engine_core.specs.RunState.{RunState, StoppedState, before_stop, IsOut, IsOutUnder}
use Rattle.host_embedding.specs.declared.call_result.CallResult.{CallResult}
use Rattle.host_embedding.specs.declared.call_result.CallResult.TheVariants.{Done, NotOut, OutOfMemory}
use Rattle.host_embedding.specs.declared.run_handle.HeldRun.{HeldRun}
use Rattle.host_embedding.specs.declared.run_handle.HeldRun.TheVariants.{Out, Stopped, Spent}
use Rattle.freeze_ledger.specs.declared.freeze.Freeze.{Freeze}
use Rattle.host_embedding.specs.Calls.{HasMoreRecords, IsAdvanced, IsTakenOver, advance_of}
use Rattle.host_embedding.specs.Guests.{HasGuests}
use Rattle.host_embedding.specs.Results.{advanced_result}
use Rattle.host_embedding.proofs.Going.{goes_none, goes_one}
use Rattle.host_embedding.proofs.Guests.{same, stays_advanced}

-- a run that is out, by the engine's list and by the world
pub is_out_by : (world : World) (run : RunState) → IsOutWith world.runs.list run.number run.program.program run.machine → IsOut world run
is_out_by world run out = record { it = out.it; found = out.found; out = out.recorded.0; program_is = sym out.recorded.1; machine_is = sym out.recorded.2 }

pub out_with : (world : World) (run : RunState) → IsOut world run → IsOutWith world.runs.list run.number run.program.program run.machine
out_with world run out = record { it = out.it; found = out.found; recorded = (out.out, sym out.program_is, sym out.machine_is) }

-- what is recorded of an advance with this answer
abbrev told_of_answer : StoppedState → AdvanceAnswer → Record
told_of_answer stopped answer = Advance stopped.number stopped.segment.steps (stopped_at stopped.segment.stop) (r0_of answer)

pub went_on : (stopped : StoppedState) (old new : EngineState) (answer : AdvanceAnswer) (again : RunState) (r0 : ℕ) → answer ≡ Goes again r0 → Records old new (told_of_answer stopped answer)
    → IsOut old.world (before_stop stopped) → GoesOrEnds old.setup old.world new.world (before_stop stopped) stopped.segment answer → IsTakenOver Done stopped (Out again) old new r0 false
went_on stopped old new answer again r0 is records out goes =
    let its : Records old new (advance_of stopped r0) = subst (λ (a : AdvanceAnswer). Records old new (told_of_answer stopped a)) is records in
    let went : GoesOrEnds old.setup old.world new.world (before_stop stopped) stopped.segment (Goes again r0) =
    subst (λ (a : AdvanceAnswer). GoesOrEnds old.setup old.world new.world (before_stop stopped) stopped.segment a) is goes in (
      its,
      out,
      (
        again,
        refl,
        record {
          number = went.0;
          program = went.1;
          out = went.2;
          under = λ under. subst (λ (setup : Setup). IsOutUnder setup new.world again) (sym its.setup) (went.3 under);
        },
      ),
    )

pub has_ended : (stopped : StoppedState) (old new : EngineState) (answer : AdvanceAnswer) (r0 : ℕ) → answer ≡ Ended r0 → Records old new (told_of_answer stopped answer)
    → IsOut old.world (before_stop stopped) → GoesOrEnds old.setup old.world new.world (before_stop stopped) stopped.segment answer → IsTakenOver Done stopped Spent old new r0 true
has_ended stopped old new answer r0 is records out ends = (
  subst (λ (a : AdvanceAnswer). Records old new (told_of_answer stopped a)) is records,
  out,
  (refl, subst (λ (a : AdvanceAnswer). GoesOrEnds old.setup old.world new.world (before_stop stopped) stopped.segment a) is ends),
)

pub is_back : (its : AdvanceFault) (result : CallResult) (stopped : StoppedState) (back : RunState) (old new : EngineState) (r0 : ℕ) (ended : Bool) → result ≡ advanced_result its → back ≡ before_stop stopped → new ≡ old
    → AdmitsUnlessTold its (IsOut old.world (before_stop stopped)) → IsTakenOver result stopped (Out back) old new r0 ended
is_back fault.OutOfMemory result stopped back old new r0 ended told same kept admits = rw told (kept, ap Out same, admits)
is_back fault.NotOut result stopped back old new r0 ended told same kept admits = rw told (kept, ap Out same, admits)

-- so it was advanced, by what each of these is
pub advanced_so : {result told : CallResult} {was held later : HeldRun} {r0 value : ℕ} {ended over : Bool} (stopped : StoppedState) (old new : EngineState)
    → was ≡ Stopped stopped → result ≡ told → held ≡ later → r0 ≡ value → ended ≡ over → IsTakenOver told stopped later old new value over → IsAdvanced result was held old new r0 ended
advanced_so stopped old new was_is told_is held_is r0_is over_is taken = rw (was_is, told_is, held_is, r0_is, over_is) taken

-- the same of one that the engine was not asked for: memory was refused, or it is not out
pub not_taken : (stopped : StoppedState) (was held : HeldRun) (back : RunState) (state : EngineState) (runs : List LiveRun) (result : CallResult) → was ≡ Stopped stopped → held ≡ Out back → back ≡ before_stop stopped → runs ≡ state.world.runs.list
    → IsOutWith runs back.number back.program.program back.machine → result ≡ OutOfMemory → (r0 : ℕ) (ended : Bool) → IsAdvanced result was held state state r0 ended
not_taken stopped was held back state runs result was_is held_is same those out told = λ r0 ended.
    rw (was_is, told) (
      refl,
      held_is ∙ ap Out same,
      is_out_by state.world (before_stop stopped) (subst (λ (rs : List LiveRun). IsOutWith rs (before_stop stopped).number (before_stop stopped).program.program (before_stop stopped).machine) those
          (subst (λ (r : RunState). IsOutWith runs r.number r.program.program r.machine) same out)),
    )

pub not_out : (stopped : StoppedState) (was held : HeldRun) (back : RunState) (state : EngineState) (runs : List LiveRun) (result : CallResult) → was ≡ Stopped stopped → held ≡ Out back → back ≡ before_stop stopped → runs ≡ state.world.runs.list
    → (IsOutWith runs back.number back.program.program back.machine → ⊥) → result ≡ NotOut → (r0 : ℕ) (ended : Bool) → IsAdvanced result was held state state r0 ended
not_out stopped was held back state runs result was_is held_is same those none told = λ r0 ended.
    rw (was_is, told) (
      refl,
      held_is ∙ ap Out same,
      λ out. none (subst (λ (r : RunState). IsOutWith runs r.number r.program.program r.machine) (sym same)
          (subst (λ (rs : List LiveRun). IsOutWith rs (before_stop stopped).number (before_stop stopped).program.program (before_stop stopped).machine) (sym those) (out_with state.world (before_stop stopped) out))),
    )

-- ---- what the engine is then

pub taken_records : (result : CallResult) (was held : HeldRun) (old new : EngineState) (r0 : ℕ) (ended : Bool) → IsAdvanced result was held old new r0 ended → HasMoreRecords old new
taken_records Done (Stopped stopped) held old new r0 ended told = goes_one old new _ told.0
taken_records OutOfMemory (Stopped stopped) held old new r0 ended told = goes_none old new told.0
taken_records NotOut (Stopped stopped) held old new r0 ended told = goes_none old new told.0
taken_records result (Stopped stopped) held old new r0 ended told = absurd told
taken_records result (Out run) held old new r0 ended told = goes_none old new told.2
taken_records result Spent held old new r0 ended told = goes_none old new told.2

pub taken_guests : (result : CallResult) (was held : HeldRun) (old new : EngineState) (r0 : ℕ) (ended : Bool) (tokens : List Freeze) → HasGuests old tokens → IsAdvanced result was held old new r0 ended → HasGuests new tokens
taken_guests Done (Stopped stopped) held old new r0 ended tokens has told = stays_advanced old new _ _ _ _ tokens has told.0
taken_guests OutOfMemory (Stopped stopped) held old new r0 ended tokens has told = same old new tokens has told.0
taken_guests NotOut (Stopped stopped) held old new r0 ended tokens has told = same old new tokens has told.0
taken_guests result (Stopped stopped) held old new r0 ended tokens has told = absurd told
taken_guests result (Out run) held old new r0 ended tokens has told = same old new tokens has told.2
taken_guests result Spent held old new r0 ended tokens has told = same old new tokens has told.2
