-- A run that is driven: what the engine is then, and what of it is kept.
use Rattle.std.proofs.Common.{◌≡◌, ◌∙◌, ℕ, Bool, true, false, List, Option, None, Some, refl, ap, subst, sym}
use Rattle.world.specs.World.{LiveRun}
use Rattle.engine_runs.specs.Admits.{IsOutWith}
use Rattle.host_embedding.specs.Held.{out_of}
use Rattle.host_embedding.proofs.Taking.{is_out_by, out_with}
use Rattle.freeze_ledger.specs.declared.freeze.Freeze.{Freeze}
use Rattle.engine_core.specs.declared.answers.AdvanceFault.{AdvanceFault}
use Rattle.engine_core.specs.declared.answers.AdvanceFault.TheVariants.{NotOut, OutOfMemory}
use Rattle.engine_core.specs.Driving.{ComesBack, RunsToExit, WentOn, begins, goes_on}
use Rattle.engine_core.specs.EngineState.{EngineState}
use Rattle.engine_core.specs.Faults.{AdmitsUnlessTold}
use Rattle.engine_core.specs.RunState.{IsOut, RunState}
use Rattle.host_embedding.specs.declared.call_result.CallResult.{CallResult}
use Rattle.host_embedding.specs.declared.call_result.CallResult.TheVariants.{Done, NotOut as told_out, OutOfMemory as told_memory}
use Rattle.host_embedding.specs.declared.run_handle.HeldRun.{HeldRun}
use Rattle.host_embedding.specs.declared.run_handle.HeldRun.TheVariants.{Out, Spent}
use Rattle.host_embedding.specs.Calls.{HasMoreRecords, IsDriven}
use Rattle.host_embedding.specs.Guests.{HasGuests}
use Rattle.host_embedding.specs.Results.{advanced_result}
use Rattle.host_embedding.proofs.Going.{goes_none, goes_one, goes_then}
use Rattle.host_embedding.proofs.Guests.{same, stays_advanced}

-- a run that went on

went_records : (old : EngineState) (run : RunState) (now : EngineState) (at : RunState) (r0 : ℕ) → WentOn old run now at r0 → HasMoreRecords old now
went_records old run now at r0 begins = goes_none old old refl
went_records old run now at r0 (goes_on between after was again before told segment earlier taken) = goes_then old between after (went_records old run between was before earlier) (goes_one between after _ taken.recorded)

went_guests : (old : EngineState) (run : RunState) (tokens : List Freeze) → HasGuests old tokens → (now : EngineState) (at : RunState) (r0 : ℕ) → WentOn old run now at r0 → HasGuests now tokens
went_guests old run tokens has now at r0 begins = has
went_guests old run tokens has now at r0 (goes_on between after was again before told segment earlier taken) = stays_advanced between after _ _ _ _ tokens (went_guests old run tokens has between was before earlier) taken.recorded

-- one that came to its exit

pub goes_to_exit : (old new : EngineState) (run : RunState) (r0 : ℕ) → RunsToExit old run r0 new → HasMoreRecords old new
goes_to_exit old new run r0 ran = goes_then old ran.between new (went_records old run ran.between ran.at ran.before ran.went) (goes_one ran.between new _ ran.last.recorded)

pub guests_at_exit : (old new : EngineState) (run : RunState) (r0 : ℕ) (tokens : List Freeze) → HasGuests old tokens → RunsToExit old run r0 new → HasGuests new tokens
guests_at_exit old new run r0 tokens has ran = stays_advanced ran.between new _ _ _ _ tokens (went_guests old run tokens has ran.between ran.at ran.before ran.went) ran.last.recorded

pub exits : (old new : EngineState) (run : RunState) (r0 : ℕ) (held : HeldRun) (ended : Bool) → RunsToExit old run r0 new → IsOut old.world run → held ≡ Spent → ended ≡ true → IsDriven Done (Some run) held old new r0 ended
exits old new run r0 held ended ran out spent is = (ran, out, spent, is)

-- one that came back

pub goes_on_to : (old new : EngineState) (run back : RunState) (fault : AdvanceFault) (r0 : ℕ) → ComesBack old run fault back r0 new → HasMoreRecords old new
goes_on_to old new run back NotOut r0 came = goes_none old new came.2
goes_on_to old new run back OutOfMemory r0 came = went_records old run new back r0 came

pub guests_at_stop : (old new : EngineState) (run back : RunState) (fault : AdvanceFault) (r0 : ℕ) (tokens : List Freeze) → HasGuests old tokens → ComesBack old run fault back r0 new → HasGuests new tokens
guests_at_stop old new run back NotOut r0 tokens has came = same old new tokens has came.2
guests_at_stop old new run back OutOfMemory r0 tokens has came = went_guests old run tokens has new back r0 came

pub stops : (old new : EngineState) (run back : RunState) (fault : AdvanceFault) (r0 : ℕ) (held : HeldRun) (ended : Bool) (result : CallResult) → ComesBack old run fault back r0 new → AdmitsUnlessTold fault (IsOut old.world run) → held ≡ Out back → ended ≡ false → result ≡ advanced_result fault → IsDriven result (Some run) held old new r0 ended
stops old new run back NotOut r0 held ended result came admits is unended is_result = rw is_result (is ∙ ap Out came.0, came.2, admits, came.1, unended)
stops old new run back OutOfMemory r0 held ended result came admits is unended is_result = rw is_result ((back, is, came), admits, unended)

-- one that the engine was not asked for: memory was refused, or it is not out

pub not_begun : (was held : HeldRun) (run : RunState) (state : EngineState) (runs : List LiveRun) (result : CallResult) → out_of was ≡ Some run → held ≡ Out run → runs ≡ state.world.runs.list
    → IsOutWith runs run.number run.program.program run.machine → result ≡ told_memory → IsDriven result (out_of was) held state state 0 false
not_begun was held run state runs result was_is held_is those out told =
    rw (was_is, told) ((run, held_is, begins), is_out_by state.world run (subst (λ (rs : List LiveRun). IsOutWith rs run.number run.program.program run.machine) those out), refl)

pub not_out : (was held : HeldRun) (run : RunState) (state : EngineState) (runs : List LiveRun) (result : CallResult) → out_of was ≡ Some run → held ≡ Out run → runs ≡ state.world.runs.list
    → (IsOutWith runs run.number run.program.program run.machine → ⊥) → result ≡ told_out → IsDriven result (out_of was) held state state 0 false
not_out was held run state runs result was_is held_is those none told =
    rw (was_is, told) (held_is, refl, (λ out. none (subst (λ (rs : List LiveRun). IsOutWith rs run.number run.program.program run.machine) (sym those) (out_with state.world run out))), refl, refl)

-- ---- what the engine is then

pub driven_records : (result : CallResult) (out : Option RunState) (held : HeldRun) (old new : EngineState) (r0 : ℕ) (ended : Bool) → IsDriven result out held old new r0 ended → HasMoreRecords old new
driven_records result None held old new r0 ended told = goes_none old new told.2
driven_records Done (Some run) held old new r0 ended told = goes_to_exit old new run r0 told.0
driven_records told_memory (Some run) held old new r0 ended told = went_records old run new told.0.0 r0 told.0.2
driven_records told_out (Some run) held old new r0 ended told = goes_none old new told.1
driven_records result (Some run) held old new r0 ended told = absurd told

pub driven_guests : (result : CallResult) (out : Option RunState) (held : HeldRun) (old new : EngineState) (r0 : ℕ) (ended : Bool) (tokens : List Freeze) → HasGuests old tokens → IsDriven result out held old new r0 ended → HasGuests new tokens
driven_guests result None held old new r0 ended tokens has told = same old new tokens has told.2
driven_guests Done (Some run) held old new r0 ended tokens has told = guests_at_exit old new run r0 tokens has told.0
driven_guests told_memory (Some run) held old new r0 ended tokens has told = went_guests old run tokens has new told.0.0 r0 told.0.2
driven_guests told_out (Some run) held old new r0 ended tokens has told = same old new tokens has told.1
driven_guests result (Some run) held old new r0 ended tokens has told = absurd told
