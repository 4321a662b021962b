-- Worked rows of parks and resumes, computed by the definitions themselves.
use Rattle.std.proofs.Common.{◌≡◌, true, false, [], ◌∷◌, Some, None, Ok, Err, refl}
use Rattle.ccb.specs.Completion.{Outcome}
use Rattle.ccb.specs.declared.cam_status.CamStatus.TheVariants.{CommandTimeout}
use Rattle.helpers.specs.declared.limits.HelperLimits.{HelperLimits}
use Rattle.ccb.specs.declared.call_refusal.CallRefusal.TheVariants.{Unknown}
use Rattle.world_calls.specs.declared.call.Call.TheVariants.{Park, Resume}
use Rattle.world_calls.specs.declared.call_answer.CallAnswer.TheVariants as answers
use Rattle.world_calls.specs.declared.record.Record.TheVariants.{Called}
use Rattle.world.specs.World.{World, opening}
use Rattle.world.specs.Event.{private, exit, executes, result, refused, went_on}
use Rattle.world_laws.proofs.Rows.Words.{submit, dispatch, complete, parks, resumes, run_started, ok}
use Rattle.world.specs.Step.{step}
use Rattle.world.specs.Flat.{flat}
use Rattle.world.specs.Laws.Headline.{steps_of}
use Rattle.world.specs.Laws.Moved.{is_of_another}
use Rattle.world_laws.proofs.Rows.Worked.{one_queue, outcome_of, next, answer}

-- run 1 is out, and executed one instruction
abbrev out : HelperLimits → World
out l = next (one_queue l) (next (one_queue l) (next (one_queue l) (next (one_queue l) (opening (one_queue l)) (submit 0 10 3)) (dispatch 0)) (complete (outcome_of 1 CommandTimeout))) (executes 1 private)

abbrev parked : HelperLimits → World
parked l = next (one_queue l) (out l) (parks 1)

is_parked : (l : HelperLimits) → answer (one_queue l) (out l) (parks 1) ≡ Some ok
is_parked l = refl

-- it is the same world but for that
same_but_out : (l : HelperLimits) → record (parked l) { runs = record (parked l).runs { list = [] } } ≡ record (out l) { runs = record (out l).runs { list = [] } }
same_but_out l = refl

-- a step of a parked run is no event, and of one that is out it is
no_step : (l : HelperLimits) → step (one_queue l) (parked l) (executes 1 private) ≡ None
no_step l = refl

steps_out : (l : HelperLimits) → answer (one_queue l) (out l) (executes 1 private) ≡ Some went_on
steps_out l = refl

-- nor is a park of it, nor of a run that is not there
no_park : (l : HelperLimits) → step (one_queue l) (parked l) (parks 1) ≡ None
no_park l = refl

no_other_park : (l : HelperLimits) → step (one_queue l) (out l) (parks 2) ≡ None
no_other_park l = refl

-- it comes back as it was
is_resumed : (l : HelperLimits) → step (one_queue l) (parked l) (resumes 1) ≡ Some (ok, out l)
is_resumed l = refl

-- what is out, or not there, is not resumed
out_already : (l : HelperLimits) → step (one_queue l) (out l) (resumes 1) ≡ Some (refused Unknown, out l)
out_already l = refl

not_there : (l : HelperLimits) → step (one_queue l) (parked l) (resumes 2) ≡ Some (refused Unknown, parked l)
not_there l = refl

-- neither counts as a step
no_steps : steps_of 1 ((parks 1, ok) ∷ (resumes 1, ok) ∷ []) ≡ 0
no_steps = refl

-- private instructions of run 1 are moved past events of other runs and their starts, and past none of its own
past_others : is_of_another 1 (executes 2 exit, result 0) ≡ true
past_others = refl

past_other_starts : (outcome : Outcome) → is_of_another 1 (complete outcome, run_started 2 1) ≡ true
past_other_starts outcome = refl

past_other_parks : is_of_another 1 (parks 2, ok) ≡ true
past_other_parks = refl

not_past_its_start : (outcome : Outcome) → is_of_another 1 (complete outcome, run_started 1 1) ≡ false
not_past_its_start outcome = refl

not_past_its_steps : is_of_another 1 (executes 1 exit, result 0) ≡ false
not_past_its_steps = refl

not_past_its_park : is_of_another 1 (parks 1, ok) ≡ false
not_past_its_park = refl

not_past_its_resume : is_of_another 1 (resumes 1, ok) ≡ false
not_past_its_resume = refl

-- one record is one event
records : flat (Called answers.Ok (Park 1) ∷ Called (answers.Refused Unknown) (Resume 2) ∷ Called answers.Ok (Resume 1) ∷ []) ≡ (parks 1, ok) ∷ (resumes 2, refused Unknown) ∷ (resumes 1, ok) ∷ []
records = refl
