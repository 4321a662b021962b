-- Where a run is parked or goes on: to an engine with one record more, which has room for the park of each run that is out.
use Rattle.std.proofs.Common.{◌≡◌, ℕ, ◌+◌, ◌<◌, ◌≤◌, Bool, true, false, cond, List, [], ◌∷◌, map, not, Option, Some, None, refl, ap, sym, subst, ◌∙◌, arith}
use Rattle.std.specs.Option.{option_map}
use Rattle.std.proofs.lemmas.Bool.{cond-true, cond-false}
use Rattle.ccb.specs.Rising.{AreRising}
use Rattle.engine_runs.specs.RunsState.{RunsState}
use Rattle.world_calls.specs.declared.record.Record.{Record}
use Rattle.world_calls.specs.declared.call.Call.TheVariants.{Park, Resume}
use Rattle.world_calls.specs.declared.call_answer.CallAnswer.TheVariants as answers
use Rattle.world_calls.specs.declared.record.Record.TheVariants.{Called}
use Rattle.ccb.specs.declared.call_refusal.CallRefusal.TheVariants.{Unknown}
use Rattle.bpf_semantics.specs.Reached.{Reached}
use Rattle.world.specs.World.{Transport, LiveRun, Setup, World, queue_count, queue_setup}
use Rattle.world.specs.Lookups.{run_of, with_run}
use Rattle.world.specs.Event.{Reply, replies, refused}
use Rattle.world.specs.Flat.{events_of}
use Rattle.world.specs.ParkSteps.{parks, resumes, with_out}
use Rattle.world.specs.Refusals.{is_parked, unless_refused}
use Rattle.world.proofs.Lists.Each.{all_found}
use Rattle.world.proofs.Lists.Found.{found_key, put_same}
use Rattle.world.proofs.Lists.Rising.{count_put, found_counts}
use Rattle.world.proofs.Steps.Moves.{run_key, run_found}
use Rattle.engine_core.specs.EngineState.{world_of}
use Rattle.engine_core.specs.Invariant.{HistoryHasRoom, KeepsEngine}
use Rattle.engine_core.specs.TakingOver.{LeadsTo}
use Rattle.engine_core.proofs.OneMore.{once}
use Rattle.engine_core.proofs.Recording.{kept_sound}

-- the runs where this one is out or parked
abbrev pub with_out_run : LiveRun → Bool → RunsState → RunsState
with_out_run it out runs = record runs { runs = record runs.runs { list = with_run (record it { out = out }) runs.runs.list } }

pub parks_run : (setup : Setup) (history : List Record) (transport : Transport) (runs after : RunsState) (number : ℕ) (it : LiveRun) → run_of number runs.runs.list ≡ Some it → it.out ≡ true → after ≡ with_out_run it false runs → LeadsTo setup (world_of setup history transport runs.runs) (events_of (Called answers.Ok (Park number))) transport after.runs
parks_run setup history transport runs after number it found out same =
    let before : World = world_of setup history transport runs.runs in
    once setup before (with_out before it false) (Park number) answers.Ok transport after.runs
    (ap (parks before) found ∙ cond-true it.out (Some (replies answers.Ok, with_out before it false)) None out)
    (sym (ap (λ (r : RunsState). record (with_out before it false) { transport = transport; runs = r.runs }) same))

-- what is answered to a resume of this run, if there is one
abbrev resumed : World → Option LiveRun → Option (Reply × World)
resumed before it = unless_refused ((not (is_parked it), Unknown) ∷ []) before (option_map (resumes before) it)

pub resumes_run : (setup : Setup) (history : List Record) (transport : Transport) (runs after : RunsState) (number : ℕ) (it : LiveRun) → run_of number runs.runs.list ≡ Some it → it.out ≡ false → after ≡ with_out_run it true runs → LeadsTo setup (world_of setup history transport runs.runs) (events_of (Called answers.Ok (Resume number))) transport after.runs
resumes_run setup history transport runs after number it found out same =
    let before : World = world_of setup history transport runs.runs in
    once setup before (with_out before it true) (Resume number) answers.Ok transport after.runs
    (ap (resumed before) found ∙ cond-false (not (not it.out)) _ _ (ap (λ (b : Bool). not (not b)) out))
    (sym (ap (λ (r : RunsState). record (with_out before it true) { transport = transport; runs = r.runs }) same))

-- no run of that number is parked
none_resumes : (before : World) (o : Option LiveRun) → ((it : LiveRun) → o ≡ Some it → it.out ≡ true) → resumed before o ≡ Some (refused Unknown, before)
none_resumes before None none = refl
none_resumes before (Some it) none = cond-true (not (not it.out)) _ _ (ap (λ (b : Bool). not (not b)) (none it refl))

pub resumes_none : (setup : Setup) (history : List Record) (transport : Transport) (runs : RunsState) (number : ℕ) → ((it : LiveRun) → run_of number runs.runs.list ≡ Some it → it.out ≡ true) → LeadsTo setup (world_of setup history transport runs.runs) (events_of (Called (answers.Refused Unknown) (Resume number))) transport runs.runs
resumes_none setup history transport runs number none =
    let before : World = world_of setup history transport runs.runs in
    once setup before before (Resume number) (answers.Refused Unknown) transport runs.runs
    (none_resumes before (run_of number runs.runs.list) none) refl

-- there is room for the record of the park of a run that is out
pub room_to_park : (records capacity number : ℕ) (runs : List LiveRun) (it : LiveRun) → HistoryHasRoom records capacity runs → run_of number runs ≡ Some it → it.out ≡ true → records + 1 ≤ capacity
room_to_park records capacity number runs it room found out =
    let counts = found_counts run_key (λ (run : LiveRun). run.out) number runs it found in
    let one : cond {A = ℕ} it.out 1 0 ≡ 1 = cond-true it.out 1 0 out in
    omega (arith, room, counts, one)

-- and once it is parked for those of the others
pub room_left : (records capacity number greatest : ℕ) (runs : List LiveRun) (it : LiveRun) → AreRising 0 (map (λ (run : LiveRun). run.number) runs) greatest → HistoryHasRoom records capacity runs → run_of number runs ≡ Some it → it.out ≡ true → HistoryHasRoom (records + 1) capacity (with_run (record it { out = false }) runs)
room_left records capacity number greatest runs it rising room found out =
    let count = count_put run_key (λ (run : LiveRun). run.out) 0 runs greatest (record it { out = false }) it rising (run_found number runs it found) in
    let one : cond {A = ℕ} it.out 1 0 ≡ 1 = cond-true it.out 1 0 out in
    omega (arith, room, count, one)

-- a run is found once
pub is_same_run : (runs : List LiveRun) (number : ℕ) (it other : LiveRun) → run_of number runs ≡ Some it → run_of number runs ≡ Some other → it ≡ other
is_same_run runs number it other first second = let both : Some it ≡ Some other = sym first ∙ second in cc

-- what the world's laws say of a run of an engine: its queue exists, its program is that queue's, and its machine is reached
pub record IsKnownRun (setup : Setup) (it : LiveRun) : Type 0 where
  pub queue : it.queue < queue_count setup
  pub program : it.program ≡ (queue_setup setup it.queue).program
  pub reached : (n : ℕ) × Reached it.program n it.machine

pub known_run : (setup : Setup) (history : List Record) (transport : Transport) (runs : RunsState) (number : ℕ) (it : LiveRun) → KeepsEngine setup history transport runs → run_of number runs.runs.list ≡ Some it → IsKnownRun setup it
known_run setup history transport runs number it kept found =
    let sound = kept_sound setup history transport runs kept in
    record {
      queue = all_found run_key (λ (r : LiveRun). r.queue < queue_count setup) number runs.runs.list it sound.kept.runs.queues found;
      program = all_found run_key (λ (r : LiveRun). r.program ≡ (queue_setup setup r.queue).program) number runs.runs.list it sound.kept.runs.programs found;
      reached = sound.reached number it found;
    }

-- a run that is out again is found so
pub found_out : (runs after : RunsState) (number : ℕ) (it : LiveRun) → run_of number runs.runs.list ≡ Some it → after ≡ with_out_run it true runs → run_of number after.runs.list ≡ Some (record it { out = true })
found_out runs after number it found same =
    let its : it.number ≡ number = found_key run_key number runs.runs.list it found in
    let there : run_of it.number (with_run (record it { out = true }) runs.runs.list) ≡ Some (record it { out = true }) = put_same run_key (record it { out = true }) runs.runs.list it (run_found number runs.runs.list it found) in
    ap (λ (r : RunsState). run_of number r.runs.list) same
    ∙ subst (λ (n : ℕ). run_of n (with_run (record it { out = true }) runs.runs.list) ≡ Some (record it { out = true })) its there

-- one record more, in the room that there is
pub room_kept : (records capacity later more : ℕ) (runs : List LiveRun) → HistoryHasRoom (records + 1) capacity runs → later ≡ records + 1 → more ≡ capacity → HistoryHasRoom later more runs
room_kept records capacity later more runs room one same = omega (arith, room, one, same)
