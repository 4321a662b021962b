-- The stops of admitted segments, as the tables of CCBs and of runs carry them out.
use Rattle.std.proofs.Common.{◌≡◌, ℕ, suc, ◌+◌, arith, List, [], true, Option, Some, refl, ap, sym, subst, ◌∙◌, ltb-true}
use Rattle.std.proofs.lemmas.Bool.{and_parts, leb-true}
use Rattle.helpers.specs.declared.limits.HelperLimits.{HelperLimits}
use Rattle.helpers.specs.declared.request.Request.{Request}
use Rattle.helpers.specs.declared.columns.ArgKind.{ArgKind}
use Rattle.helpers.specs.declared.columns.Needs.{Needs}
use Rattle.helpers.specs.declared.columns.Change.{Change}
use Rattle.helpers.specs.declared.columns.Change.TheVariants as changes
use Rattle.helpers.specs.declared.columns.Tells.{Tells}
use Rattle.helpers.specs.declared.columns.Tells.TheVariants as tells
use Rattle.helpers.specs.Table.{row_of}
use Rattle.helpers.proofs.Together.{Wants, wanted, TellsOf, told}
use Rattle.helpers.specs.declared.request.Answer.{Answer}
use Rattle.bpf_insn.specs.declared.program.Slot.{Slot}
use Rattle.bpf_semantics.specs.MachineState.{MachineState}
use Rattle.bpf_semantics.specs.Calls.{meets, meets_need, meets_rule}
use Rattle.bpf_semantics.specs.Reached.{Reached}
use Rattle.bpf_semantics.specs.Step.{request_at, IsAnswer, StackHasRoom, HasRoomFor, answered}
use Rattle.bpf_semantics.specs.declared.stop.Stop.{Stop}
use Rattle.bpf_semantics.specs.declared.stop.Stop.TheVariants.{Helper, Exit}
use Rattle.interpreter.specs.Segments.{SegmentState, IsSegment, StandsAt}
use Rattle.engine_runs.specs.RunsState.{RunsState, tokens_at, tokens_of}
use Rattle.std.specs.List.{remove}
use Rattle.engine_runs.specs.RunPlaces.{HasRunAt}
use Rattle.world_calls.specs.declared.record.Record.{Record}
use Rattle.world_calls.specs.declared.record.Record.TheVariants.{Advance}
use Rattle.world_calls.specs.declared.record.StoppedAt.TheVariants.{Exit as at_exit_stop}
use Rattle.world.specs.World.{Runs, Transport, Setup, LiveRun, World}
use Rattle.world.specs.Lookups.{run_of, with_run}
use Rattle.world.specs.Flat.{events_of}
use Rattle.world.specs.Laws.FreezeLaws.{entries_of}
use Rattle.world.proofs.Lists.Found.{leave, put_same, found_key}
use Rattle.world.proofs.Steps.Moves.{run_key}
use Rattle.engine_core.specs.EngineState.{world_of}
use Rattle.engine_core.specs.Answers.{stopped_at, IsCode, NamesCode, StopsByCode}
use Rattle.engine_core.specs.Invariant.{HoldEntries, KeepsEngine}
use Rattle.engine_core.specs.TakingOver.{Goes, Stands, RunContinues, IsAdmitted, LeadsTo, LeadsBy, Does}
use Rattle.engine_core.proofs.PrivateWays.{with_machine}
use Rattle.engine_core.proofs.Holding.{run_changed, run_gone, tokens_here}
use Rattle.engine_core.proofs.Recording.{kept_sound}
use Rattle.engine_core.proofs.Going.{answered_reached}
use Rattle.engine_core.proofs.Stops.{Arrives, arrives, called, call_leads, nothing_held, exit_leads}

-- what the rule of a call says: there is room for the number of a freeze, and a status code is one
rule_room : (limits : HelperLimits) (m : MachineState) (request : Request) → meets_rule limits m request ≡ true → HasRoomFor m request
rule_room limits m request rule = by_change (row_of request.helper).machine (wanted request.helper)
  where
    by_change : (change : Change) → Wants change (row_of request.helper) → StackHasRoom m change
    by_change changes.Nothing wants = tt
    by_change changes.Holds wants = ltb-true _ _ (subst (λ (need : Needs). meets_need m need ≡ true) wants.1 (and_parts _ _ rule).0)
    by_change changes.GivesUp wants = tt
    by_change changes.Disposes wants = tt
    by_change (changes.Writes bytes) wants = tt

rule_code : (limits : HelperLimits) (m : MachineState) (request : Request) → meets_rule limits m request ≡ true → NamesCode request
rule_code limits m request rule = by_tells (row_of request.helper).tells (told request.helper)
  where
    by_tells : (tells : Tells) → TellsOf tells (row_of request.helper) → IsCode tells request.arguments
    by_tells tells.Name says = tt
    by_tells tells.Bytes says = tt
    by_tells tells.Code says =
        let asked = subst (λ (o : Option ArgKind). meets limits m request.arguments o request.arguments.first ≡ true) says (and_parts _ _ (and_parts _ _ rule).1).0 in
        leb-true _ _ (and_parts _ _ asked).1

-- a segment that is handed to an engine of these CCBs and runs
module _ (transport : Transport) (old : RunsState) (place : ℕ) (segment : SegmentState) (is : IsSegment segment) where
  pub arrival : (number : ℕ) (a : IsAdmitted transport old number place segment) (setup : Setup) (history : List Record) → KeepsEngine setup history transport old → Arrives setup (world_of setup history transport old.runs) number segment a.out.it
  arrival number a setup history kept = arrives setup (world_of setup history transport old.runs) number a.program segment kept.run.lawful (kept_sound setup history transport old kept) is a.out

  -- it stands at its call, whose rule holds
  pub stands_of : (number : ℕ) → IsAdmitted transport old number place segment → (request : Request) → segment.stop ≡ Helper request → StandsAt segment.to request
  stands_of number a request stop =
      let stands = called a.setup (world_of a.setup a.history transport old.runs) number segment a.out.it request (arrival number a a.setup a.history a.kept) stop in
      record {
        program = segment.program.program;
        is_program = is.accepted.is_program;
        call = subst (λ (p : List Slot). request_at p segment.to ≡ Some request) (sym a.out.next.segment_program_is) stands.0;
      }

  pub rule_of : (number : ℕ) (a : IsAdmitted transport old number place segment) (request : Request) → segment.stop ≡ Helper request → meets_rule a.setup.limits segment.to request ≡ true
  rule_of number a request stop = (called a.setup (world_of a.setup a.history transport old.runs) number segment a.out.it request (arrival number a a.setup a.history a.kept) stop).1

  pub room_of : (number : ℕ) (a : IsAdmitted transport old number place segment) (request : Request) → segment.stop ≡ Helper request → HasRoomFor segment.to request
  room_of number a request stop = rule_room a.setup.limits segment.to request (rule_of number a request stop)

  by_code : (number : ℕ) → IsAdmitted transport old number place segment → (stop : Stop) → segment.stop ≡ stop → StopsByCode stop
  by_code number a (Helper request) stop = rule_code a.setup.limits segment.to request (rule_of number a request stop)
  by_code number a (Exit r0) stop = tt

  pub code_of : (number : ℕ) → IsAdmitted transport old number place segment → StopsByCode segment.stop
  code_of number a = by_code number a segment.stop refl

  -- at its exit no entry names it
  pub exiting : (number : ℕ) (a : IsAdmitted transport old number place segment) (r0 : ℕ) → segment.stop ≡ Exit r0 → entries_of a.out.it.number transport.freezes ≡ []
  exiting number a r0 stop = nothing_held a.setup (world_of a.setup a.history transport old.runs) number segment a.out.it r0 (arrival number a a.setup a.history a.kept) stop

-- a run that goes on with another machine
machine_moved : (runs : List LiveRun) (number : ℕ) (it : LiveRun) (machine : MachineState) → run_of number runs ≡ Some it → run_of number (with_run (with_machine it machine) runs) ≡ Some (with_machine it machine)
machine_moved runs number it machine found =
    let named : it.number ≡ number = found_key run_key number runs it found in
    subst (λ (n : ℕ). run_of n (with_run (with_machine it machine) runs) ≡ Some (with_machine it machine)) named
    (put_same run_key (with_machine it machine) runs it (subst (λ (n : ℕ). run_of n runs ≡ Some it) (sym named) found))

-- the run is there too where the call has been carried out
pub still_there : (old changed : List LiveRun) (place : ℕ) (it : LiveRun) → changed ≡ old → HasRunAt old place it → HasRunAt changed place it
still_there old changed place it same at = subst (λ (runs : List LiveRun). HasRunAt runs place it) (sym same) at

pub continues : (old changed after : RunsState) (place : ℕ) (at : MachineState) (request : Request) (given : Answer) → changed.runs.list ≡ old.runs.list → IsAnswer at request given → Goes changed after place (answered request given at) → Stands changed after place (answered request given at) → RunContinues at (Helper request) old.runs.list after.runs.list place
continues old changed after place at request given same allowed goes stands = record {
  machine = answered request given at;
  stands = λ it here. stands it (still_there old.runs.list changed.runs.list place it same here);
  found = λ number it here found.
      ap (λ (r : RunsState). run_of number r.runs.list) (goes it (still_there old.runs.list changed.runs.list place it same here))
      ∙ machine_moved changed.runs.list number it (answered request given at) (ap (run_of number) same ∙ found);
  reached = λ segment ends n reached.
      let steps : suc (n + ends.segment_is.private) ≡ n + segment.steps = omega (arith, ends.segment_is.count) in
      subst (λ (k : ℕ). Reached segment.program.program k (answered request given at)) steps
      (answered_reached segment request given (answered request given at) ends.segment_is n reached ends.stop_is (subst (λ (m : MachineState). IsAnswer m request given) (sym ends.machine_is) allowed) (ap (answered request given) (sym ends.machine_is)));
}

-- a call that was carried out, with its run after it
pub call_ends : (transport more : Transport) (old changed after : RunsState) (place : ℕ) (segment : SegmentState) (request : Request) (given : Answer) → IsSegment segment → segment.stop ≡ Helper request → Does place segment request given transport old more changed → Goes changed after place (answered request given segment.to) → LeadsBy (stopped_at (Helper request)) given.r0 place segment transport old more after
call_ends transport more old changed after place segment request given is stop does goes number a setup history kept =
    let world : World = world_of setup history transport old.runs in
    subst (λ (r : RunsState). LeadsTo setup world (events_of (Advance number segment.steps (stopped_at (Helper request)) given.r0)) more r.runs)
    (sym (goes a.out.it (still_there old.runs.list changed.runs.list place a.out.it does.list a.there)))
    (call_leads setup world number segment a.out.it request given more changed.runs (arrival transport old place segment is number a setup history kept) stop (does.step number a setup history kept))

-- what each run holds then
pub call_holds : (transport more : Transport) (old changed after : RunsState) (place : ℕ) (segment : SegmentState) (request : Request) (given : Answer) (number : ℕ) → IsAdmitted transport old number place segment → Does place segment request given transport old more changed → Goes changed after place (answered request given segment.to) → HoldEntries more.freezes after
call_holds transport more old changed after place segment request given number a does goes =
    run_changed more.freezes changed after (with_machine a.out.it (answered request given segment.to)) does.tokens
    (goes a.out.it (still_there old.runs.list changed.runs.list place a.out.it does.list a.there))

-- the clause of `end`
abbrev pub Ends : RunsState → RunsState → ℕ → Type 0
Ends old after place =
    (it : LiveRun) → HasRunAt old.runs.list place it → after ≡ record { runs = record old.runs { list = leave run_key it.number old.runs.list }; tokens = remove old.tokens place }

-- and a run that is gone after its exit
pub exit_ends : (transport : Transport) (old after : RunsState) (place : ℕ) (segment : SegmentState) (r0 : ℕ) → IsSegment segment → segment.stop ≡ Exit r0 → Ends old after place → LeadsBy at_exit_stop r0 place segment transport old transport after
exit_ends transport old after place segment r0 is stop left number a setup history kept =
    let world : World = world_of setup history transport old.runs in
    let fewer : Runs = record old.runs { list = leave run_key a.out.it.number old.runs.list } in
    subst (λ (r : RunsState). LeadsTo setup world (events_of (Advance number segment.steps at_exit_stop r0)) transport r.runs) (sym (left a.out.it a.there))
    (record {
      world = world_of setup history transport fewer;
      leads = exit_leads setup world number segment a.out.it r0 (arrival transport old place segment is number a setup history kept) stop;
      is = refl;
    })

pub exit_holds : (transport : Transport) (old after : RunsState) (place : ℕ) (segment : SegmentState) (number : ℕ) → IsAdmitted transport old number place segment → Ends old after place → HoldEntries transport.freezes after
exit_holds transport old after place segment number a left =
    run_gone transport.freezes old after place old.runs.greatest a.out.it a.kept.tokens a.there
    (kept_sound a.setup a.history transport old a.kept).kept.runs.rising (left a.out.it a.there)

-- the run has no token then
pub no_token : (transport : Transport) (old : RunsState) (place : ℕ) (segment : SegmentState) (number : ℕ) (a : IsAdmitted transport old number place segment) → entries_of a.out.it.number transport.freezes ≡ [] → tokens_at old place ≡ []
no_token transport old place segment number a none = tokens_here transport.freezes old place a.out.it a.kept.tokens a.there ∙ ap tokens_of none
