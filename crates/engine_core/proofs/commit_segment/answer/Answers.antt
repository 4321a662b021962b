use Rattle.std.proofs.Common.{ℕ, sym, subst}
use Rattle.bpf_semantics.specs.MachineState.{MachineState}
use Rattle.bpf_semantics.specs.declared.stop.Stop.TheVariants.{Helper}
use Rattle.bpf_semantics.specs.Step.{HasRoomFor, IsAnswer, answered}
use Rattle.helpers.specs.declared.request.Request.{Request}
use Rattle.helpers.specs.declared.request.Answer.{Answer}
use Rattle.interpreter.specs.Segments.{SegmentState, StandsAt}
use Rattle.engine_runs.specs.RunsState.{RunsState}
use Rattle.world.specs.World.{Transport}
use Rattle.engine_core.specs.TakingOver.{Does, EndsAt, Goes, IsAdmitted, IsCalled, RefinesHelperStep}
use Rattle.engine_core.proofs.StopEnds.{stands_of, room_of, call_ends, call_holds, still_there, continues}
use Rattle.engine_core.proofs.commit_segment.answer.Goals as goal

-- the call at which such a segment ends
is_called : (transport : Transport) (old : RunsState) (place : ℕ) (machine : MachineState) (request : Request) (segment : SegmentState) → EndsAt segment machine (Helper request) → (number : ℕ) → IsAdmitted transport old number place segment → IsCalled transport old place segment request
is_called transport old place machine request segment ends number admitted = record { segment_is = ends.segment_is; stop = ends.stop_is; number = number; admitted = admitted }

-- what it did
done : (transport more : Transport) (old after : RunsState) (place : ℕ) (machine : MachineState) (request : Request) (given : Answer) → RefinesHelperStep place request given transport old more after → (segment : SegmentState) → EndsAt segment machine (Helper request) → (number : ℕ) → IsAdmitted transport old number place segment → Does place segment request given transport old more after
done transport more old after place machine request given answers segment ends number admitted = answers.does segment (is_called transport old place machine request segment ends number admitted)

-- by the machine in which it ends
goes_from : (changed after : RunsState) (place : ℕ) (machine : MachineState) (request : Request) (given : Answer) (segment : SegmentState) → EndsAt segment machine (Helper request) → Goes changed after place (answered request given machine) → Goes changed after place (answered request given segment.to)
goes_from changed after place machine request given segment ends goes = subst (λ (m : MachineState). Goes changed after place (answered request given m)) (sym ends.machine_is) goes

pub carry_out-given-requires : goal.carry_out-given-requires
carry_out-given-requires c = (c.requires.segment, is_called c.args.transport.now c.args.runs.now c.args.place c.args.to.value c.args.request.now c.requires.segment c.requires.ends c.requires.number c.requires.admitted)

pub go_on-spare-requires-clause-run : goal.go_on-spare-requires-clause-run
go_on-spare-requires-clause-run c =
    let it = done c.args.transport.now c.carry_out-given.new.transport c.args.runs.now c.carry_out-given.new.runs c.args.place c.args.to.value c.args.request.now c.carry_out-given.result c.carry_out-given.ensures c.requires.segment c.requires.ends c.requires.number c.requires.admitted in
    let run = c.requires.admitted.out.it in
    (run, still_there c.args.runs.now.runs.list c.carry_out-given.new.runs.runs.list c.args.place run it.list c.requires.admitted.there)

pub go_on-spare-requires-clause-stands : goal.go_on-spare-requires-clause-stands
go_on-spare-requires-clause-stands c =
    subst (λ (m : MachineState). StandsAt m c.args.request.now) c.requires.ends.machine_is
    (stands_of c.args.transport.now c.args.runs.now c.args.place c.requires.segment c.requires.ends.segment_is c.requires.number c.requires.admitted c.args.request.now c.requires.ends.stop_is)

pub go_on-spare-requires-clause-room : goal.go_on-spare-requires-clause-room
go_on-spare-requires-clause-room c =
    subst (λ (m : MachineState). HasRoomFor m c.args.request.now) c.requires.ends.machine_is
    (room_of c.args.transport.now c.args.runs.now c.args.place c.requires.segment c.requires.ends.segment_is c.requires.number c.requires.admitted c.args.request.now c.requires.ends.stop_is)

pub go_on-spare-requires-clause-allowed : goal.go_on-spare-requires-clause-allowed
go_on-spare-requires-clause-allowed c =
    subst (λ (m : MachineState). IsAnswer m c.args.request.now c.carry_out-given.result) c.requires.ends.machine_is
    (done c.args.transport.now c.carry_out-given.new.transport c.args.runs.now c.carry_out-given.new.runs c.args.place c.args.to.value c.args.request.now c.carry_out-given.result c.carry_out-given.ensures c.requires.segment c.requires.ends c.requires.number c.requires.admitted).allowed

pub returns-clause-leads : goal.returns-clause-leads
returns-clause-leads c = λ segment ends number admitted.
    let it = done c.args.transport.now c.carry_out-given.new.transport c.args.runs.now c.carry_out-given.new.runs c.args.place c.args.to.value c.args.request.now c.carry_out-given.result c.carry_out-given.ensures segment ends number admitted in
    call_ends c.args.transport.now c.carry_out-given.new.transport c.args.runs.now c.carry_out-given.new.runs c.go_on-spare.new.self c.args.place segment c.args.request.now c.carry_out-given.result ends.segment_is ends.stop_is it
    (goes_from c.carry_out-given.new.runs c.go_on-spare.new.self c.args.place c.args.to.value c.args.request.now c.carry_out-given.result segment ends c.go_on-spare.ensures.goes) number admitted

pub returns-clause-goes : goal.returns-clause-goes
returns-clause-goes c =
    let it = done c.args.transport.now c.carry_out-given.new.transport c.args.runs.now c.carry_out-given.new.runs c.args.place c.args.to.value c.args.request.now c.carry_out-given.result c.carry_out-given.ensures c.requires.segment c.requires.ends c.requires.number c.requires.admitted in
    continues c.args.runs.now c.carry_out-given.new.runs c.go_on-spare.new.self c.args.place c.args.to.value c.args.request.now c.carry_out-given.result it.list
    (subst (λ (m : MachineState). IsAnswer m c.args.request.now c.carry_out-given.result) c.requires.ends.machine_is it.allowed) c.go_on-spare.ensures.goes c.go_on-spare.ensures.place

pub returns-clause-tokens : goal.returns-clause-tokens
returns-clause-tokens c =
    let it = done c.args.transport.now c.carry_out-given.new.transport c.args.runs.now c.carry_out-given.new.runs c.args.place c.args.to.value c.args.request.now c.carry_out-given.result c.carry_out-given.ensures c.requires.segment c.requires.ends c.requires.number c.requires.admitted in
    call_holds c.args.transport.now c.carry_out-given.new.transport c.args.runs.now c.carry_out-given.new.runs c.go_on-spare.new.self c.args.place c.requires.segment c.args.request.now c.carry_out-given.result c.requires.number c.requires.admitted it
    (goes_from c.carry_out-given.new.runs c.go_on-spare.new.self c.args.place c.args.to.value c.args.request.now c.carry_out-given.result c.requires.segment c.requires.ends c.go_on-spare.ensures.goes)
