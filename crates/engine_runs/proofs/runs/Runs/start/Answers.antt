use Rattle.std.proofs.Common.{◌+◌, [], ◌∷◌, ◌++◌, ◌<◌, map, length, true, Some, refl, ap, sym, subst, ◌∙◌, arith}
use Rattle.std.specs.Arc.{arc_value}
use Rattle.std.proofs.lemmas.List.{map_push, length-map}
use Rattle.bpf_semantics.specs.MachineState.{MachineState}
use Rattle.cam_numbered_slots.specs.NumberedState.{NumberedState}
use Rattle.engine_runs.specs.declared.run_record.RunRecord.{RunRecord}
use Rattle.engine_runs.specs.RunsState.{RunsState, run_for, seen, tokens_in}
use Rattle.engine_runs.specs.LiveRuns.{live_of}
use Rattle.engine_runs.proofs.Records.{found_last}
use Rattle.engine_runs.proofs.Kept.{HasRoom, has_room, rises_on, kept_started, seen_is}
use Rattle.engine_runs.proofs.runs.Runs.start.Goals as goal

room : (c : goal.After-push-arg-1) → (length c.self.inside.records.values < 256) × (c.self.inside.greatest < 4294967295)
room c =
    let it = has_room (seen c.self.inside.records.values c.self.inside.greatest c.self.inside.tables).runs (subst (λ (s : RunsState). HasRoom s.runs) (sym c.self.view_is) c.requires) in
    (omega (arith, it.0, length-map c.self.inside.records.values live_of), it.1)

pub overflow_add-number : goal.overflow_add-number
overflow_add-number c =
    let it = has_room (seen c.self.inside.records.values c.self.inside.greatest c.self.inside.tables).runs (subst (λ (s : RunsState). HasRoom s.runs) (sym c.self.view_is) c.requires) in
    omega (arith, it.1)

-- what was pushed
abbrev pub pushed : goal.After-self-1 → RunRecord
pushed c = record {
  number = c.self.inside.greatest + 1;
  ccb = c.args.ccb.now.number;
  queue = c.args.ccb.now.queue;
  controller = c.args.controller;
  program = c.args.program;
  machine = record c.args.place.machine { value = c.copy_from.new.self };
  out = true;
  tokens = record c.args.place.tokens { value = c.taken_at_start-freeze.new.tokens };
}

pub push-requires-clause-room : goal.push-requires-clause-room
push-requires-clause-room c = omega (arith, (room c).0, c.self.invariant.room)

pub push-requires-clause-rising : goal.push-requires-clause-rising
push-requires-clause-rising c = rises_on c.self.inside.records c.self.inside.greatest c.self.invariant

pub invariant_of-self : goal.invariant_of-self
invariant_of-self c =
    let it = has_room (seen c.self.inside.records.values c.self.inside.greatest c.self.inside.tables).runs (subst (λ (s : RunsState). HasRoom s.runs) (sym c.self.view_is) c.requires) in
    let few : length c.self.inside.records.values < 256 = omega (arith, it.0, length-map c.self.inside.records.values live_of) in
    rw c.push.ensures (kept_started c.self.inside.records c.self.inside.greatest (pushed c) c.self.invariant few refl)

pub returns-clause-state : goal.returns-clause-state
returns-clause-state c =
    rw (← c.self.view_is)
    (seen_is _ (c.self.inside.greatest + 1) c.self.inside.tables _ _
    (ap (λ (s : NumberedState RunRecord). map live_of s.values) c.push.ensures
    ∙ (map_push live_of c.self.inside.records.values (pushed c)
    ∙ ap (λ (m : MachineState). map live_of c.self.inside.records.values ++ run_for (c.self.inside.greatest + 1) c.args.ccb.now c.args.controller (arc_value c.args.program).program m ∷ []) c.copy_from.ensures))
    (ap (λ (s : NumberedState RunRecord). map tokens_in s.values) c.push.ensures
    ∙ (map_push tokens_in c.self.inside.records.values (pushed c)
    ∙ ap (λ ts. map tokens_in c.self.inside.records.values ++ ts ∷ []) c.taken_at_start-freeze.ensures.tokens)))

pub returns-clause-found : goal.returns-clause-found
returns-clause-found c =
    found_last c.self.inside.records.values c.push.new.self.values (pushed c) c.self.inside.greatest c.self.invariant.rising (ap (λ (s : NumberedState RunRecord). s.values) c.push.ensures) refl
    ∙ ap (λ (m : MachineState). Some (run_for (c.self.inside.greatest + 1) c.args.ccb.now c.args.controller (arc_value c.args.program).program m)) c.copy_from.ensures
