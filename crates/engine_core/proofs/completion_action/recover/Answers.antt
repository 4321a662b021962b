use Rattle.std.proofs.Common.{◌≡◌, ℕ, ◌+◌, List, [], ◌∷◌, ◌++◌, Option, Some, None, refl, ap, sym, subst, ◌∙◌}
use Rattle.std.specs.Arc.{arc_value}
use Rattle.std.specs.Option.{is_some, option_to_list}
use Rattle.std.proofs.lemmas.Bool.{cond-true, cond-false}
use Rattle.ccb.specs.declared.ccb.Ccb.{Ccb}
use Rattle.ccb.specs.Completion.{Outcome}
use Rattle.ccb.specs.Ccb.{completed}
use Rattle.ccb.specs.Context.{context_of}
use Rattle.freeze_ledger.specs.declared.freeze.Freeze.{Freeze}
use Rattle.freeze_ledger.specs.declared.freeze.Holder.TheVariants.{Run}
use Rattle.ccb.specs.declared.place.Place.{Place}
use Rattle.ccb.specs.declared.place.Place.TheVariants.{Device}
use Rattle.freeze_ledger.specs.Freezes.{meets_limit}
use Rattle.bpf_insn.specs.declared.program.Slot.{Slot}
use Rattle.bpf_semantics.specs.MachineState.{MachineState, entry}
use Rattle.engine_runs.specs.RunsState.{RunsState, told, tokens_of, run_for}
use Rattle.bpf_accepted.specs.Verdict.{Verdict}
use Rattle.engine_transport.specs.Freezing.{IsTaken, took}
use Rattle.engine_transport.specs.Listed.{IsPlaceOf}
use Rattle.world.specs.declared.ccb_state.CcbState.TheVariants.{Active, InRecovery}
use Rattle.world.specs.World.{LiveRun, Runs, Setup, Transport, World, opening, queue_setup}
use Rattle.world.specs.Lookups.{with_ccb}
use Rattle.world_calls.specs.declared.call_answer.CallAnswer.TheVariants as answers
use Rattle.world.specs.Event.{Reply, replies}
use Rattle.world.specs.CcbSteps.{recovers, run_meets_limit}
use Rattle.world.proofs.Lists.Found.{found_key}
use Rattle.world.proofs.Steps.Moves.{ccb_found, ccb_key}
use Rattle.engine_core.specs.EngineState.{world_of}
use Rattle.engine_core.specs.Invariant.{HoldEntries}
use Rattle.engine_core.specs.RunState.{RunState}
use Rattle.engine_core.proofs.Holding.{run_started}
use Rattle.engine_core.proofs.Recording.{kept_sound}
use Rattle.engine_core.proofs.completion_action.recover.Goals as goal

-- the CCB in recovery
abbrev failed : World → Ccb → Outcome → Option Freeze → Transport
failed world ccb outcome t =
    record (took world.transport t) { live = with_ccb (record { ccb = completed ccb outcome (is_some t); state = InRecovery }) world.transport.live }

-- the run that starts
abbrev begun : World → Ccb → ℕ → Outcome → List Slot → Option Freeze → Runs
begun world ccb controller outcome program t =
    let number = world.runs.greatest + 1 in
    record world.runs {
      list = world.runs.list ++ run_for number ccb controller program (entry (context_of (completed ccb outcome (is_some t))) (told t)) ∷ [];
      greatest = number;
    }

abbrev started : World → Ccb → ℕ → Outcome → List Slot → Option Freeze → Reply × World
started world ccb controller outcome program t = (
  replies (answers.Started (world.runs.greatest + 1) (told t)),
  record world { transport = failed world ccb outcome t; runs = begun world ccb controller outcome program t },
)

-- what a failed completion leads to, by what was taken
recovers_so : (setup : Setup) (world : World) (ccb : Ccb) (controller : ℕ) (outcome : Outcome) (program : List Slot) (t : Option Freeze) → IsTaken world.transport (Device ccb.queue) (Run (world.runs.greatest + 1)) t → (queue_setup setup ccb.queue.0).program ≡ program → (queue_setup setup ccb.queue.0).controller ≡ controller → recovers setup world ccb outcome ≡ started world ccb controller outcome program t
recovers_so setup world ccb controller outcome program None full is under =
    cond-true (meets_limit (Device ccb.queue) world.transport.freezes world.transport.greatest_freeze) _ _ full
    ∙ (λ i. started world ccb (under i) outcome (is i) None)
recovers_so setup world ccb controller outcome program (Some f) taken is under =
    cond-false (meets_limit (Device ccb.queue) world.transport.freezes world.transport.greatest_freeze) _ _ taken.0
    ∙ ((λ i. started world ccb (under i) outcome (is i) (Some (record { number = world.transport.greatest_freeze + 1; place = Device ccb.queue; holder = Run (world.runs.greatest + 1) })))
    ∙ ap (λ (g : Freeze). started world ccb controller outcome program (Some g)) (sym taken.1))

holder_is : (transport : Transport) (place : Place) (number : ℕ) (t : Option Freeze) → IsTaken transport place (Run number) t → (f : Freeze) → t ≡ Some f → f.holder ≡ Run number
holder_is transport place number None full f e = absurd (let bad : None ≡ Some f = e in cc)
holder_is transport place number (Some g) taken f e =
    let same : g ≡ f = cc in
    ap (λ (x : Freeze). x.holder) (sym same) ∙ ap (λ (x : Freeze). x.holder) taken.1

pub next_number-requires : goal.next_number-requires
next_number-requires c world =
    ap (λ (runs : RunsState). run_meets_limit (record world { runs = runs.runs })) (c.place_for_machine-2.ensures ∙ (c.place_for_machine.ensures ∙ c.place_for_run.ensures)) ∙ c.requires.room world

pub start-started-requires : goal.start-started-requires
start-started-requires c world =
    ap (λ (runs : RunsState). run_meets_limit (record world { runs = runs.runs })) (c.place_for_machine-2.ensures ∙ (c.place_for_machine.ensures ∙ c.place_for_run.ensures)) ∙ c.requires.room world

pub fail-ccb-requires-clause-active : goal.fail-ccb-requires-clause-active
fail-ccb-requires-clause-active c =
    ccb_found c.args.completion.now.ccb.0 c.args.transport.now.live (record { ccb = c.args.ccb; state = Active }) (c.requires.active (opening c.args.setting.now))

pub fail-ccb-requires-clause-there : goal.fail-ccb-requires-clause-there
fail-ccb-requires-clause-there c =
    let number : c.args.ccb.number.0 ≡ c.args.completion.now.ccb.0 = found_key ccb_key c.args.completion.now.ccb.0 c.args.transport.now.live (record { ccb = c.args.ccb; state = Active }) (c.requires.active (opening c.args.setting.now)) in
    subst (λ (n : ℕ). IsPlaceOf n c.args.transport.now.live c.args.place) (sym number) c.requires.there

run_is : (c : goal.After-new) → c.start-started.result.run ≡ c.args.runs.now.runs.greatest + 1
run_is c = c.start-started.ensures.run ∙ ap (λ (runs : RunsState). runs.runs.greatest + 1) (c.place_for_machine-2.ensures ∙ (c.place_for_machine.ensures ∙ c.place_for_run.ensures))

taken_is : (c : goal.After-new) → IsTaken c.args.transport.now (Device c.args.ccb.queue) (Run (c.args.runs.now.runs.greatest + 1)) c.fail-ccb.result.1
taken_is c =
    subst (λ (n : ℕ). IsTaken c.args.transport.now (Device c.args.ccb.queue) (Run n) c.fail-ccb.result.1)
    (c.next_number.ensures ∙ ap (λ (runs : RunsState). runs.runs.greatest + 1) (c.place_for_machine-2.ensures ∙ (c.place_for_machine.ensures ∙ c.place_for_run.ensures))) c.fail-ccb.ensures.taken

pub returns-clause-step : goal.returns-clause-step
returns-clause-step c world =
    let at : World = record world { transport = c.args.transport.now; runs = c.args.runs.now.runs } in
    let t : Option Freeze = c.fail-ccb.result.1 in
    let ccb : Ccb = completed c.args.ccb c.args.completion.now (is_some t) in
    let same : c.place_for_machine-2.new.self ≡ c.args.runs.now = c.place_for_machine-2.ensures ∙ (c.place_for_machine.ensures ∙ c.place_for_run.ensures) in
    let program : List Slot = (arc_value c.in_ok-recorded.recorded).program in
    let program_is : (queue_setup c.args.setting.now c.args.ccb.queue.0).program ≡ program = sym (ap (λ (v : Verdict). v.program) c.in_ok-recorded.ensures ∙ c.program-program.ensures.program) in
    let machine_is : c.start-started.new.machine ≡ entry (context_of ccb) (told t) = c.start-started.ensures.machine ∙ ap (λ (b : Ccb). entry (context_of b) (told t)) c.fail-ccb.ensures.ccb in
    let transport_is : c.fail-ccb.new.self ≡ failed at c.args.ccb c.args.completion.now t =
    c.fail-ccb.ensures.state ∙ ap (λ (b : Ccb). record (took c.args.transport.now t) { live = with_ccb (record { ccb = b; state = InRecovery }) c.args.transport.now.live }) c.fail-ccb.ensures.ccb in
    let under : (queue_setup c.args.setting.now c.args.ccb.queue.0).controller ≡ c.controller.result = sym c.controller.ensures.value in
    let begun_by : RunsState → ℕ → Ccb → MachineState → Runs = λ runs number b m. record runs.runs { list = runs.runs.list ++ run_for number b c.controller.result program m ∷ []; greatest = number } in
    let runs_are : c.start-started.new.self.runs ≡ begun at c.args.ccb c.controller.result c.args.completion.now program t =
    ap (λ (r : RunsState). r.runs) c.start-started.ensures.state ∙ (λ i. begun_by (same i) (run_is c i) (c.fail-ccb.ensures.ccb i) (machine_is i)) in
    recovers_so c.args.setting.now at c.args.ccb c.controller.result c.args.completion.now program t (taken_is c) program_is under
    ∙ sym (λ i. (replies (answers.Started ((ap (λ (r : RunState). r.number) c.new.ensures ∙ run_is c) i) (c.start-started.ensures.freeze i)), record world { transport = transport_is i; runs = runs_are i }))

pub returns-clause-out : goal.returns-clause-out
returns-clause-out c world =
    let program : (arc_value c.in_ok-recorded.recorded).program ≡ (arc_value c.in_ok-handed.handed).program =
    ap (λ (v : Verdict). v.program) (c.in_ok-recorded.ensures ∙ sym c.in_ok-handed.ensures) in
    rw (c.new.ensures) (record {
      out = record { it = _; found = c.start-started.ensures.found; out = refl; program_is = program; machine_is = refl };
      budget = ap (λ (v : Verdict). v.budget) c.in_ok-handed.ensures
          ∙ (c.program-program.ensures.budget ∙ ap (λ (b : Ccb). (queue_setup c.args.setting.now b.queue.0).budget) (sym c.fail-ccb.ensures.ccb));
      limits = ap (λ (v : Verdict). v.limits) c.in_ok-handed.ensures ∙ c.program-program.ensures.limits;
    })

pub returns-clause-tokens : goal.returns-clause-tokens
returns-clause-tokens c =
    let t : Option Freeze = c.fail-ccb.result.1 in
    let same : c.place_for_machine-2.new.self ≡ c.args.runs.now = c.place_for_machine-2.ensures ∙ (c.place_for_machine.ensures ∙ c.place_for_run.ensures) in
    let before : World = world_of c.args.setting.now c.requires.kept.0 c.args.transport.now c.args.runs.now.runs in
    let it : LiveRun = run_for c.start-started.result.run c.fail-ccb.result.0 c.controller.result (arc_value c.in_ok-recorded.recorded).program c.start-started.new.machine in
    subst (λ (fs : List Freeze). HoldEntries fs c.start-started.new.self) (sym (ap (λ (m : Transport). m.freezes) c.fail-ccb.ensures.state))
    (run_started c.args.setting.now before c.args.runs.now c.start-started.new.self t it (kept_sound c.args.setting.now c.requires.kept.0 c.args.transport.now c.args.runs.now c.requires.kept.1) refl c.requires.kept.1.tokens
    (holder_is c.args.transport.now (Device c.args.ccb.queue) (c.args.runs.now.runs.greatest + 1) t (taken_is c)) (run_is c)
    (ap (λ (r : RunsState). r.runs.list) c.start-started.ensures.state ∙ ap (λ (r : RunsState). r.runs.list ++ it ∷ []) same)
    (ap (λ (r : RunsState). r.tokens) c.start-started.ensures.state ∙ ap (λ (r : RunsState). r.tokens ++ tokens_of (option_to_list t) ∷ []) same))
