-- An engine that follows no other, before its first event.
use Rattle.std.proofs.Common.{◌≡◌, ℕ, ◌≤◌, List, [], map, Option, Some, None, refl, ap, sym, subst, ◌∙◌, arith}
use Rattle.engine_runs.specs.RunsState.{RunsState, opened_runs, tokens_of}
use Rattle.world.specs.World.{LiveRun, Setup, Transport, World, beginning, beginning_of, opening}
use Rattle.world.specs.Beginning.{Begins, IsBeginning}
use Rattle.world.specs.Lawful.{IsLawful}
use Rattle.world.specs.Laws.FreezeLaws.{entries_of}
use Rattle.world_laws.proofs.Over.{begins_over, lawful_over}
use Rattle.engine_core.specs.EngineState.{EngineState, opened, world_of}
use Rattle.engine_core.specs.Invariant.{HistoryHasRoom, KeepsEngine}
use Rattle.engine_core.specs.Settings.{begun_with, setup_over}

-- its fields, read as a world
abbrev fields_of : Setup → Option World → World
fields_of setup carried = record { transport = (opening setup).transport; runs = (opening setup).runs; ended = (beginning_of setup carried).ended }

pub world_alone : (setup : Setup) (transport : Transport) (runs : RunsState) → setup.carried ≡ None → transport ≡ (opening setup).transport → runs ≡ opened_runs setup.tables → world_of setup [] transport runs.runs ≡ opening setup
world_alone setup transport runs alone first second =
    ap (λ (t : Transport). world_of setup [] t runs.runs) first
    ∙ (ap (λ (r : RunsState). world_of setup [] (opening setup).transport r.runs) second
    ∙ ap (fields_of setup) alone)

-- they are those before the first event
pub begun_alone : (setup : Setup) (transport : Transport) (runs : RunsState) → setup.carried ≡ None → transport ≡ (opening setup).transport → runs ≡ opened_runs setup.tables → world_of setup [] transport runs.runs ≡ beginning setup
begun_alone setup transport runs alone first second = world_alone setup transport runs alone first second ∙ sym (ap (beginning_of setup) alone)

pub keeps_alone : (setup : Setup) (transport : Transport) (runs : RunsState) → IsLawful setup → Begins setup → setup.carried ≡ None → transport ≡ (opening setup).transport → runs ≡ opened_runs setup.tables → KeepsEngine setup [] transport runs
keeps_alone setup transport runs lawful begins alone first second = record {
  run = record { lawful = lawful; run = (begins, sym (begun_alone setup transport runs alone first second)) };
  tokens = rw second refl;
}

-- what contracts see of it
abbrev state_begun : Setup → World → EngineState
state_begun setup world = record { setup = setup; history = []; taken = 0; world = world }

pub seen_alone : (setup : Setup) (transport : Transport) (runs : RunsState) → setup.carried ≡ None → transport ≡ (opening setup).transport → runs ≡ opened_runs setup.tables → state_begun setup (world_of setup [] transport runs.runs) ≡ opened setup
seen_alone setup transport runs alone first second = ap (state_begun setup) (world_alone setup transport runs alone first second)

-- ---- the same of an engine's own setup, over nothing

pub same : (config : Setup) (over : Option World) → config.carried ≡ None → over ≡ None → setup_over config over ≡ config
same config over alone none = ap (setup_over config) (none ∙ sym alone)

pub keeps_opened : (config : Setup) (over : Option World) (transport : Transport) (runs : RunsState) → IsLawful config → Begins config → config.carried ≡ None → over ≡ None
    → transport ≡ (opening config).transport → runs ≡ opened_runs config.tables → KeepsEngine (setup_over config over) [] transport runs
keeps_opened config over transport runs lawful begins alone none first second =
    subst (λ (s : Setup). KeepsEngine s [] transport runs) (sym (same config over alone none)) (keeps_alone config transport runs lawful begins alone first second)

pub seen_opened : (config : Setup) (over : Option World) (transport : Transport) (runs : RunsState) → config.carried ≡ None → over ≡ None
    → transport ≡ (opening config).transport → runs ≡ opened_runs config.tables
    → state_begun (setup_over config over) (world_of (setup_over config over) [] transport runs.runs) ≡ opened config
seen_opened config over transport runs alone none first second =
    ap (λ (s : Setup). state_begun s (world_of s [] transport runs.runs)) (same config over alone none) ∙ seen_alone config transport runs alone first second

-- ---- an engine that takes over what these parts say

abbrev left_of : Transport → RunsState → World
left_of transport runs = record { transport = transport; runs = runs.runs; ended = [] }

pub keeps_begun : (config : Setup) (over : Option World) (transport : Transport) (runs : RunsState) → IsLawful config → IsBeginning config (record { transport = transport; runs = runs.runs; ended = [] }) → runs.tokens ≡ []
    → over ≡ Some (record { transport = transport; runs = runs.runs; ended = [] }) → KeepsEngine (setup_over config over) [] transport runs
keeps_begun config over transport runs lawful begins none is =
    let world = left_of transport runs in
    subst (λ (o : Option World). KeepsEngine (setup_over config o) [] transport runs) (sym is) (record {
      run = record { lawful = lawful_over config (Some world) lawful; run = (begins_over config (Some world) world begins, refl) };
      tokens = none ∙ sym (ap (λ (l : List LiveRun). map (λ run. tokens_of (entries_of run.number transport.freezes)) l) begins.no_run);
    })

pub seen_begun : (config : Setup) (over : Option World) (transport : Transport) (runs : RunsState) → over ≡ Some (record { transport = transport; runs = runs.runs; ended = [] })
    → state_begun (setup_over config over) (world_of (setup_over config over) [] transport runs.runs) ≡ begun_with config (record { transport = transport; runs = runs.runs; ended = [] })
seen_begun config over transport runs is = ap (λ (o : Option World). state_begun (setup_over config o) (world_of (setup_over config o) [] transport runs.runs)) is

-- there is room for the parks of its runs, since there are none
pub room_begun : (config : Setup) (transport : Transport) (runs : RunsState) (capacity : ℕ) → IsBeginning config (record { transport = transport; runs = runs.runs; ended = [] }) → HistoryHasRoom 0 capacity runs.runs.list
room_begun config transport runs capacity begins = subst (λ (l : List LiveRun). HistoryHasRoom 0 capacity l) (sym begins.no_run) (omega arith)
