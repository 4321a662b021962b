-- One record more keeps an engine.
use Rattle.std.proofs.Common.{◌≡◌, List, [], ◌∷◌, ◌++◌, length, ap, sym, subst, ◌∙◌}
use Rattle.std.proofs.lemmas.List.Concat.{flat_map-append}
use Rattle.std.proofs.Common.{append-nil}
use Rattle.engine_runs.specs.RunsState.{RunsState}
use Rattle.world_calls.specs.declared.record.Record.{Record}
use Rattle.world.specs.World.{Runs, Setup, Transport, World, beginning, queue_count}
use Rattle.world.specs.Event.{Event, Reply}
use Rattle.world.specs.WorldRun.{Leads, WorldRun}
use Rattle.world.specs.Flat.{events_of, flat}
use Rattle.world_laws.proofs.Leads.{leads_append, world_after_leads}
use Rattle.world_laws.proofs.Sound.{IsSound, run_sound}
use Rattle.engine_core.specs.EngineState.{world_of}
use Rattle.engine_core.specs.Invariant.{HoldEntries, KeepsEngine}
use Rattle.engine_core.specs.TakingOver.{LeadsTo}

pub flat_push : (history : List Record) (r : Record) → flat (history ++ r ∷ []) ≡ flat history ++ events_of r
flat_push history r = flat_map-append events_of history (r ∷ []) ∙ ap (λ xs. flat history ++ xs) (append-nil (events_of r))

-- a world to which the history leads, and which has what the fields say, is the fields read as a world
pub world_is : (setup : Setup) (history : List Record) (transport : Transport) (runs : Runs) (world : World) → WorldRun setup (flat history) world → world ≡ record world { transport = transport; runs = runs } → world_of setup history transport runs ≡ world
world_is setup history transport runs world run fields =
    ap (λ (w : World). record w { transport = transport; runs = runs }) (world_after_leads setup (beginning setup) (flat history) world run.1) ∙ sym fields

-- an engine before a call and after it, with one record more
pub record Goes (setup : Setup) (history later : List Record) (transport more : Transport) (runs after : RunsState) (r : Record) : Type 0 where
  pub leads : Leads setup (world_of setup history transport runs.runs) (events_of r) (world_of setup later more after.runs)
  pub kept : KeepsEngine setup later more after

pub goes : (setup : Setup) (history later : List Record) (transport more : Transport) (runs after : RunsState) (r : Record) → KeepsEngine setup history transport runs → later ≡ history ++ r ∷ [] → HoldEntries more.freezes after → LeadsTo setup (world_of setup history transport runs.runs) (events_of r) more after.runs → Goes setup history later transport more runs after r
goes setup history later transport more runs after r kept is holds to =
    let before : World = world_of setup history transport runs.runs in
    let run : WorldRun setup (flat later) to.world =
    subst (λ (xs : List (Event × Reply)). WorldRun setup xs to.world) (sym (ap flat is ∙ flat_push history r))
    (kept.run.run.0, leads_append setup (beginning setup) (flat history) (events_of r) before to.world kept.run.run.1 to.leads) in
    let is_world : world_of setup later more after.runs ≡ to.world = world_is setup later more after.runs to.world run to.is in
    record {
      leads = subst (λ (w : World). Leads setup before (events_of r) w) (sym is_world) to.leads;
      kept = record {
        run = record { lawful = kept.run.lawful; run = subst (λ (w : World). WorldRun setup (flat later) w) (sym is_world) run };
        tokens = holds;
      };
    }

-- what the world's laws say of an engine
pub kept_sound : (setup : Setup) (history : List Record) (transport : Transport) (runs : RunsState) → KeepsEngine setup history transport runs → IsSound setup (world_of setup history transport runs.runs)
kept_sound setup history transport runs kept = run_sound setup (flat history) (world_of setup history transport runs.runs) kept.run.lawful kept.run.run

pub opening_count : (setup : Setup) (history : List Record) (transport : Transport) (runs : RunsState) → KeepsEngine setup history transport runs → queue_count setup ≡ length transport.openings
opening_count setup history transport runs kept = sym (kept_sound setup history transport runs kept).kept.answers.queues
