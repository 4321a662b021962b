-- Runs of the world, joined and split, and what holds along them.
use Rattle.std.proofs.Common.{◌≡◌, List, [], ◌∷◌, ◌++◌, refl, ap, sym, subst, ◌∙◌}
use Rattle.world.specs.World.{Setup, World, beginning}
use Rattle.world.specs.Event.{Event, Reply}
use Rattle.world.specs.Step.{WorldStep}
use Rattle.world.specs.WorldRun.{Leads, WorldRun, led_to, world_after}
use Rattle.world.specs.Limits.{KeepsLimits}
use Rattle.world.specs.Laws.LimitLaws.{LimitsAreKept}
use Rattle.world_laws.proofs.Steps.Cases.{case_of}
use Rattle.world.proofs.Steps.Moves.{KeepsLists}
use Rattle.world_laws.proofs.Kept.{case_keeps_limits, step_keeps, beginning_keeps, beginning_keeps_limits}

-- a run and one step more are a run
pub leads_push : (setup : Setup) (before : World) (xs : List (Event × Reply)) (between : World) (event : Event) (reply : Reply) (after : World) → Leads setup before xs between → WorldStep setup between event reply after → Leads setup before (xs ++ (event, reply) ∷ []) after
leads_push setup before [] between event reply after run e = (after, rw run e, refl)
leads_push setup before (x ∷ xs) between event reply after run e = (run.0, run.1, leads_push setup run.0 xs between event reply after run.2 e)

-- two runs, one after the other
pub leads_split : (setup : Setup) (before : World) (xs ys : List (Event × Reply)) (after : World) → Leads setup before (xs ++ ys) after → (between : World) × Leads setup before xs between × Leads setup between ys after
leads_split setup before [] ys after run = (before, refl, run)
leads_split setup before (x ∷ xs) ys after run =
    let rest = leads_split setup run.0 xs ys after run.2 in
    (rest.0, (run.0, run.1, rest.1), rest.2)

-- runs are joined end to end
pub leads_append : (setup : Setup) (before : World) (xs ys : List (Event × Reply)) (between after : World) → Leads setup before xs between → Leads setup between ys after → Leads setup before (xs ++ ys) after
leads_append setup before [] ys between after first second = subst (λ (w : World). Leads setup w ys after) (sym first) second
leads_append setup before (x ∷ xs) ys between after first second = (first.0, first.1, leads_append setup first.0 xs ys between after first.2 second)

pub leads_keeps : (setup : Setup) (before : World) (xs : List (Event × Reply)) (after : World) → Leads setup before xs after → KeepsLists setup before → KeepsLists setup after
leads_keeps setup before [] after run kept = subst (KeepsLists setup) run kept
leads_keeps setup before (x ∷ xs) after run kept = leads_keeps setup run.0 xs after run.2 (step_keeps setup before x.0 x.1 run.0 run.1 kept)

pub lists_are_kept : (setup : Setup) (xs : List (Event × Reply)) (world : World) → WorldRun setup xs world → KeepsLists setup world
lists_are_kept setup xs world run = leads_keeps setup (beginning setup) xs world run.1 (beginning_keeps setup run.0)

leads_keeps_limits : (setup : Setup) (before : World) (xs : List (Event × Reply)) (after : World) → Leads setup before xs after → KeepsLimits setup before → KeepsLimits setup after
leads_keeps_limits setup before [] after run kept = subst (KeepsLimits setup) run kept
leads_keeps_limits setup before (x ∷ xs) after run kept =
    leads_keeps_limits setup run.0 xs after run.2 (case_keeps_limits setup before x.0 x.1 run.0 (case_of setup before x.0 x.1 run.0 run.1) kept)

pub limits_are_kept : LimitsAreKept
limits_are_kept setup lawful xs world run = leads_keeps_limits setup (beginning setup) xs world run.1 (beginning_keeps_limits setup lawful run.0)

-- events that lead to a world lead there by the steps alone
pub world_after_leads : (setup : Setup) (before : World) (xs : List (Event × Reply)) (after : World) → Leads setup before xs after → world_after setup before xs ≡ after
world_after_leads setup before [] after run = run
world_after_leads setup before (x ∷ xs) after run =
    ap (λ (w : World). world_after setup w xs) (ap (led_to before) run.1) ∙ world_after_leads setup run.0 xs after run.2
