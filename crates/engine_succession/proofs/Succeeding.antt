-- What an engine leaves is what the one that follows it takes over.
use Rattle.std.proofs.Common.{◌≡◌, ℕ, ◌≤◌, List, [], ◌∷◌, length, Some, ap, refl, subst, sym, ◌∙◌, arith}
use Rattle.freeze_ledger.specs.declared.freeze.Freeze.{Freeze}
use Rattle.world_calls.specs.declared.carried_line.CarriedLine.{CarriedLine}
use Rattle.world_calls.specs.declared.record.Record.{Record}
use Rattle.world.specs.Beginning.{IsBeginning}
use Rattle.world.specs.Flat.{flat}
use Rattle.world.specs.Lawful.{IsLawful}
use Rattle.world.specs.World.{LiveRun, Setup, World}
use Rattle.engine_beginning.specs.Lines.{lines_of}
use Rattle.engine_carried.proofs.Beginning.{taken_over_begins}
use Rattle.engine_carried.proofs.Leaving.{leaves_a_beginning}
use Rattle.engine_carried.specs.TakenOver.{Fits, taken_over}
use Rattle.engine_carried.specs.declared.numbering.Numbering.{Numbering}
use Rattle.engine_core.specs.ByNumber.{NumberedState, engine_of, guests_of, opened_numbered}
use Rattle.engine_core.specs.EngineState.{EngineState, IsRun}
use Rattle.engine_core.specs.Settings.{begun_with, setup_over}
use Rattle.engine_succession.specs.declared.beginning.BeginFault.TheVariants.{DoesNotFit}
use Rattle.engine_succession.specs.FromLines.{BeginsNumbered, BeginsWith, IsRefused, IsWorldOf}
use Rattle.engine_succession.specs.Numbered.{left_behind}
use Rattle.engine_succession.specs.Succession.{MayBeFollowed, TakesOver}
use Rattle.engine_succession.proofs.Refused.{none_is_refused}

pub none_of : (list : List LiveRun) → length list ≤ 0 → list ≡ []
none_of [] few = refl
none_of (run ∷ list) few = absurd (omega (arith, few))

-- the world that is taken over is one that may be
pub begins : (numbering : Numbering) (old : EngineState) (config : Setup) → IsRun old → IsLawful config → MayBeFollowed old config → IsBeginning config (taken_over numbering old.setup config old.world)
begins numbering old config run lawful may =
    taken_over_begins numbering old.setup config old.world lawful (leaves_a_beginning old.setup run.lawful (flat old.history) old.world run.run may.no_run) may.fits

pub takes_over : (numbering : Numbering) (old : EngineState) (config : Setup) (new : EngineState) (guests : List Freeze) (lines : List CarriedLine) → IsRun old → IsLawful config → MayBeFollowed old config
    → lines ≡ lines_of (taken_over numbering old.setup config old.world) → BeginsWith config lines new guests → TakesOver (taken_over numbering old.setup config old.world) config new guests lines
takes_over numbering old config new guests lines run lawful may are it =
    let same = it.has.only (taken_over numbering old.setup config old.world) (begins numbering old config run lawful may) (sym are) in
    record {
      engine_is = it.engine_is ∙ ap (begun_with config) (sym same);
      guests_are = it.guests_are ∙ ap (λ (w : World). guests_of w.transport.freezes) (sym same);
      lines_are = are;
    }

-- so no line of it is refused
pub never_refused : (numbering : Numbering) (old : EngineState) (config : Setup) (lines : List CarriedLine) (place : ℕ) → IsRun old → IsLawful config → MayBeFollowed old config
    → lines ≡ lines_of (taken_over numbering old.setup config old.world) → IsRefused config lines (DoesNotFit place) → ⊥
never_refused numbering old config lines place run lawful may are refused =
    none_is_refused config lines place refused (taken_over numbering old.setup config old.world) (begins numbering old config run lawful may) (sym are)

-- the same of engines that keep no history: the world that is taken over, and the engine that begins with it
pub follows_numbered : (config : Setup) (world : World) (lines : List CarriedLine) (new : NumberedState) → IsBeginning config world → lines ≡ lines_of world → BeginsNumbered config lines new
    → IsWorldOf config lines world × (new ≡ opened_numbered (setup_over config (Some world)))
follows_numbered config world lines new is are it =
    let same = it.has.only world is (sym are) in
    (subst (IsWorldOf config lines) (sym same) it.has, it.engine_is ∙ ap (λ (w : World). opened_numbered (setup_over config (Some w))) (sym same))

-- what fits is said of the transport alone
pub fits_at : (state : NumberedState) (history : List Record) (config : Setup) → Fits config (left_behind state) → Fits config (engine_of state history).world
fits_at state history config fits = record { ccbs = fits.ccbs; freezes = fits.freezes; plain = fits.plain }
