-- Why there is no run.
use Rattle.std.proofs.Common.{◌≡◌, ℕ, List, [], ◌∷◌, Some, inr, subst, sym}
use Rattle.base.specs.declared.or_memory.OrMemory.{OrMemory}
use Rattle.base.specs.declared.or_memory.OrMemory.TheVariants.{OutOfMemory, Fault}
use Rattle.ccb.specs.Completion.{Outcome}
use Rattle.world_calls.specs.declared.carried_line.CarriedLine.{CarriedLine}
use Rattle.world.specs.World.{Setup}
use Rattle.engine_core.specs.ByNumber.{IsHistory}
use Rattle.engine_core.specs.Settings.{setup_over}
use Rattle.host_decision.specs.Ran.{IsUndecided, NoRunStarts, failed}
use Rattle.host_decision.specs.Steps.{CannotFail, IsFresh, IsUnbegun}
use Rattle.host_decision.specs.declared.ran.Ran.{Ran}
use Rattle.host_decision.specs.declared.undecided.Undecided.{Undecided}
use Rattle.host_decision.specs.declared.undecided.Undecided.TheVariants.{Queue, Status, Clock, Class, Word, Lines, Sense}

-- no engine begins with the lines
pub unbegun : (config : Setup) (lines : List CarriedLine) (outcome : Outcome) (error : OrMemory Undecided) → IsUnbegun config lines error → IsUndecided config lines outcome error
unbegun config lines outcome OutOfMemory is = tt
unbegun config lines outcome (Fault Lines) is = is
unbegun config lines outcome (Fault Queue) is = is
unbegun config lines outcome (Fault Status) is = absurd is
unbegun config lines outcome (Fault Clock) is = is
unbegun config lines outcome (Fault Class) is = is
unbegun config lines outcome (Fault (Word place)) is = is
unbegun config lines outcome (Fault Sense) is = is

-- or no run starts in it
pub unfailed : (config : Setup) (lines : List CarriedLine) (outcome : Outcome) (start : Ran) (error : OrMemory Undecided) → IsFresh config lines start → CannotFail start.engine outcome error
    → IsUndecided config lines outcome error
unfailed config lines outcome start OutOfMemory fresh is = tt
unfailed config lines outcome start (Fault Status) fresh is = inr (record {
  world = fresh.led.world;
  has = fresh.led.has;
  none = λ run freeze history. is run freeze [] fresh.led.behind (subst (λ (s : Setup). IsHistory s (failed outcome run freeze ∷ [])) (sym fresh.led.setup_is) history);
})
unfailed config lines outcome start (Fault Lines) fresh is = absurd is
unfailed config lines outcome start (Fault Queue) fresh is = is
unfailed config lines outcome start (Fault Clock) fresh is = is
unfailed config lines outcome start (Fault Class) fresh is = is
unfailed config lines outcome start (Fault (Word place)) fresh is = is
unfailed config lines outcome start (Fault Sense) fresh is = is
