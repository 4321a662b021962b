-- The calls that one caller made of a shared engine, one after the other, whoever called between them.
use Rattle.std.specs.Prelude.{List, [], ◌∷◌, ◌++◌}
use Rattle.world.specs.World.{Setup}
use Rattle.engine_core.specs.declared.event.Event.{Event}
use Rattle.engine_core.specs.declared.reply.Reply.{Reply}
use Rattle.monitor.specs.Telling.{CallerState}
use Rattle.engine_lock.specs.Sharing.{Section}

-- what was asked, and the reply
pub record CallMade : Type 0 where
  pub event : Event
  pub reply : Reply

-- each is a section under the engine's lock, and begins with the caller as the one before left it
pub data AreMade (setup : Setup) : CallerState → List CallMade → CallerState → Type 0 where
  made_none : (caller : CallerState) → AreMade setup caller [] caller
  made_more : (before between after : CallerState) (call : CallMade) (calls : List CallMade) →
      Section setup call.event call.reply before between → AreMade setup between calls after → AreMade setup before (call ∷ calls) after

-- what each of the calls says, in their order
abbrev pub each : {X : Type 0} → (CallMade → List X) → List CallMade → List X
each f [] = []
each f (call ∷ calls) = f call ++ each f calls
