-- The calls that one caller made, more of them.
use Rattle.std.proofs.Common.{◌≡◌, List, [], ◌∷◌, ◌++◌, refl, ap, sym, ◌∙◌, append_assoc}
use Rattle.monitor.specs.Telling.{CallerState}
use Rattle.world.specs.World.{Setup}
use Rattle.engine_core.specs.declared.event.Event.{Event}
use Rattle.engine_core.specs.declared.reply.Reply.{Reply}
use Rattle.engine_lock.specs.Sharing.{Section}
use Rattle.workers.specs.Calls.{AreMade, CallMade, each, made_none, made_more}

pub each_append : {X : Type 0} (f : CallMade → List X) (xs ys : List CallMade) → each f (xs ++ ys) ≡ each f xs ++ each f ys
each_append f [] ys = refl
each_append {X} f (x ∷ xs) ys = ap (λ (zs : List X). f x ++ zs) (each_append f xs ys) ∙ sym (append_assoc (f x) (each f xs) (each f ys))

module _ (setup : Setup) where
  -- calls after calls
  pub made_then : (a b c : CallerState) (xs ys : List CallMade) → AreMade setup a xs b → AreMade setup b ys c → AreMade setup a (xs ++ ys) c
  made_then a b c xs ys (made_none caller) second = second
  made_then a b c xs ys (made_more before between after call calls first rest) second = made_more before between c call (calls ++ ys) first (made_then between after c calls ys rest second)

  -- one call after them
  pub made_one : (a b c : CallerState) (xs : List CallMade) (event : Event) (reply : Reply) → AreMade setup a xs b → Section setup event reply b c → AreMade setup a (xs ++ record { event = event; reply = reply } ∷ []) c
  made_one a b c xs event reply made section =
      let call : CallMade = record { event = event; reply = reply } in
      made_then a b c xs (call ∷ []) made (made_more b c c call [] section (made_none c))
