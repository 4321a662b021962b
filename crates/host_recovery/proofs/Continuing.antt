-- Whether another line came after all carried lines.
use Rattle.std.proofs.Common.{◌≡◌, ℕ, Bool, true, false, Option, Ok, List, ◌∷◌, ◌++◌}
use Rattle.world.specs.World.{Setup}
use Rattle.host_recovery.specs.Carries.{CarriedAllSays, CarriesAll, CarryingState, IsCarriedEnd}
use Rattle.host_recovery.specs.LinesRead.{LinesState}

pub another_came : (config : Setup) (from now : Option (List ℕ)) (goes_on : Bool) (carrying : CarryingState) (lines : LinesState) → goes_on ≡ true → CarriedAllSays config from (Ok goes_on) carrying lines now → CarriesAll config from now (lines.line ++ 10 ∷ lines.ahead) carrying
another_came config from now true carrying lines is says = says
another_came config from now false carrying lines is says = absurd (let bad : false ≡ true = is in cc)

pub none_came : (config : Setup) (from now : Option (List ℕ)) (goes_on : Bool) (carrying : CarryingState) (lines : LinesState) → goes_on ≡ false → CarriedAllSays config from (Ok goes_on) carrying lines now → IsCarriedEnd config from now lines carrying
none_came config from now true carrying lines is says = absurd (let bad : true ≡ false = is in cc)
none_came config from now false carrying lines is says = says
