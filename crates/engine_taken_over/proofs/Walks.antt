-- The value of a struct that takes no bytes, which the walks of `src/taken_over.rt` make. Assumes `Logic`.
use Rattle.std.proofs.Common.{List, [], ◌∷◌, refl}
use seplogic.Ra.Ura.{Ura}
use mir.Val.{Val, vstruct, vnil}
use types.Logic.{Logic}
use types.Kit.{Goal, Step, step, Item, ‵, ◌$◌, fjoin, fpack, feq_i}
use denote.RattleType.{RattleType, Valss}
use denote.Steps.{nothing}
use denote.Struct.Struct.{Struct, within}

-- its value in memory
abbrev pub empty : Val
empty = vstruct vnil

abbrev pub no_fields : RattleType
no_fields = Struct (record { name = []; args = []; types = []; fields = [] })

-- with no field it owns nothing
pub made : {M : Type 1} {𝓤 : Ura M} {𝓛 : Logic 𝓤} {K : Type 0} {Γ : List (Item 𝓤)} {G : Goal 𝓤 𝓛.H} → K → Step K 𝓛 (‵ (no_fields.own_val tt (empty ∷ [])) ∷ Γ) G Γ G
made t = step (λ s.
    nothing t $ feq_i t (List Val) (empty ∷ []) (empty ∷ []) refl $ fjoin t $
    fpack t (Valss []) (within (record { name = []; args = []; types = []; fields = [] }) tt (empty ∷ [])) tt $ s)
