-- The programs of a configuration's queues, one after another.
use Rattle.std.proofs.Common.{◌≡◌, ◌∙◌, ◌+◌, ◌<◌, ◌≤◌, ◌++◌, ◌∷◌, [], ℕ, List, length, map, get_or, take, Result, Ok, Err, IfOk, ap, sym, subst}
use Rattle.std.specs.Arc.{arc_value}
use Rattle.std.specs.Global.{Global}
use Rattle.std.specs.declared.sync.Arc.{Arc}
use Rattle.std.specs.declared.vec.Vec.{Vec}
use Rattle.std.proofs.lemmas.List.{map_more, map_push, take_all}
use Rattle.std.proofs.lemmas.Simd.{map-map}
use Rattle.bpf_accepted.specs.declared.accepted.Accepted.{Accepted}
use Rattle.helpers.specs.declared.limits.HelperLimits.{HelperLimits}
use Rattle.world.specs.World.{QueueSetup}
use Rattle.engine_config.specs.Configured.{AreProgramsGiven, AreProgramsOf, Given, queue_of, setup_of}

-- one more of a list that is read off another
one_more : {E F X : Type 0} (f : E → X) (g : F → X) (entries : List E) (i : ℕ) (entry : E) (items new : List F) (made : F)
    → i < length entries → entry ≡ get_or entries i entry → new ≡ items ++ made ∷ [] → g made ≡ f entry
    → map g items ≡ map f (take i entries) → map g new ≡ map f (take (i + 1) entries)
one_more f g entries i entry items new made within is longer same before =
    ap (map g) longer ∙ (map_push g items made
    ∙ (ap (λ xs. xs ++ g made ∷ []) before
    ∙ (ap (λ x. map f (take i entries) ++ x ∷ []) (same ∙ ap f is)
    ∙ sym (map_more f entries i entry within))))

pub given_more : (queues : List Given) (i : ℕ) (queue : Given) (programs more : List (Arc Accepted Global)) (program : Arc Accepted Global)
    → i < length queues → queue ≡ get_or queues i queue → more ≡ programs ++ program ∷ [] → arc_value program ≡ queue.verdict
    → AreProgramsGiven (take i queues) programs → AreProgramsGiven (take (i + 1) queues) more
given_more queues i queue programs more program within is longer same before =
    one_more (λ (q : Given). q.verdict.program) (λ (p : Arc Accepted Global). (arc_value p).program) queues i queue programs more program within is longer (ap (λ v. v.program) same) before

-- all of them
pub all_given : (queues : List Given) (i : ℕ) (programs : List (Arc Accepted Global)) → length queues ≤ i → AreProgramsGiven (take i queues) programs → AreProgramsGiven queues programs
all_given queues i programs past before = subst (λ (qs : List Given). AreProgramsGiven qs programs) (take_all i queues past) before

-- those of the queues as they are given are those of the setup
of_setup : (limits : HelperLimits) (controllers : ℕ) (firsts : List (List ℕ)) (queues : List Given) (programs : List (Arc Accepted Global)) → AreProgramsGiven queues programs
    → AreProgramsOf (setup_of limits controllers firsts queues) programs
of_setup limits controllers firsts queues programs given = given ∙ sym (map-map (λ (q : QueueSetup). q.program) queue_of queues)

pub all_of_setup : {E : Type 0} (limits : HelperLimits) (controllers : ℕ) (firsts : List (List ℕ)) (queues : List Given) (made : Result (Vec (Arc Accepted Global) Global) E)
    → IfOk made (λ programs. AreProgramsGiven queues programs.items) → IfOk made (λ programs. AreProgramsOf (setup_of limits controllers firsts queues) programs.items)
all_of_setup limits controllers firsts queues (Ok programs) given = of_setup limits controllers firsts queues programs.items given
all_of_setup limits controllers firsts queues (Err fault) given = tt
