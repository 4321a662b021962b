-- A configuration that is made once more, queue by queue.
use Rattle.std.proofs.Common.{◌≡◌, ℕ, ◌+◌, ◌<◌, ◌⊎◌, false, inl, inr, List, [], ◌∷◌, ◌++◌, None, length, map, take, get_or, sym, ap, subst, ◌∙◌}
use Rattle.std.specs.Prelude.{All}
use Rattle.std.proofs.lemmas.List.{map-append, take-map, take_more}
use Rattle.std.proofs.lemmas.List.Elements.{All-get_or}
use Rattle.helpers.specs.declared.limits.HelperLimits.{HelperLimits}
use Rattle.helpers.specs.declared.limits.HelperSet.{HelperSet}
use Rattle.helpers.specs.declared.limits.HelperSet.TheVariants.{Controllers, Queues}
use Rattle.bpf_accepted.specs.Verdict.{Verdict}
use Rattle.world.specs.Lawful.{AreUnder, IsLawful}
use Rattle.world.specs.World.{QueueSetup, Setup, no_queue, queue_count, queue_setup}
use Rattle.engine_config.specs.Configured.{Given, firsts_of, queue_of, setup_of}
use Rattle.std.specs.Global.{Global}
use Rattle.std.specs.declared.vec.Vec.{Vec}
use Rattle.helpers.specs.Table.{are_classed}
use Rattle.table_store.specs.Tables.{tables_with}
use Rattle.table_store.proofs.Firsts.{zeros_with}

-- one queue more
pub one_more : {X : Type 0} (f : X → Given) (queues : List QueueSetup) (k : ℕ) (items next : List X) (x : X) → map queue_of (map f items) ≡ take k queues → next ≡ items ++ x ∷ [] → k < length queues
    → queue_of (f x) ≡ get_or queues k no_queue → map queue_of (map f next) ≡ take (k + 1) queues
one_more f queues k items next x so added below is =
    ap (λ (xs : List _). map queue_of (map f xs)) added
    ∙ (ap (map queue_of) (map-append f items (x ∷ [])) ∙ (map-append queue_of (map f items) (f x ∷ [])
    ∙ (ap (λ (qs : List QueueSetup). qs ++ queue_of (f x) ∷ []) so ∙ (ap (λ (q : QueueSetup). take k queues ++ q ∷ []) is ∙ sym (take_more queues k no_queue below)))))

-- a queue that is given as the configuration has it
pub queue_is : (queue : QueueSetup) (openings controller : ℕ) (verdict : Verdict) → openings ≡ queue.openings → controller ≡ queue.controller → verdict.program ≡ queue.program → verdict.budget ≡ queue.budget
    → queue_of (record { openings = openings; controller = controller; verdict = verdict }) ≡ queue
queue_is queue openings controller verdict o c p b = λ i. record { openings = o i; controller = c i; program = p i; budget = b i }

-- where there are no controllers
under_none : (helpers : HelperSet) (controllers : ℕ) (queues : List QueueSetup) → helpers ≡ Queues → AreUnder helpers controllers queues → (controllers ≡ 0) × All (λ (queue : QueueSetup). queue.controller ≡ 0) queues
under_none helpers controllers queues is under = subst (λ (h : HelperSet). AreUnder h controllers queues) is under

pub no_controllers : (setup : Setup) → IsLawful setup → setup.limits.helpers ≡ Queues → setup.controllers ≡ 0
no_controllers setup lawful is = (under_none setup.limits.helpers setup.controllers setup.queues is lawful.under).0

pub under_no_controller : (setup : Setup) (queue : ℕ) → IsLawful setup → setup.limits.helpers ≡ Queues → queue < queue_count setup → 0 ≡ (queue_setup setup queue).controller
under_no_controller setup queue lawful is below =
    sym (All-get_or (λ (it : QueueSetup). it.controller ≡ 0) setup.queues queue no_queue below (under_none setup.limits.helpers setup.controllers setup.queues is lawful.under).1)

-- a configuration of the same parts
pub same_setup : (setup : Setup) (limits : HelperLimits) (controllers : ℕ) (firsts : List (List ℕ)) (given : List Given) → limits ≡ setup.limits → controllers ≡ setup.controllers → tables_with setup.limits.table_lengths firsts ≡ setup.tables
    → map queue_of given ≡ setup.queues → setup.carried ≡ None → setup_of limits controllers firsts given ≡ setup
same_setup setup limits controllers firsts given l c t q n =
    (λ i. record { limits = l i; controllers = c i; tables = tables_with (l i).table_lengths firsts; queues = q i; carried = sym n i }) ∙ (λ i. record setup { tables = t i })

-- tables where CCBs have no class
zero_tables : (helpers : HelperSet) → helpers ≡ Queues ⊎ helpers ≡ Controllers → are_classed helpers ≡ false
zero_tables helpers (inl is) = ap are_classed is
zero_tables helpers (inr is) = ap are_classed is

pub no_words : (setup : Setup) → IsLawful setup → setup.limits.helpers ≡ Queues ⊎ setup.limits.helpers ≡ Controllers → tables_with setup.limits.table_lengths [] ≡ setup.tables
no_words setup lawful is = zeros_with setup.limits.table_lengths ∙ sym (lawful.tables.zero (zero_tables setup.limits.helpers is))

-- one list of words more
pub list_more : (lists items next : List (Vec ℕ Global)) (list copy : Vec ℕ Global) (place : ℕ) → firsts_of items ≡ take place (firsts_of lists) → next ≡ items ++ copy ∷ [] → place < length lists
    → list ≡ get_or lists place list → copy.items ≡ list.items → firsts_of next ≡ take (place + 1) (firsts_of lists)
list_more lists items next list copy place so added below is same =
    ap firsts_of added ∙ (map-append (λ (l : Vec ℕ Global). l.items) items (copy ∷ [])
    ∙ (ap (λ (ls : List (List ℕ)). ls ++ copy.items ∷ []) so ∙ (ap (λ (l : List ℕ). take place (firsts_of lists) ++ l ∷ []) same
    ∙ (ap (λ (ls : List (List ℕ)). ls ++ list.items ∷ []) (take-map (λ (l : Vec ℕ Global). l.items) place lists)
    ∙ (sym (map-append (λ (l : Vec ℕ Global). l.items) (take place lists) (list ∷ []))
    ∙ (ap firsts_of (ap (λ (l : Vec ℕ Global). take place lists ++ l ∷ []) is ∙ sym (take_more lists place list below)) ∙ sym (take-map (λ (l : Vec ℕ Global). l.items) (place + 1) lists)))))))
