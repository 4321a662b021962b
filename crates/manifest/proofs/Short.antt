-- A run of an accepted program executes no more instructions than its program has, with local calls written out.
use Rattle.std.proofs.Common.{◌≡◌, ◌≤◌, Bool, true, false, cond, List, [], ◌∷◌, Option, Some, None, map, find, refl, subst, arith}
use Rattle.std.specs.List.{AllByRecursion, AllZip}
use Rattle.std.specs.Option.{option_map}
use Rattle.std.proofs.lemmas.List.Elements.{All-from_recursion}
use Rattle.helpers.specs.declared.limits.HelperLimits.{HelperLimits}
use Rattle.bpf_insn.specs.declared.program.Slot.{Slot}
use Rattle.bpf_insn.specs.Program.{IsProgram}
use Rattle.bpf_accepted.specs.Verdict.{Verdict}
use Rattle.call_shape.specs.StaticPath.{outermost, depth}
use Rattle.call_shape.specs.declared.lawful_shape.TheConstants.{MAX_WRITTEN_OUT}
use Rattle.call_shape.proofs.Places.{begins_first}
use Rattle.budget_path.proofs.Within.{path_within}
use Rattle.verifier.specs.Verdict.{IsVerdictOn}
use Rattle.manifest_form.specs.Entries.{Plan, ProgramLine, QueueLine}
use Rattle.world.specs.World.{QueueSetup, Setup}
use Rattle.manifest.specs.Meaning.{AreShort, IsAccepted, IsSetUp, Named, is_named, limits_of, setup_of, setup_with}

abbrev IsShort : Named → Type 0
IsShort named = named.1.budget ≤ MAX_WRITTEN_OUT

-- the budget is the length of a path, and no path is longer than the program written out
verdict_short : (program : List Slot) (limits : HelperLimits) (v : Verdict) → IsVerdictOn program limits v → v.budget ≤ MAX_WRITTEN_OUT
verdict_short program limits v is =
    let path = is.budget.path in
    let program_is = subst IsProgram is.program_is is.accepted.is_program in
    let whole = path_within program 0 v.budget (depth program (outermost 0) v.budget path) program_is is.lawful (begins_first program program_is) (path, refl) in
    omega (arith, whole, is.lawful.short)

programs_short : (limits : HelperLimits) (lines : List ProgramLine) (programs : List Named) → AllZip (IsAccepted limits) lines programs → AllByRecursion IsShort programs
programs_short limits lines [] accepted = tt
programs_short limits [] (named ∷ programs) accepted = absurd accepted
programs_short limits (line ∷ lines) (named ∷ programs) accepted =
    (verdict_short named.1.program limits named.1 accepted.0.verdict, programs_short limits lines programs accepted.1)

-- the program of a name is one of them
found_short : (test : Named → Bool) (programs : List Named) (named : Named) → AllByRecursion IsShort programs → find test programs ≡ Some named → IsShort named
found_short test [] named short e = absurd (let bad : None ≡ Some named = e in cc)
found_short test (first ∷ programs) named short e = by_test (test first) (found_short test programs named short.1) e
  where
    by_test : (b : Bool) → (find test programs ≡ Some named → IsShort named) → cond b (Some first) (find test programs) ≡ Some named → IsShort named
    by_test true others is = subst IsShort (let same : first ≡ named = cc in same) short.0
    by_test false others is = others is

queue_short : (programs : List Named) (line : QueueLine) (queue : QueueSetup) → AllByRecursion IsShort programs → setup_of programs line ≡ Some queue → queue.budget ≤ MAX_WRITTEN_OUT
queue_short programs line queue short e = of_found (find (is_named line.program) programs) refl e
  where
    of_found : (o : Option Named) → find (is_named line.program) programs ≡ o → option_map (setup_with line) o ≡ Some queue → queue.budget ≤ MAX_WRITTEN_OUT
    of_found None found is = absurd (let bad : None ≡ Some queue = is in cc)
    of_found (Some named) found is =
        let same : setup_with line named ≡ queue = cc in
        subst (λ (q : QueueSetup). q.budget ≤ MAX_WRITTEN_OUT) same (found_short (is_named line.program) programs named short found)

queues_short : (programs : List Named) (lines : List QueueLine) (queues : List QueueSetup) → AllByRecursion IsShort programs → map (setup_of programs) lines ≡ map Some queues → AllByRecursion (λ queue. queue.budget ≤ MAX_WRITTEN_OUT) queues
queues_short programs lines [] short e = tt
queues_short programs [] (queue ∷ queues) short e = absurd cc
queues_short programs (line ∷ lines) (queue ∷ queues) short e =
    let first : setup_of programs line ≡ Some queue = cc in
    let rest : map (setup_of programs) lines ≡ map Some queues = cc in
    (queue_short programs line queue short first, queues_short programs lines queues short rest)

pub set_up_short : (plan : Plan) (setup : Setup) (programs : List Named) → IsSetUp plan setup programs → AreShort setup.queues
set_up_short plan setup programs is =
    All-from_recursion (λ (queue : QueueSetup). queue.budget ≤ MAX_WRITTEN_OUT) setup.queues
    (queues_short programs plan.queues setup.queues (programs_short (limits_of plan) plan.programs programs is.accepted) is.queues)
