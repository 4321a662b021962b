-- The worked setup of one queue is lawful: its program is never stuck, and no run of it executes more than 7
-- instructions. So the laws speak of the worked run.
use Rattle.std.proofs.Common.{◌≡◌, ℕ, zero, suc, ◌^◌, ◌<◌, ◌≤◌, List, [], ◌∷◌, length, map, Bool, true, false, not, cond, eqb, Option, Some, None, inl, inr, refl, ap, sym, subst, ◌∙◌, arith}
use Rattle.std.specs.Prelude.{All, ◌&&◌, ◌||◌, get_or}
use Rattle.std.proofs.lemmas.List.{length-replicate}
use Rattle.std.proofs.lemmas.List.Elements.{All-nil, All-cons, All-map, All-replicate}
use Rattle.std.proofs.lemmas.Bool.{cases_Bool, cond-false, eq-eqb, not_from_true}
use Rattle.helpers.specs.declared.limits.HelperLimits.{HelperLimits}
use Rattle.helpers.specs.declared.request.Request.{Request}
use Rattle.helpers.specs.declared.request.Answer.{Answer}
use Rattle.helpers.specs.declared.table.Helper.TheVariants as helpers
use Rattle.helpers.specs.Table.{row_of, asking}
use Rattle.bpf_semantics.specs.MachineState.{MachineState, entry, unwritten_frame, context_address, frame_pointer}
use Rattle.bpf_semantics.specs.Step.{private_step, request_at, Allowed}
use Rattle.bpf_semantics.specs.Stuck.{is_stuck}
use Rattle.bpf_semantics.specs.Reached.{Steps, Reached, Safe, Within}
use Rattle.table_store.specs.Tables.{zero_table}
use Rattle.world.specs.World.{QueueSetup}
use Rattle.world.specs.Lawful.{IsLawfulQueue, IsLawful}
use Rattle.world_laws.proofs.Rows.Worked.{of_helpers, program, queue_of, one_queue}

-- a machine in the outermost function
abbrev machine : ℕ → List (Option ℕ) → List ℕ → List ℕ → Bool → MachineState
machine place registers context held disposed = record {
  pc = place;
  registers = registers;
  frames = unwritten_frame ∷ [];
  open_calls = [];
  context = context;
  held = held;
  disposed = disposed;
}

-- R3 to R10 at the entry
abbrev others : List (Option ℕ)
others = None ∷ None ∷ None ∷ None ∷ None ∷ None ∷ None ∷ Some (frame_pointer 0) ∷ []

-- what is known of a machine before each instruction, after so many
data Known (n : ℕ) (m : MachineState) : Type 0 where
  at_jump : (context : List ℕ) (freeze : ℕ) → n ≡ 0 → m ≡ entry context freeze → Known n m
  at_copy : (context : List ℕ) (freeze : ℕ) → n ≡ 1 → m ≡ machine 1 (None ∷ Some context_address ∷ Some freeze ∷ others) context (freeze ∷ []) false → Known n m
  at_release : (context : List ℕ) (freeze : ℕ) → n ≡ 2 → m ≡ machine 2 (None ∷ Some freeze ∷ Some freeze ∷ others) context (freeze ∷ []) false → Known n m
  at_constant : (context : List ℕ) (r0 r1 : Option ℕ) (rest : List (Option ℕ)) → n ≤ 3 → m ≡ machine 3 (r0 ∷ r1 ∷ rest) context [] false → Known n m
  at_requeue : (context : List ℕ) (r0 : Option ℕ) (rest : List (Option ℕ)) → n ≤ 4 → m ≡ machine 4 (r0 ∷ Some 1 ∷ rest) context [] false → Known n m
  at_result : (context : List ℕ) (r0 : Option ℕ) (rest : List (Option ℕ)) → n ≤ 5 → m ≡ machine 5 (r0 ∷ rest) context [] true → Known n m
  at_exit : (context : List ℕ) (rest : List (Option ℕ)) → n ≤ 6 → m ≡ machine 6 (Some 0 ∷ rest) context [] true → Known n m

some_value : {A : Type 0} (x y : A) → Some x ≡ Some y → y ≡ x
some_value x y e = let same : x ≡ y = cc in sym same

none_some : {A : Type 0} (y : A) → None ≡ Some y → ⊥
none_some y e = cc

-- the jump is taken where there is no freeze
jumps : (n : ℕ) (context : List ℕ) (freeze : ℕ) (m' : MachineState) → n ≡ 0 → private_step program (entry context freeze) ≡ Some m' → Known (suc n) m'
jumps n context freeze m' first e =
    elim (cases_Bool (eqb freeze 0)) [
      | inl none ↦
          at_constant context None (Some context_address) (Some freeze ∷ others) (omega (arith, first))
          (some_value _ m' e
          ∙ (ap (λ (b : Bool). machine (cond b 3 1) (None ∷ Some context_address ∷ Some freeze ∷ others) context (cond b [] (freeze ∷ [])) false) none))
      | inr some_one ↦
          at_copy context freeze (omega (arith, first))
          (some_value _ m' e
          ∙ (ap (λ (b : Bool). machine (cond b 3 1) (None ∷ Some context_address ∷ Some freeze ∷ others) context (cond b [] (freeze ∷ [])) false) some_one))
    ]

-- the machine after the call at which it stands
called : (request other : Request) (answer : Answer) (m m' : MachineState) → Some request ≡ Some other → Allowed other answer m m' → Allowed request answer m m'
called request other answer m m' e allowed = subst (λ (r : Request). Allowed r answer m m') (some_value request other e) allowed

released : (n : ℕ) (context : List ℕ) (freeze : ℕ) (m' : MachineState) (answer : Answer) → n ≡ 2 → Allowed (asking helpers.Release freeze 0 0) answer (machine 2 (None ∷ Some freeze ∷ Some freeze ∷ others) context (freeze ∷ []) false) m' → Known (suc n) m'
unfolding row_of
released n context freeze m' answer third allowed =
    at_constant context (Some answer.r0) None _ (omega (arith, third))
    (allowed.1 ∙ ap (λ (held : List ℕ). machine 3 (Some answer.r0 ∷ None ∷ None ∷ None ∷ None ∷ None ∷ None ∷ None ∷ None ∷ None ∷ Some (frame_pointer 0) ∷ []) context held false)
    (cond-false (not (eqb freeze freeze)) (freeze ∷ []) [] (not_from_true _ (eq-eqb freeze freeze refl))))

requeued : (n : ℕ) (context : List ℕ) (r0 : Option ℕ) (rest : List (Option ℕ)) (m' : MachineState) (answer : Answer) → n ≤ 4 → Allowed (asking helpers.Requeue 1 0 0) answer (machine 4 (r0 ∷ Some 1 ∷ rest) context [] false) m' → Known (suc n) m'
unfolding row_of
requeued n context r0 rest m' answer few allowed = at_result context (Some answer.r0) _ (omega (arith, few)) allowed.1

-- one instruction on
onward : (n : ℕ) (m m' : MachineState) → Known n m → Steps program m m' → Known (suc n) m'
unfolding row_of
onward n m m' (at_jump context freeze first is) (inl e) = jumps n context freeze m' first (sym (ap (private_step program) is) ∙ e)
onward n m m' (at_jump context freeze first is) (inr call) = absurd (none_some call.0 (sym (ap (request_at program) is) ∙ call.2))
onward n m m' (at_copy context freeze second is) (inl e) = at_release context freeze (omega (arith, second)) (some_value _ m' (sym (ap (private_step program) is) ∙ e))
onward n m m' (at_copy context freeze second is) (inr call) = absurd (none_some call.0 (sym (ap (request_at program) is) ∙ call.2))
onward n m m' (at_release context freeze third is) (inl e) = absurd (none_some m' (sym (ap (private_step program) is) ∙ e))
onward n m m' (at_release context freeze third is) (inr call) =
    released n context freeze m' call.1 third (called (asking helpers.Release freeze 0 0) call.0 call.1 (machine 2 (None ∷ Some freeze ∷ Some freeze ∷ others) context (freeze ∷ []) false) m' (sym (ap (request_at program) is) ∙ call.2) (subst (λ (x : MachineState). Allowed call.0 call.1 x m') is call.3))
onward n m m' (at_constant context r0 r1 rest few is) (inl e) = at_requeue context r0 rest (omega (arith, few)) (some_value _ m' (sym (ap (private_step program) is) ∙ e))
onward n m m' (at_constant context r0 r1 rest few is) (inr call) = absurd (none_some call.0 (sym (ap (request_at program) is) ∙ call.2))
onward n m m' (at_requeue context r0 rest few is) (inl e) = absurd (none_some m' (sym (ap (private_step program) is) ∙ e))
onward n m m' (at_requeue context r0 rest few is) (inr call) =
    requeued n context r0 rest m' call.1 few (called (asking helpers.Requeue 1 0 0) call.0 call.1 (machine 4 (r0 ∷ Some 1 ∷ rest) context [] false) m' (sym (ap (request_at program) is) ∙ call.2) (subst (λ (x : MachineState). Allowed call.0 call.1 x m') is call.3))
onward n m m' (at_result context r0 rest few is) (inl e) = at_exit context rest (omega (arith, few)) (some_value _ m' (sym (ap (private_step program) is) ∙ e))
onward n m m' (at_result context r0 rest few is) (inr call) = absurd (none_some call.0 (sym (ap (request_at program) is) ∙ call.2))
onward n m m' (at_exit context rest few is) (inl e) = absurd (none_some m' (sym (ap (private_step program) is) ∙ e))
onward n m m' (at_exit context rest few is) (inr call) = absurd (none_some call.0 (sym (ap (request_at program) is) ∙ call.2))

known : (n : ℕ) (m : MachineState) → Reached program n m → Known n m
known zero m it = at_jump it.context it.freeze refl it.is
known (suc n) m it = onward n it.0 m (known n it.0 it.1) it.2

-- what is known is not stuck
goes : (limits : HelperLimits) (n : ℕ) (m : MachineState) → Known n m → is_stuck program (of_helpers limits) m ≡ false
unfolding row_of
goes limits n m (at_jump context freeze first is) = ap (is_stuck program (of_helpers limits)) is
goes limits n m (at_copy context freeze second is) = ap (is_stuck program (of_helpers limits)) is
goes limits n m (at_release context freeze third is) =
    ap (is_stuck program (of_helpers limits)) is ∙ ap (λ (b : Bool). not ((b || false) && (true && true))) (eq-eqb freeze freeze refl)
goes limits n m (at_constant context r0 r1 rest few is) = ap (is_stuck program (of_helpers limits)) is
goes limits n m (at_requeue context r0 rest few is) = ap (is_stuck program (of_helpers limits)) is
goes limits n m (at_result context r0 rest few is) = ap (is_stuck program (of_helpers limits)) is
goes limits n m (at_exit context rest few is) = ap (is_stuck program (of_helpers limits)) is

is_safe : (limits : HelperLimits) → Safe program (of_helpers limits)
is_safe limits n m reached = goes limits n m (known n m reached)

-- nor beyond 7 instructions, the exit included
most : (n : ℕ) (m : MachineState) → Known n m → n ≤ 6
most n m (at_jump context freeze first is) = omega (arith, first)
most n m (at_copy context freeze second is) = omega (arith, second)
most n m (at_release context freeze third is) = omega (arith, third)
most n m (at_constant context r0 r1 rest few is) = omega (arith, few)
most n m (at_requeue context r0 rest few is) = omega (arith, few)
most n m (at_result context r0 rest few is) = omega (arith, few)
most n m (at_exit context rest few is) = few

is_within : Within program 7
is_within n m reached = let few = most n m (known n m reached) in (omega (arith, few), λ exits. omega (arith, few))

-- tables of which all words are 0 are as long as they should be, and each word has 64 bits
abbrev IsWord : ℕ → Type 0
IsWord word = word < 2 ^ 64

zero_lengths : (lengths : List ℕ) → map (λ (table : List ℕ). length table) (map zero_table lengths) ≡ lengths
zero_lengths [] = refl
zero_lengths (n ∷ rest) = λ i. length-replicate {A = ℕ} n 0 i ∷ zero_lengths rest i

zero_words : (lengths : List ℕ) → All (All IsWord) (map zero_table lengths)
zero_words lengths = All-map (All IsWord) zero_table lengths (λ k d below. All-replicate IsWord (get_or lengths k d) 0 (omega arith))

-- a setup of one queue is lawful
pub is_lawful : (limits : HelperLimits) → limits.queues ≡ 1 → IsLawful (one_queue limits)
is_lawful limits one =
    record {
      queue_number = (omega arith, omega arith);
      agreed = one;
      under = (refl, All-cons (λ (queue : QueueSetup). queue.controller ≡ 0) (queue_of 2) [] refl (All-nil (λ (queue : QueueSetup). queue.controller ≡ 0)));
      queues = All-cons (IsLawfulQueue (of_helpers limits)) (queue_of 2) []
          (record { openings = (omega arith, omega arith); program = record { laid_out = refl; in_range = (omega arith, omega arith); spares = refl }; safe = is_safe limits; within = is_within; budget = omega arith })
          (All-nil (IsLawfulQueue (of_helpers limits)));
      tables = record { lengths = zero_lengths limits.table_lengths; words = zero_words limits.table_lengths; zero = λ none. refl };
    }
