-- What a local call makes of a described machine, and its return: the registers, the frames, and the functions that wait.
use Rattle.std.proofs.Common.{◌≡◌, ℕ, Option, Some, refl, sym, ◌∙◌, ℤ, zero, suc, ◌+◌, ◌*◌, ◌/◌, ◌-◌, ◌<◌, ◌≤◌, true, false, not, Bool, List, [], ◌∷◌, ◌++◌, None, length, take, drop, get_or, ap, subst, arith, inl, inr, length-append, length-drop}
use Rattle.scalar_domain.specs.declared.scalars.Scalar.{Scalar}
use Rattle.scalar_domain.specs.Scalar.{Has}
use Rattle.check_register_kinds.specs.declared.freeze_name.FreezeName.{FreezeName}
use Rattle.check_register_kinds.specs.declared.kind.Kind.{Kind}
use Rattle.check_register_kinds.specs.declared.kind.Kind.TheVariants.{Unwritten, Number, Address, Freeze}
use Rattle.check_register_kinds.specs.Freezes.{FreezeNumbers, AreHeld}
use Rattle.check_register_kinds.specs.Kinds.{HoldsKind}
use Rattle.check_description.specs.OpenCalls.{HoldsAs, AreOpen, AreSaved, HoldsSaved, IsSaved}
use Rattle.std.specs.Prelude.{is_some, replicate}
use Rattle.std.proofs.Math.Seq.{drop-cons}
use Rattle.std.proofs.Math.ListN.{drop_of_length-le}
use Rattle.std.proofs.lemmas.Bool.{cases_lt, cond-true, lt-ltb}
use Rattle.std.proofs.lemmas.List.{get_or_append_left, get_or-append_right, get_or-drop, get_or-take, get_or_default, get_or_past, length-replicate, length-take-le, take-append-drop}
use Rattle.bpf_insn.specs.declared.insn.Callee.TheVariants.{Local}
use Rattle.bpf_insn.specs.declared.insn.Insn.TheVariants.{Call, Exit}
use Rattle.bpf_insn.specs.declared.reg.Reg.{Reg}
use Rattle.bpf_insn.specs.declared.reg.Reg.TheVariants.{R0, R1, R2, R3, R4, R5, R6, R7, R8, R9, R10}
use Rattle.bpf_insn.specs.Reg.{number_of}
use Rattle.bpf_semantics.specs.Frames.{frame_start}
use Rattle.bpf_semantics.specs.MachineState.{MachineState, OpenCall, frame_pointer, register, unwritten_frame}
use Rattle.bpf_semantics.specs.Step.{does, entered, has_frame_left, returned}
use Rattle.bpf_semantics.specs.Stuck.{exit_is_stuck}
use Rattle.helpers.specs.declared.limits.HelperLimits.{HelperLimits}
use Rattle.stack_domain.specs.Stack.{MarksCover as CoversFrames, IsWritten, Knows}
use Rattle.check_description.specs.declared.description.Description.{Description}
use Rattle.check_register_kinds.specs.declared.region.Region.TheVariants.{Frame}
use Rattle.check_description.specs.declared.saved.SavedRegister.{SavedRegister}
use Rattle.check_description.specs.declared.saved.SavedRegisters.{SavedRegisters}
use Rattle.check_description.specs.Changes.{at}
use Rattle.check_local_calls.specs.Entering.{entered_kinds, left_kinds, IsSureCopy, LeavesEntered, LeavesReturned, kind_back, outlived_kind, HoldBack, words_saved}
use Rattle.check_description.specs.Description.{Describes, DescribesWith, kind_at, NeverStuck}
use Rattle.check_description.specs.declared.spill.Spill.{Spill}
use Rattle.check_description.specs.declared.spill.Spill.TheVariants.{Nothing}
use Rattle.check_description.specs.Spills.{IsFewer, IsGone, at_place, spill_at}
use Rattle.stack_domain.specs.declared.numbers.StackNumber.{StackNumber}
use Rattle.stack_domain.specs.Numbers.{AreStanding}
use Rattle.stack_domain.proofs.Standing.{standing_opened}
use Rattle.check_local_calls.proofs.Spills.{closed_spilled, opened_spilled}
use Rattle.check_description.proofs.NoBytes.{no_byte}

-- what is known of a register at a call, where its copies may be that
pub saved_at_call : (numbers : FreezeNumbers) (kind : Kind) (copies : Scalar) (o : Option ℕ) → ((name : FreezeName) (number : ℕ) → kind ≡ Freeze name → numbers name ≡ Some number → Has copies number) → HoldsKind numbers kind o → HoldsAs numbers kind copies o
saved_at_call numbers Unwritten copies o has holds = tt
saved_at_call numbers (Number scalar) copies o has holds = holds
saved_at_call numbers (Address region offsets) copies o has holds = holds
saved_at_call numbers (Freeze name) copies o has (number, is, its) = (
  number,
  is,
  has name number refl its,
  λ n e. let both : Some n ≡ Some number = sym e ∙ its in cc,
)

-- what the words are that a call saves
words_are : (registers : List (Option ℕ)) → length registers ≡ 11
    → words_saved registers ≡ get_or registers 6 None ∷ get_or registers 7 None ∷ get_or registers 8 None ∷ get_or registers 9 None ∷ []
words_are registers count =
    ap (take 4) (drop-cons registers 6 None (omega (arith, count)))
    ∙ (ap (λ (l : List (Option ℕ)). get_or registers 6 None ∷ take 3 l) (drop-cons registers 7 None (omega (arith, count)))
    ∙ (ap (λ (l : List (Option ℕ)). get_or registers 6 None ∷ get_or registers 7 None ∷ take 2 l) (drop-cons registers 8 None (omega (arith, count)))
    ∙ ap (λ (l : List (Option ℕ)). get_or registers 6 None ∷ get_or registers 7 None ∷ get_or registers 8 None ∷ take 1 l) (drop-cons registers 9 None (omega (arith, count)))))

pub four_saved : (numbers : FreezeNumbers) (r6 r7 r8 r9 : SavedRegister) (registers : List (Option ℕ)) → length registers ≡ 11
    → HoldsSaved numbers r6 (get_or registers 6 None) → HoldsSaved numbers r7 (get_or registers 7 None) → HoldsSaved numbers r8 (get_or registers 8 None) → HoldsSaved numbers r9 (get_or registers 9 None)
    → AreSaved numbers (r6 ∷ r7 ∷ r8 ∷ r9 ∷ []) (words_saved registers)
four_saved numbers r6 r7 r8 r9 registers count h6 h7 h8 h9 =
    subst (AreSaved numbers (r6 ∷ r7 ∷ r8 ∷ r9 ∷ [])) (sym (words_are registers count)) (h6, (h7, (h8, (h9, tt))))

-- one of those that a call saved
pub saved_at : (numbers : FreezeNumbers) (registers : List SavedRegister) (os : List (Option ℕ)) (k : ℕ) (d : SavedRegister) → AreSaved numbers registers os → k < length registers → HoldsSaved numbers (get_or registers k d) (get_or os k None)
saved_at numbers [] [] k d are less = absurd (omega (arith, less))
saved_at numbers [] (o ∷ os) k d are less = absurd are
saved_at numbers (register ∷ registers) [] k d are less = absurd are
saved_at numbers (register ∷ registers) (o ∷ os) zero d are less = are.0
saved_at numbers (register ∷ registers) (o ∷ os) (suc k) d are less = saved_at numbers registers os k d are.1 (omega (arith, less))

-- and what they are back in their function
pub four_back : (numbers : FreezeNumbers) (registers : List SavedRegister) (os : List (Option ℕ)) (d6 d7 d8 d9 : SavedRegister) (k6 k7 k8 k9 : Kind) → AreSaved numbers registers os → length registers ≡ 4
    → ((o : Option ℕ) → HoldsSaved numbers (get_or registers 0 d6) o → HoldsKind numbers k6 o) → ((o : Option ℕ) → HoldsSaved numbers (get_or registers 1 d7) o → HoldsKind numbers k7 o)
    → ((o : Option ℕ) → HoldsSaved numbers (get_or registers 2 d8) o → HoldsKind numbers k8 o) → ((o : Option ℕ) → HoldsSaved numbers (get_or registers 3 d9) o → HoldsKind numbers k9 o)
    → HoldBack numbers (k6 ∷ k7 ∷ k8 ∷ k9 ∷ []) os
four_back numbers registers os d6 d7 d8 d9 k6 k7 k8 k9 are four h6 h7 h8 h9 zero less = h6 (get_or os 0 None) (saved_at numbers registers os 0 d6 are (omega (arith, four)))
four_back numbers registers os d6 d7 d8 d9 k6 k7 k8 k9 are four h6 h7 h8 h9 (suc zero) less = h7 (get_or os 1 None) (saved_at numbers registers os 1 d7 are (omega (arith, four)))
four_back numbers registers os d6 d7 d8 d9 k6 k7 k8 k9 are four h6 h7 h8 h9 (suc (suc zero)) less = h8 (get_or os 2 None) (saved_at numbers registers os 2 d8 are (omega (arith, four)))
four_back numbers registers os d6 d7 d8 d9 k6 k7 k8 k9 are four h6 h7 h8 h9 (suc (suc (suc zero))) less = h9 (get_or os 3 None) (saved_at numbers registers os 3 d9 are (omega (arith, four)))
four_back numbers registers os d6 d7 d8 d9 k6 k7 k8 k9 are four h6 h7 h8 h9 (suc (suc (suc (suc k)))) less = absurd (omega (arith, less))

-- each of four by its place
pub each_of_four : (Q : ℕ → SavedRegister → Type 0) (r6 r7 r8 r9 : SavedRegister) → Q 0 r6 → Q 1 r7 → Q 2 r8 → Q 3 r9 → (k : ℕ) (d : SavedRegister) → k < 4 → Q k (get_or (r6 ∷ r7 ∷ r8 ∷ r9 ∷ []) k d)
each_of_four Q r6 r7 r8 r9 q6 q7 q8 q9 zero d less = q6
each_of_four Q r6 r7 r8 r9 q6 q7 q8 q9 (suc zero) d less = q7
each_of_four Q r6 r7 r8 r9 q6 q7 q8 q9 (suc (suc zero)) d less = q8
each_of_four Q r6 r7 r8 r9 q6 q7 q8 q9 (suc (suc (suc zero))) d less = q9
each_of_four Q r6 r7 r8 r9 q6 q7 q8 q9 (suc (suc (suc (suc k)))) d less = absurd (omega (arith, less))

-- four kinds that are made of them
pub four_made : (f : SavedRegister → Kind) (registers : List SavedRegister) (d6 d7 d8 d9 : SavedRegister) (k6 k7 k8 k9 : Kind) → length registers ≡ 4
    → k6 ≡ f (get_or registers 0 d6) → k7 ≡ f (get_or registers 1 d7) → k8 ≡ f (get_or registers 2 d8) → k9 ≡ f (get_or registers 3 d9)
    → (k : ℕ) (d : SavedRegister) → k < 4 → at (k6 ∷ k7 ∷ k8 ∷ k9 ∷ []) k ≡ f (get_or registers k d)
four_made f registers d6 d7 d8 d9 k6 k7 k8 k9 four e6 e7 e8 e9 zero d less = e6 ∙ ap f (get_or_default registers 0 d6 d (omega (arith, four)))
four_made f registers d6 d7 d8 d9 k6 k7 k8 k9 four e6 e7 e8 e9 (suc zero) d less = e7 ∙ ap f (get_or_default registers 1 d7 d (omega (arith, four)))
four_made f registers d6 d7 d8 d9 k6 k7 k8 k9 four e6 e7 e8 e9 (suc (suc zero)) d less = e8 ∙ ap f (get_or_default registers 2 d8 d (omega (arith, four)))
four_made f registers d6 d7 d8 d9 k6 k7 k8 k9 four e6 e7 e8 e9 (suc (suc (suc zero))) d less = e9 ∙ ap f (get_or_default registers 3 d9 d (omega (arith, four)))
four_made f registers d6 d7 d8 d9 k6 k7 k8 k9 four e6 e7 e8 e9 (suc (suc (suc (suc k)))) d less = absurd (omega (arith, less))

-- the registers of a function that was entered

module _ (registers : List (Option ℕ)) (pointer : ℕ) (count : length registers ≡ 11) where
  arguments : length (take 5 (drop 1 registers)) ≡ 5
  arguments = length-take-le 5 (drop 1 registers) (omega (arith, count, length-drop 1 registers))

  abbrev all_but_pointer : List (Option ℕ)
  all_but_pointer = take 5 (drop 1 registers) ++ replicate 4 None

  nine : length all_but_pointer ≡ 9
  nine = let four : length (replicate {A = Option ℕ} 4 None) ≡ 4 = refl in omega (arith, arguments, four, length-append (take 5 (drop 1 registers)) (replicate 4 None))

  argument_kept : (k : ℕ) → k < 5 → get_or (all_but_pointer ++ Some pointer ∷ []) k None ≡ get_or registers (1 + k) None
  argument_kept k less =
      get_or_append_left all_but_pointer (Some pointer ∷ []) None k (omega (arith, less, nine))
      ∙ (get_or_append_left (take 5 (drop 1 registers)) (replicate 4 None) None k (omega (arith, less, arguments))
      ∙ (get_or-take 5 (drop 1 registers) k None less ∙ get_or-drop 1 registers k None))

  pointer_behind : get_or (all_but_pointer ++ Some pointer ∷ []) 9 None ≡ Some pointer
  pointer_behind = get_or-append_right all_but_pointer (Some pointer ∷ []) 9 9 None nine (omega arith)

  ten : length (all_but_pointer ++ Some pointer ∷ []) ≡ 10
  ten = omega (arith, nine, length-append all_but_pointer (Some pointer ∷ []))

entered_holds : (numbers : FreezeNumbers) (kinds : List Kind) (pointer : Kind) (m : MachineState) (distance : ℤ) → length m.registers ≡ 11
    → ((reg : Reg) → HoldsKind numbers (at kinds (number_of reg)) (register m reg)) → HoldsKind numbers pointer (Some (frame_pointer (length m.frames)))
    → (reg : Reg) → HoldsKind numbers (at (entered_kinds kinds pointer) (number_of reg)) (register (entered m distance) reg)
entered_holds numbers kinds pointer m distance count each here R0 = tt
entered_holds numbers kinds pointer m distance count each here R1 = subst (HoldsKind numbers (at kinds 1)) (sym (argument_kept m.registers (frame_pointer (length m.frames)) count 0 (omega arith))) (each R1)
entered_holds numbers kinds pointer m distance count each here R2 = subst (HoldsKind numbers (at kinds 2)) (sym (argument_kept m.registers (frame_pointer (length m.frames)) count 1 (omega arith))) (each R2)
entered_holds numbers kinds pointer m distance count each here R3 = subst (HoldsKind numbers (at kinds 3)) (sym (argument_kept m.registers (frame_pointer (length m.frames)) count 2 (omega arith))) (each R3)
entered_holds numbers kinds pointer m distance count each here R4 = subst (HoldsKind numbers (at kinds 4)) (sym (argument_kept m.registers (frame_pointer (length m.frames)) count 3 (omega arith))) (each R4)
entered_holds numbers kinds pointer m distance count each here R5 = subst (HoldsKind numbers (at kinds 5)) (sym (argument_kept m.registers (frame_pointer (length m.frames)) count 4 (omega arith))) (each R5)
entered_holds numbers kinds pointer m distance count each here R6 = tt
entered_holds numbers kinds pointer m distance count each here R7 = tt
entered_holds numbers kinds pointer m distance count each here R8 = tt
entered_holds numbers kinds pointer m distance count each here R9 = tt
entered_holds numbers kinds pointer m distance count each here R10 = subst (HoldsKind numbers pointer) (sym (pointer_behind m.registers (frame_pointer (length m.frames)) count)) here

entered_count : (m : MachineState) (distance : ℤ) → length m.registers ≡ 11 → length (entered m distance).registers ≡ 11
entered_count m distance count = omega (arith, ten m.registers (frame_pointer (length m.frames)) count)

-- no byte of the new frame is written
opened_bytes : (frames : List (List (Option ℕ))) → ((k offset byte : ℕ) → get_or (get_or frames k []) offset None ≡ Some byte → byte < 256)
    → (k offset byte : ℕ) → get_or (get_or (frames ++ unwritten_frame ∷ []) k []) offset None ≡ Some byte → byte < 256
opened_bytes frames was k offset byte is = elim (cases_lt k (length frames)) [
  | inl below ↦ was k offset byte (sym (ap (λ (f : List (Option ℕ)). get_or f offset None) (get_or_append_left frames (unwritten_frame ∷ []) [] k below)) ∙ is)
  | inr from ↦
      no_byte (k - length frames) offset byte
      (sym (ap (λ (f : List (Option ℕ)). get_or f offset None) (get_or-append_right frames (unwritten_frame ∷ []) (length frames) k [] refl from)) ∙ is)
]

some_same : {X : Type 0} (x y : X) → Some x ≡ Some y → x ≡ y
some_same x y e = cc

-- there is room for one frame more
frame_left : (m : MachineState) (n : ℕ) → length m.frames ≡ n → n < 8 → has_frame_left m ≡ true
frame_left m n depth few = lt-ltb (length m.frames) 8 (omega (arith, depth, few))

pub enter_unstuck : (d : Description) → length d.stack < 8 → (limits : HelperLimits) (callers : List SavedRegisters) (distance : ℤ) → NeverStuck limits callers (Call (Local distance)) d
enter_unstuck d few limits callers distance m (numbers, is) = ap not (frame_left m (length d.stack) is.frames.depth few)

pub entered_described : (d : Description) (registers : List Kind) (stack : List (List Bool)) (pointer : Kind) (saved : SavedRegisters) → length d.stack < 8
    → registers ≡ entered_kinds d.registers pointer → pointer ≡ Address (Frame (length d.stack)) (record { least = 512; most = 512 })
    → ((frames : List (List (Option ℕ))) (frame : List (Option ℕ)) → CoversFrames d.stack frames × (length frame ≡ 512) → CoversFrames stack (frames ++ frame ∷ []))
    → ((numbers : FreezeNumbers) (callers : List SavedRegisters) (m : MachineState) → DescribesWith numbers callers d m → AreSaved numbers saved.registers (words_saved m.registers))
    → (callers : List SavedRegisters) (distance : ℤ) (m m' : MachineState) → Describes callers d m → does m (Call (Local distance)) ≡ Some m'
    → Describes (callers ++ saved ∷ []) (record d { registers = registers; stack = stack; loaded = None }) m'
entered_described d registers stack pointer saved few are is_pointer covers saves callers distance m m' (numbers, is) step =
    let room : has_frame_left m ≡ true = frame_left m (length d.stack) is.frames.depth few in
    let there : entered m distance ≡ m' = some_same (entered m distance) m' (sym (cond-true (has_frame_left m) (Some (entered m distance)) None room) ∙ step) in
    let frame : length d.stack ≡ length m.frames = sym is.frames.depth in
    let here : HoldsKind numbers pointer (Some (frame_pointer (length m.frames))) =
    subst (λ (kind : Kind). HoldsKind numbers kind (Some (frame_pointer (length m.frames)))) (sym is_pointer)
    (frame_pointer (length m.frames), refl, (512, ap (λ (k : ℕ). frame_start k + 512) (sym frame), omega arith, omega arith, omega arith)) in
    subst (Describes (callers ++ saved ∷ []) (record d { registers = registers; stack = stack; loaded = None })) there (
      numbers,
      record {
        registers = subst (λ (kinds : List Kind). (reg : Reg) → HoldsKind numbers (at kinds (number_of reg)) (register (entered m distance) reg)) (sym are) (entered_holds numbers d.registers pointer m distance is.count is.registers here);
        count = entered_count m distance is.count;
        frames = covers m.frames unwritten_frame (is.frames, length-replicate {A = Option ℕ} 512 None);
        spills = opened_spilled numbers d.spills m.frames unwritten_frame is.spills;
        standing = standing_opened m.frames unwritten_frame d.numbers is.standing;
        loaded = tt;
        bytes = opened_bytes m.frames is.bytes;
        context = is.context;
        held = is.held;
        disposal = is.disposal;
        calls = (callers, saved, refl, (length-take-le 4 (drop 6 m.registers) (omega (arith, is.count, length-drop 6 m.registers)), saves numbers callers m is), is.calls);
        depth = omega (arith, is.depth, length-append m.frames (unwritten_frame ∷ []));
      },
    )

-- back in the caller

-- the innermost function that waits
pub record IsInnermost (numbers : FreezeNumbers) (callers : List SavedRegisters) (saved : SavedRegisters) (calls : List OpenCall) : Type 0 where
  pub call : OpenCall
  pub rest : List OpenCall
  pub are : calls ≡ call ∷ rest
  pub saves : IsSaved numbers saved call
  pub outer : AreOpen numbers callers rest

first_same : (x y : SavedRegisters) (xs ys : List SavedRegisters) → x ∷ xs ≡ y ∷ ys → (x ≡ y) × (xs ≡ ys)
first_same x y xs ys e = (cc, cc)

last_same : (x y : SavedRegisters) (xs ys : List SavedRegisters) → xs ++ x ∷ [] ≡ ys ++ y ∷ [] → (xs ≡ ys) × (x ≡ y)
last_same x y [] [] e = (refl, (first_same x y [] [] e).0)
last_same x y [] (z ∷ []) e = absurd (let bad = (first_same x z [] (y ∷ []) e).1 in cc)
last_same x y [] (z ∷ w ∷ ys) e = absurd (let bad = (first_same x z [] (w ∷ (ys ++ y ∷ [])) e).1 in cc)
last_same x y (z ∷ []) [] e = absurd (let bad = (first_same z y (x ∷ []) [] e).1 in cc)
last_same x y (z ∷ w ∷ xs) [] e = absurd (let bad = (first_same z y (w ∷ (xs ++ x ∷ [])) [] e).1 in cc)
last_same x y (z ∷ xs) (w ∷ ys) e =
    let parts = first_same z w (xs ++ x ∷ []) (ys ++ y ∷ []) e in
    let rest = last_same x y xs ys parts.1 in
    ((λ i. parts.0 i ∷ rest.0 i), rest.1)

innermost : (numbers : FreezeNumbers) (callers : List SavedRegisters) (saved : SavedRegisters) (calls : List OpenCall) → AreOpen numbers (callers ++ saved ∷ []) calls → IsInnermost numbers callers saved calls
innermost numbers [] saved [] are = absurd cc
innermost numbers (first ∷ callers) saved [] are = absurd cc
innermost numbers callers saved (call ∷ rest) (outer, last, split, its, others) =
    let same = last_same saved last callers outer split in
    record {
      call = call;
      rest = rest;
      are = refl;
      saves = subst (λ (s : SavedRegisters). IsSaved numbers s call) (sym same.1) its;
      outer = subst (λ (c : List SavedRegisters). AreOpen numbers c rest) (sym same.0) others;
    }

pub leave_unstuck : (d : Description) (saved : SavedRegisters) (limits : HelperLimits) (callers : List SavedRegisters) → NeverStuck limits (callers ++ saved ∷ []) Exit d
leave_unstuck d saved limits callers m (numbers, is) = ap (exit_is_stuck m) (innermost numbers callers saved m.open_calls is.calls).are

-- the registers then
abbrev left_words : List (Option ℕ) → List (Option ℕ) → ℕ → List (Option ℕ)
left_words registers saved pointer = take 1 registers ++ replicate 5 None ++ saved ++ Some pointer ∷ []

module _ (registers saved : List (Option ℕ)) (pointer : ℕ) (count : length registers ≡ 11) (four : length saved ≡ 4) where
  abbrev result_and_others : List (Option ℕ)
  result_and_others = take 1 registers ++ replicate 5 None

  result_first : length (take 1 registers) ≡ 1
  result_first = length-take-le 1 registers (omega (arith, count))

  six : length result_and_others ≡ 6
  six = let five : length (replicate {A = Option ℕ} 5 None) ≡ 5 = refl in omega (arith, result_first, five, length-append (take 1 registers) (replicate 5 None))

  up_to_saved : length (result_and_others ++ saved) ≡ 10
  up_to_saved = omega (arith, six, four, length-append result_and_others saved)

  result_kept : get_or (left_words registers saved pointer) 0 None ≡ get_or registers 0 None
  result_kept =
      get_or_append_left (result_and_others ++ saved) (Some pointer ∷ []) None 0 (omega (arith, up_to_saved))
      ∙ (get_or_append_left result_and_others saved None 0 (omega (arith, six))
      ∙ (get_or_append_left (take 1 registers) (replicate 5 None) None 0 (omega (arith, result_first)) ∙ get_or-take 1 registers 0 None (omega arith)))

  saved_back : (k : ℕ) → k < 4 → get_or (left_words registers saved pointer) (6 + k) None ≡ get_or saved k None
  saved_back k less =
      get_or_append_left (result_and_others ++ saved) (Some pointer ∷ []) None (6 + k) (omega (arith, less, up_to_saved))
      ∙ (get_or-append_right result_and_others saved 6 (6 + k) None six (omega arith) ∙ (let same : 6 + k - 6 ≡ k = omega arith in ap (λ (i : ℕ). get_or saved i None) same))

  pointer_last : get_or (left_words registers saved pointer) 10 None ≡ Some pointer
  pointer_last = get_or-append_right (result_and_others ++ saved) (Some pointer ∷ []) 10 10 None up_to_saved (omega arith)

  left_count : length (left_words registers saved pointer) ≡ 11
  left_count = omega (arith, up_to_saved, length-append (result_and_others ++ saved) (Some pointer ∷ []))

  left_holds : (numbers : FreezeNumbers) (r0 frame : Kind) (kept : List Kind) → HoldsKind numbers r0 (get_or registers 0 None) → HoldBack numbers kept saved → HoldsKind numbers frame (Some pointer)
      → (reg : Reg) → HoldsKind numbers (at (left_kinds r0 kept frame) (number_of reg)) (get_or (left_words registers saved pointer) (number_of reg) None)
  left_holds numbers r0 frame kept first back last R0 = subst (HoldsKind numbers r0) (sym result_kept) first
  left_holds numbers r0 frame kept first back last R1 = tt
  left_holds numbers r0 frame kept first back last R2 = tt
  left_holds numbers r0 frame kept first back last R3 = tt
  left_holds numbers r0 frame kept first back last R4 = tt
  left_holds numbers r0 frame kept first back last R5 = tt
  left_holds numbers r0 frame kept first back last R6 = subst (HoldsKind numbers (at kept 0)) (sym (saved_back 0 (omega arith))) (back 0 (omega arith))
  left_holds numbers r0 frame kept first back last R7 = subst (HoldsKind numbers (at kept 1)) (sym (saved_back 1 (omega arith))) (back 1 (omega arith))
  left_holds numbers r0 frame kept first back last R8 = subst (HoldsKind numbers (at kept 2)) (sym (saved_back 2 (omega arith))) (back 2 (omega arith))
  left_holds numbers r0 frame kept first back last R9 = subst (HoldsKind numbers (at kept 3)) (sym (saved_back 3 (omega arith))) (back 3 (omega arith))
  left_holds numbers r0 frame kept first back last R10 = subst (HoldsKind numbers frame) (sym pointer_last) last

-- the frames without the innermost
pub record HasLast (frames : List (List (Option ℕ))) : Type 0 where
  pub last : List (Option ℕ)
  pub split : take (length frames - 1) frames ++ last ∷ [] ≡ frames

has_last : (frames : List (List (Option ℕ))) → 0 < length frames → HasLast frames
has_last frames some = record {
  last = get_or frames (length frames - 1) [];
  split =
      ap (λ (l : List (List (Option ℕ))). take (length frames - 1) frames ++ l) (sym alone) ∙ take-append-drop (length frames - 1) frames;
}
  where
    alone : drop (length frames - 1) frames ≡ get_or frames (length frames - 1) [] ∷ []
    alone = drop-cons frames (length frames - 1) [] (omega (arith, some)) ∙ ap (λ (l : List (List (Option ℕ))). get_or frames (length frames - 1) [] ∷ l) (drop_of_length-le frames {i = suc (length frames - 1)} (omega (arith, some)))

closed_bytes : (frames : List (List (Option ℕ))) (n : ℕ) → n ≤ length frames → ((k offset byte : ℕ) → get_or (get_or frames k []) offset None ≡ Some byte → byte < 256)
    → (k offset byte : ℕ) → get_or (get_or (take n frames) k []) offset None ≡ Some byte → byte < 256
closed_bytes frames n within was k offset byte is = elim (cases_lt k n) [
  | inl below ↦ was k offset byte (sym (ap (λ (f : List (Option ℕ)). get_or f offset None) (get_or-take n frames k [] below)) ∙ is)
  | inr from ↦
      absurd (let bad : None ≡ Some byte = sym (ap (λ (f : List (Option ℕ)). get_or f offset None) (get_or_past (take n frames) k [] (omega (arith, from, length-take-le n frames within)))) ∙ is in cc)
]

pub left_described : (d : Description) (registers : List Kind) (stack : List (List Bool)) (spills : List Spill) (standing : List (Option StackNumber)) (r0 pointer : Kind) (kept : List Kind) (saved : SavedRegisters) (frame : ℕ) → registers ≡ left_kinds r0 kept pointer
    → pointer ≡ Address (Frame frame) (record { least = 512; most = 512 }) → frame + 2 ≡ length d.stack
    → ((frames : List (List (Option ℕ))) (last : List (Option ℕ)) → CoversFrames d.stack (frames ++ last ∷ []) → CoversFrames stack frames)
    → IsFewer d.spills spills → ((place : ℕ) → 64 * (frame + 1) ≤ place → at_place spills place ≡ Nothing) → ((frames : List (List (Option ℕ))) → AreStanding frames d.numbers → AreStanding (take (frame + 1) frames) standing)
    → ((numbers : FreezeNumbers) (o : Option ℕ) → HoldsKind numbers (kind_at d R0) o → HoldsKind numbers r0 o)
    → ((numbers : FreezeNumbers) (run : List ℕ) (os : List (Option ℕ)) → AreHeld numbers d.held run → AreSaved numbers saved.registers os → HoldBack numbers kept os)
    → (callers : List SavedRegisters) (m m' : MachineState) → Describes (callers ++ saved ∷ []) d m → does m Exit ≡ Some m' → Describes callers (record d { registers = registers; stack = stack; spills = spills; numbers = standing; loaded = None }) m'
left_described d registers stack spills standing r0 pointer kept saved frame are is_pointer live covers fewer outside closes result back callers m m' (numbers, is) step =
    let inner = innermost numbers callers saved m.open_calls is.calls in
    let call = inner.call in
    let count : length m.frames ≡ length inner.rest + 2 = omega (arith, is.depth, ap length inner.are) in
    let frames = take (length m.frames - 1) m.frames in
    let last = has_last m.frames (omega (arith, count)) in
    let words = left_words m.registers call.saved (frame_pointer (length inner.rest)) in
    let next : MachineState = record m { pc = call.return_pc; registers = words; frames = frames; open_calls = inner.rest } in
    let there : next ≡ m' = some_same next m' (sym (ap (returned m) inner.are) ∙ step) in
    let where_is : frame ≡ length inner.rest = omega (arith, live, count, is.frames.depth) in
    let here : HoldsKind numbers pointer (Some (frame_pointer (length inner.rest))) =
    subst (λ (kind : Kind). HoldsKind numbers kind (Some (frame_pointer (length inner.rest)))) (sym is_pointer)
    (frame_pointer (length inner.rest), refl, (512, ap (λ (k : ℕ). frame_start k + 512) (sym where_is), omega arith, omega arith, omega arith)) in
    subst (Describes callers (record d { registers = registers; stack = stack; spills = spills; numbers = standing; loaded = None })) there (
      numbers,
      record {
        registers =
            subst (λ (kinds : List Kind). (reg : Reg) → HoldsKind numbers (at kinds (number_of reg)) (get_or words (number_of reg) None)) (sym are)
            (left_holds m.registers call.saved (frame_pointer (length inner.rest)) is.count inner.saves.0 numbers r0 pointer kept (result numbers (get_or m.registers 0 None) (is.registers R0)) (back numbers m.held call.saved is.held inner.saves.1) here);
        count = left_count m.registers call.saved (frame_pointer (length inner.rest)) is.count inner.saves.0;
        frames = covers frames last.last (subst (CoversFrames d.stack) (sym last.split) is.frames);
        spills = closed_spilled numbers d.spills spills m.frames (length m.frames - 1) (omega arith) fewer (λ place past. outside place (omega (arith, past, live, is.frames.depth))) is.spills;
        standing = subst (λ (n : ℕ). AreStanding (take n m.frames) standing) (let all : frame + 1 ≡ length m.frames - 1 = omega (arith, live, is.frames.depth) in all) (closes m.frames is.standing);
        loaded = tt;
        bytes = closed_bytes m.frames (length m.frames - 1) (omega arith) is.bytes;
        context = is.context;
        held = is.held;
        disposal = is.disposal;
        calls = inner.outer;
        depth = omega (arith, count, length-take-le (length m.frames - 1) m.frames (omega arith));
      },
    )

-- what is known of them, whatever a machine is

pub entered_known : (d : Description) (registers : List Kind) (stack : List (List Bool)) (pointer : Kind) (saved : SavedRegisters) → registers ≡ entered_kinds d.registers pointer
    → pointer ≡ Address (Frame (length d.stack)) (record { least = 512; most = 512 }) → length stack ≡ length d.stack + 1
    → ((frames : List (List (Option ℕ))) (frame : List (Option ℕ)) → CoversFrames stack (frames ++ frame ∷ []) → CoversFrames d.stack frames × (length frame ≡ 512))
    → ((k : ℕ) (default : SavedRegister) → k < 4 → (get_or saved.registers k default).kind ≡ at d.registers (6 + k))
    → ((k : ℕ) (default : SavedRegister) → k < 4 → IsSureCopy d (get_or saved.registers k default))
    → LeavesEntered saved d (record d { registers = registers; stack = stack; loaded = None })
entered_known d registers stack pointer saved are is_pointer deeper covers kinds copies = record {
  arguments = arguments_known;
  pointer = ap (λ (l : List Kind). at l 10) are ∙ is_pointer;
  saves = kinds;
  copies = copies;
  known = λ k offset knows frames now.
      let last = has_last frames (omega (arith, now.depth, deeper)) in
      let parts = covers (take (length frames - 1) frames) last.last (subst (CoversFrames stack) (sym last.split) now) in
      written_before frames (length frames - 1) k offset (omega arith) (knows (take (length frames - 1) frames) parts.0);
  spills = refl;
  held = refl;
  disposal = refl;
}
  where
    arguments_known : (reg : Reg) → 1 ≤ number_of reg → number_of reg ≤ 5 → at registers (number_of reg) ≡ at d.registers (number_of reg)
    arguments_known R0 from to = absurd (omega (arith, from))
    arguments_known R1 from to = ap (λ (l : List Kind). at l 1) are
    arguments_known R2 from to = ap (λ (l : List Kind). at l 2) are
    arguments_known R3 from to = ap (λ (l : List Kind). at l 3) are
    arguments_known R4 from to = ap (λ (l : List Kind). at l 4) are
    arguments_known R5 from to = ap (λ (l : List Kind). at l 5) are
    arguments_known R6 from to = absurd (omega (arith, to))
    arguments_known R7 from to = absurd (omega (arith, to))
    arguments_known R8 from to = absurd (omega (arith, to))
    arguments_known R9 from to = absurd (omega (arith, to))
    arguments_known R10 from to = absurd (omega (arith, to))

    written_before : (frames : List (List (Option ℕ))) (n k offset : ℕ) → n ≤ length frames → IsWritten (take n frames) k offset → IsWritten frames k offset
    written_before frames n k offset within written = elim (cases_lt k n) [
      | inl below ↦ ap (λ (f : List (Option ℕ)). is_some (get_or f offset None)) (sym (get_or-take n frames k [] below)) ∙ written
      | inr from ↦
          absurd (let bad : false ≡ true = sym (ap (λ (f : List (Option ℕ)). is_some (get_or f offset None)) (get_or_past (take n frames) k [] (omega (arith, from, length-take-le n frames within)))) ∙ written in cc)
    ]

pub left_known : (d : Description) (registers : List Kind) (stack : List (List Bool)) (spills : List Spill) (standing : List (Option StackNumber)) (r0 pointer : Kind) (kept : List Kind) (saved : SavedRegisters) (frame : ℕ) → registers ≡ left_kinds r0 kept pointer
    → pointer ≡ Address (Frame frame) (record { least = 512; most = 512 }) → frame + 1 ≡ length stack → r0 ≡ outlived_kind (length stack) (kind_at d R0)
    → ((k : ℕ) (default : SavedRegister) → k < 4 → at kept k ≡ kind_back d.held (get_or saved.registers k default))
    → ((k offset : ℕ) → k < length stack → (IsGone (length stack) (spill_at d.spills k (offset / 8)) → ⊥) → Knows d.stack k offset → Knows stack k offset)
    → ((place : ℕ) → IsGone (length stack) (at_place spills place) → ⊥) → (d.spills ≡ [] → spills ≡ [])
    → LeavesReturned saved d (record d { registers = registers; stack = stack; spills = spills; numbers = standing; loaded = None })
left_known d registers stack spills standing r0 pointer kept saved frame are is_pointer live result back knows outlives unspilled = record {
  result = ap (λ (l : List Kind). at l 0) are ∙ result;
  kept = kept_known;
  pointer = λ other is. let same : other ≡ frame = omega (arith, is, live) in ap (λ (l : List Kind). at l 10) are ∙ (is_pointer ∙ ap (λ (n : ℕ). Address (Frame n) (record { least = 512; most = 512 })) (sym same));
  known = knows;
  outlives = outlives;
  unspilled = unspilled;
  held = refl;
  disposal = refl;
}
  where
    kept_known : (k : ℕ) (default : SavedRegister) → k < 4 → at registers (6 + k) ≡ kind_back d.held (get_or saved.registers k default)
    kept_known zero default less = ap (λ (l : List Kind). at l 6) are ∙ back 0 default less
    kept_known (suc zero) default less = ap (λ (l : List Kind). at l 7) are ∙ back 1 default less
    kept_known (suc (suc zero)) default less = ap (λ (l : List Kind). at l 8) are ∙ back 2 default less
    kept_known (suc (suc (suc zero))) default less = ap (λ (l : List Kind). at l 9) are ∙ back 3 default less
    kept_known (suc (suc (suc (suc k)))) default less = absurd (omega (arith, less))
