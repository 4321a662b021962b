-- Each frame of a machine that a program reaches has its 512 bytes, and so a call tells as many bytes as it names.
use Rattle.std.proofs.Common.{◌≡◌, ℕ, ℤ, zero, suc, ◌+◌, ◌-◌, ◌≤◌, ◌&&◌, Bool, true, false, List, [], ◌∷◌, ◌++◌, Option, Some, None, inl, inr, length, take, drop, map, refl, ap, sym, subst, ◌∙◌, arith, nat_le, length-append}
use Rattle.std.specs.Prelude.{unwrap_or}
use Rattle.std.specs.Option.{option_map, option_and_then}
use Rattle.std.proofs.lemmas.Bool.{cases_Bool, cond-true, cond-false, and_parts, leb-true}
use Rattle.std.proofs.lemmas.List.{length-take-le, length-drop, length-map, length-replicate}
use Rattle.byteorder.specs.Endian.{little_bytes}
use Rattle.std.specs.Int.{byte_len}
use Rattle.bpf_insn.specs.declared.insn.Insn.{Insn}
use Rattle.bpf_insn.specs.declared.insn.Insn.TheVariants.{Alu, InPlace, SignExtend, JumpIf, Jump, LoadImmediate, Load, Store, Call, Exit}
use Rattle.bpf_insn.specs.declared.insn.AluOp.{AluOp}
use Rattle.bpf_insn.specs.declared.insn.Callee.TheVariants.{Helper, Local}
use Rattle.bpf_insn.specs.declared.insn.Condition.{Condition}
use Rattle.bpf_insn.specs.declared.insn.StoreSize.{StoreSize}
use Rattle.bpf_insn.specs.declared.insn.Width.{Width}
use Rattle.bpf_insn.specs.declared.program.Slot.{Slot}
use Rattle.bpf_insn.specs.declared.reg.Reg.{Reg}
use Rattle.bpf_insn.specs.Program.{insn_at}
use Rattle.helpers.specs.Table.{row_of}
use Rattle.helpers.specs.declared.columns.Change.{Change}
use Rattle.helpers.specs.declared.columns.Change.TheVariants as changes
use Rattle.helpers.specs.declared.request.Answer.{Answer}
use Rattle.helpers.specs.declared.request.Arguments.{Arguments}
use Rattle.helpers.specs.declared.request.Written.{Written}
use Rattle.bpf_stack_frame.specs.Frame.{all_written, byte_of, written_at}
use Rattle.bpf_semantics.specs.Calls.{traced}
use Rattle.bpf_semantics.specs.Frames.{frame_bytes, frame_start, frames_with, is_inside}
use Rattle.bpf_semantics.specs.MachineState.{MachineState, OpenCall, register, unwritten_frame}
use Rattle.bpf_semantics.specs.Memory.{address_of, load_width, store_width, word_from}
use Rattle.bpf_semantics.specs.Reached.{Reached}
use Rattle.bpf_semantics.specs.Step.{after_call, calls, changed_by, compute, does, entered, first_operand, frames_after, has_frame_left, jump_if, operand, returned, store}
use Rattle.bpf_semantics.proofs.WrittenBytes.{some_same, written_bytes}

abbrev pub AreWhole : List (List (Option ℕ)) → Type 0
AreWhole [] = Unit {0}
AreWhole (frame ∷ frames) = (length frame ≡ 512) × AreWhole frames

-- ---- what becomes of frames

unwritten_whole : length unwritten_frame ≡ 512
unwritten_whole = length-replicate {A = Option ℕ} 512 None

whole_more : (frames : List (List (Option ℕ))) → AreWhole frames → AreWhole (frames ++ unwritten_frame ∷ [])
whole_more [] whole = (unwritten_whole, tt)
whole_more (frame ∷ frames) whole = (whole.0, whole_more frames whole.1)

whole_take : (count : ℕ) (frames : List (List (Option ℕ))) → AreWhole frames → AreWhole (take count frames)
whole_take zero frames whole = tt
whole_take (suc count) [] whole = tt
whole_take (suc count) (frame ∷ frames) whole = (whole.0, whole_take count frames whole.1)

written_whole : (offset : ℕ) (bytes : List ℕ) (frame : List (Option ℕ)) → length frame ≡ 512 → offset + length bytes ≤ 512 → length (written_at offset bytes frame) ≡ 512
unfolding written_at
written_whole offset bytes frame whole fits =
    let behind = drop (offset + length bytes) frame in
    let some : List (Option ℕ) = map Some bytes in
    let all : length (take offset frame ++ some ++ behind) ≡ 512 =
    omega (
      arith,
      whole,
      fits,
      length-append (take offset frame ++ some) behind,
      length-append (take offset frame) some,
      length-take-le offset frame (omega (arith, whole, fits)),
      length-map bytes (λ (b : ℕ). Some b),
      length-drop (offset + length bytes) frame,
    ) in
    all

with_whole : (k : ℕ) (frames : List (List (Option ℕ))) (address : ℕ) (bytes : List ℕ) (next : List (List (Option ℕ))) → AreWhole frames → frames_with k frames address bytes ≡ Some next → AreWhole next
with_whole k [] address bytes next whole e = absurd (let bad : None ≡ Some next = e in cc)
with_whole k (frame ∷ frames) address bytes next whole e =
    elim (cases_Bool (is_inside (frame_start k) address (length bytes))) [
      | inl inside ↦
          let parts = and_parts (nat_le (frame_start k) address) (nat_le (address + length bytes) (frame_start k + 512)) inside in
          let fits : (address - frame_start k) + length bytes ≤ 512 = omega (arith, leb-true _ _ parts.0, leb-true _ _ parts.1) in
          subst AreWhole (some_same (written_at (address - frame_start k) bytes frame ∷ frames) next (sym (cond-true (is_inside (frame_start k) address (length bytes)) _ _ inside) ∙ e))
          (written_whole (address - frame_start k) bytes frame whole.0 fits, whole.1)
      | inr outside ↦
          of_rest (λ rest is. with_whole (k + 1) frames address bytes rest whole.1 is) (frames_with (k + 1) frames address bytes) refl (sym (cond-false (is_inside (frame_start k) address (length bytes)) _ _ outside) ∙ e)
    ]
  where
    of_rest : ((rest : List (List (Option ℕ))) → frames_with (k + 1) frames address bytes ≡ Some rest → AreWhole rest)
        → (o : Option (List (List (Option ℕ)))) → frames_with (k + 1) frames address bytes ≡ o → option_map (λ rest. frame ∷ rest) o ≡ Some next → AreWhole next
    of_rest others None is made = absurd (let bad : None ≡ Some next = made in cc)
    of_rest others (Some rest) is made = subst AreWhole (some_same (frame ∷ rest) next made) (whole.0, others rest is)

-- ---- by an instruction that is private to its run

abbrev Whole : MachineState → Type 0
Whole m = AreWhole m.frames

made_whole : (made m : MachineState) → Whole made → Some made ≡ Some m → Whole m
made_whole made m whole e = subst Whole (some_same made m e) whole

mapped_whole : {X : Type 0} (does_it : X → MachineState) (o : Option X) (m : MachineState) → ((x : X) → Whole (does_it x)) → option_map does_it o ≡ Some m → Whole m
mapped_whole does_it None m whole e = absurd (let bad : None ≡ Some m = e in cc)
mapped_whole does_it (Some x) m whole e = made_whole (does_it x) m (whole x) e

module _ (m after : MachineState) (whole : Whole m) where
  compute_whole : (width : Width) (op : AluOp) (dst : Reg) (a b : Option ℕ) → compute m width op dst a b ≡ Some after → Whole after
  compute_whole width op dst None b e = absurd (let bad : None ≡ Some after = e in cc)
  compute_whole width op dst (Some a) None e = absurd (let bad : None ≡ Some after = e in cc)
  compute_whole width op dst (Some a) (Some b) e = made_whole _ after whole e

  jump_whole : (width : Width) (condition : Condition) (offset : ℤ) (a b : Option ℕ) → jump_if m width condition offset a b ≡ Some after → Whole after
  jump_whole width condition offset None b e = absurd (let bad : None ≡ Some after = e in cc)
  jump_whole width condition offset (Some a) None e = absurd (let bad : None ≡ Some after = e in cc)
  jump_whole width condition offset (Some a) (Some b) e = made_whole _ after whole e

  store_whole : (size : StoreSize) (address word : Option ℕ) → store m size address word ≡ Some after → Whole after
  store_whole size None word e = absurd (let bad : None ≡ Some after = e in cc)
  store_whole size (Some address) None e = absurd (let bad : None ≡ Some after = e in cc)
  store_whole size (Some address) (Some word) e = of_frames (frames_with 0 m.frames address bytes) refl e
    where
      bytes : List ℕ
      bytes = little_bytes (byte_len (store_width size)) word

      of_frames : (o : Option (List (List (Option ℕ)))) → frames_with 0 m.frames address bytes ≡ o
          → option_map (λ (next : MachineState). record next { pc = m.pc + 1 }) (option_map (λ (frames : List (List (Option ℕ))). record m { frames = frames }) o) ≡ Some after → Whole after
      of_frames None is made = absurd (let bad : None ≡ Some after = made in cc)
      of_frames (Some frames) is made = made_whole _ after (with_whole 0 m.frames address bytes frames whole is) made

  returned_whole : (waiting : List OpenCall) → returned m waiting ≡ Some after → Whole after
  returned_whole [] e = absurd (let bad : None ≡ Some after = e in cc)
  returned_whole (call ∷ more) e = made_whole _ after (whole_take (length m.frames - 1) m.frames whole) e

  entered_whole : (distance : ℤ) (room : Bool) → has_frame_left m ≡ room → calls m (Local distance) ≡ Some after → Whole after
  entered_whole distance true room e = made_whole (entered m distance) after (whole_more m.frames whole) (sym (cond-true (has_frame_left m) _ _ room) ∙ e)
  entered_whole distance false room e = absurd (let bad : None ≡ Some after = sym (cond-false (has_frame_left m) _ _ room) ∙ e in cc)

  does_whole : (insn : Insn) → does m insn ≡ Some after → Whole after
  does_whole (Alu width op dst src) e = compute_whole width op dst (first_operand m op dst) (operand m src) e
  does_whole (InPlace op dst) e = mapped_whole _ (register m dst) after (λ a. whole) e
  does_whole (SignExtend extension dst src) e = mapped_whole _ (register m src) after (λ a. whole) e
  does_whole (JumpIf width condition dst src offset) e = jump_whole width condition offset (register m dst) (operand m src) e
  does_whole (Jump distance) e = made_whole _ after whole e
  does_whole (LoadImmediate dst value) e = made_whole _ after whole e
  does_whole (Load form dst src offset) e = mapped_whole _ (option_and_then (word_from (load_width form) m) (address_of m src offset)) after (λ word. whole) e
  does_whole (Store size dst src offset) e = store_whole size (address_of m dst offset) (operand m src) e
  does_whole (Call (Helper number)) e = absurd (let bad : None ≡ Some after = e in cc)
  does_whole (Call (Local distance)) e = entered_whole distance (has_frame_left m) refl e
  does_whole Exit e = returned_whole m.open_calls e

  step_whole : (o : Option Insn) → option_and_then (does m) o ≡ Some after → Whole after
  step_whole None e = absurd (let bad : None ≡ Some after = e in cc)
  step_whole (Some insn) e = does_whole insn e

-- ---- by a helper call

after_whole : (frames : List (List (Option ℕ))) (written : Option Written) → AreWhole frames → AreWhole (frames_after frames written)
after_whole frames None whole = whole
after_whole frames (Some written) whole = of_frames (frames_with 0 frames written.address written.bytes) refl
  where
    of_frames : (o : Option (List (List (Option ℕ)))) → frames_with 0 frames written.address written.bytes ≡ o → AreWhole (unwrap_or o frames)
    of_frames None is = whole
    of_frames (Some next) is = with_whole 0 frames written.address written.bytes next whole is

changed_whole : (change : Change) (arguments : Arguments) (answer : Answer) (m : MachineState) → Whole m → Whole (changed_by change arguments answer m)
changed_whole changes.Nothing arguments answer m whole = whole
changed_whole changes.Holds arguments answer m whole = whole
changed_whole changes.GivesUp arguments answer m whole = whole
changed_whole changes.Disposes arguments answer m whole = whole
changed_whole (changes.Writes bytes) arguments answer m whole = after_whole m.frames answer.written whole

-- ---- along a run of the program

pub reached_whole : (program : List Slot) (n : ℕ) (m : MachineState) → Reached program n m → AreWhole m.frames
reached_whole program zero m entry = subst Whole (sym entry.is) (unwritten_whole, tt)
reached_whole program (suc n) m (before, reached, inl step) = step_whole before m (reached_whole program n before reached) (insn_at program before.pc) step
reached_whole program (suc n) m (before, reached, inr (request, answer, asks, allowed)) =
    subst Whole (sym allowed.1) (changed_whole (row_of request.helper).machine request.arguments answer (after_call before answer.r0) (reached_whole program n before reached))

-- ---- the bytes that a call tells

found_length : (k : ℕ) (frames : List (List (Option ℕ))) (address count : ℕ) (found : List (Option ℕ)) → AreWhole frames → frame_bytes k frames address count ≡ Some found → length found ≡ count
found_length k [] address count found whole e = absurd (let bad : None ≡ Some found = e in cc)
found_length k (frame ∷ frames) address count found whole e =
    elim (cases_Bool (is_inside (frame_start k) address count)) [
      | inl inside ↦
          let parts = and_parts (nat_le (frame_start k) address) (nat_le (address + count) (frame_start k + 512)) inside in
          let rest : List (Option ℕ) = drop (address - frame_start k) frame in
          let here : take count rest ≡ found = some_same (take count rest) found (sym (cond-true (is_inside (frame_start k) address count) _ _ inside) ∙ e) in
          sym (ap length here) ∙ length-take-le count rest (omega (arith, leb-true _ _ parts.0, leb-true _ _ parts.1, whole.0, length-drop (address - frame_start k) frame))
      | inr outside ↦ found_length (k + 1) frames address count found whole.1 (sym (cond-false (is_inside (frame_start k) address count) _ _ outside) ∙ e)
    ]

pub traced_length : (m : MachineState) (address count : ℕ) (bytes : List ℕ) → AreWhole m.frames → traced m address count ≡ Some bytes → (1 ≤ length bytes) × (length bytes ≤ 64)
traced_length m address count bytes whole e =
    elim (cases_Bool (nat_le 1 count && nat_le count 64)) [
      | inl few ↦
          let parts = and_parts (nat_le 1 count) (nat_le count 64) few in
          let same : length bytes ≡ count = of_found (frame_bytes 0 m.frames address count) refl (sym (cond-true (nat_le 1 count && nat_le count 64) _ None few) ∙ e) in
          (omega (arith, same, leb-true _ _ parts.0), omega (arith, same, leb-true _ _ parts.1))
      | inr many ↦ absurd (let bad : None ≡ Some bytes = sym (cond-false (nat_le 1 count && nat_le count 64) _ None many) ∙ e in cc)
    ]
  where
    of_found : (o : Option (List (Option ℕ))) → frame_bytes 0 m.frames address count ≡ o → option_and_then all_written o ≡ Some bytes → length bytes ≡ count
    of_found None is all = absurd (let bad : None ≡ Some bytes = all in cc)
    of_found (Some found) is all = ap length (written_bytes found bytes all) ∙ length-map found byte_of ∙ found_length 0 m.frames address count found whole is
