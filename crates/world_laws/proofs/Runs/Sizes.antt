-- How much a run has: wherever its program comes, its frames and the freezes that its machine holds are few; and so are the entries that
-- name it.
use Rattle.std.proofs.Common.{◌≡◌, ℕ, ℤ, zero, suc, ◌+◌, ◌-◌, ◌<◌, ◌≤◌, ◌==◌, Bool, true, false, not, List, [], ◌∷◌, ◌++◌, Option, Some, None, inl, inr, length, take, refl, ap, sym, subst, ◌∙◌, arith, length-append}
use Rattle.std.specs.Prelude.{unwrap_or}
use Rattle.std.specs.Option.{option_map, option_and_then}
use Rattle.std.specs.Int.{byte_len}
use Rattle.std.proofs.lemmas.Bool.{cases_Bool, cond-true, cond-false, ltb-true}
use Rattle.std.proofs.lemmas.List.{length-map, length-take-le}
use Rattle.std.proofs.lemmas.List.Sums.{count_by-le-length, length-filter}
use Rattle.byteorder.specs.Endian.{little_bytes}
use Rattle.bpf_insn.specs.declared.insn.Insn.{Insn}
use Rattle.bpf_insn.specs.declared.insn.Insn.TheVariants.{Alu, InPlace, SignExtend, JumpIf, Jump, LoadImmediate, Load, Store, Call, Exit}
use Rattle.bpf_insn.specs.declared.insn.AluOp.{AluOp}
use Rattle.bpf_insn.specs.declared.insn.Callee.TheVariants.{Helper, Local}
use Rattle.bpf_insn.specs.declared.insn.Condition.{Condition}
use Rattle.bpf_insn.specs.declared.insn.StoreSize.{StoreSize}
use Rattle.bpf_insn.specs.declared.insn.Width.{Width}
use Rattle.bpf_insn.specs.declared.program.Slot.{Slot}
use Rattle.bpf_insn.specs.declared.reg.Reg.{Reg}
use Rattle.bpf_insn.specs.Program.{insn_at}
use Rattle.freeze_ledger.specs.declared.freeze.Freeze.{Freeze}
use Rattle.helpers.specs.Table.{row_of}
use Rattle.helpers.specs.declared.limits.HelperLimits.{HelperLimits}
use Rattle.helpers.specs.declared.columns.Change.{Change}
use Rattle.helpers.specs.declared.columns.Change.TheVariants as changes
use Rattle.helpers.specs.declared.columns.Needs.{Needs}
use Rattle.helpers.specs.declared.columns.Needs.TheVariants as needs
use Rattle.helpers.specs.declared.request.Answer.{Answer}
use Rattle.helpers.specs.declared.request.Arguments.{Arguments}
use Rattle.helpers.specs.declared.request.Request.{Request}
use Rattle.helpers.specs.declared.request.Written.{Written}
use Rattle.helpers.specs.declared.table.Row.{Row}
use Rattle.helpers.proofs.Together.{Wants, wanted}
use Rattle.bpf_semantics.specs.Calls.{meets_need, meets_rule}
use Rattle.bpf_semantics.specs.Frames.{frame_start, frames_with, is_inside}
use Rattle.bpf_semantics.specs.MachineState.{MachineState, OpenCall, entry, register, unwritten_frame}
use Rattle.bpf_semantics.specs.Memory.{address_of, load_width, store_width, word_from}
use Rattle.bpf_semantics.specs.Reached.{Reached, Safe}
use Rattle.bpf_semantics.specs.Step.{after_call, answered, calls, changed_by, compute, does, entered, first_operand, frames_after, has_frame_left, held_with, held_without, jump_if, operand, request_at, returned, store}
use Rattle.bpf_semantics.proofs.Progress.{progress_lem}
use Rattle.bpf_semantics.proofs.WrittenBytes.{some_same}
use Rattle.bpf_stack_frame.specs.Frame.{written_at}
use Rattle.world.specs.World.{Setup, queue_count, queue_setup, LiveRun, World}
use Rattle.world.specs.Lawful.{IsLawful}
use Rattle.world.specs.Laws.LimitLaws.{RunsKeepLimits}
use Rattle.world.specs.Lookups.{run_of}
use Rattle.world.specs.Laws.FreezeLaws.{entries_of, held_by}
use Rattle.world.proofs.Lists.Each.{all_found}
use Rattle.world.proofs.Steps.Moves.{lists_of, run_key}
use Rattle.world_laws.proofs.Freezes.Held.{nothing_held}
use Rattle.world_laws.proofs.Runs.Reaching.{lawful_queue}
use Rattle.world_laws.proofs.Sound.{IsSound, run_sound}
use Rattle.world_laws.proofs.Steps.Private.{private_keeps}
use Rattle.world_laws.proofs.Steps.Rules.{rule_parts}

-- ---- the frames

abbrev FewFrames : MachineState → Type 0
FewFrames m = length m.frames ≤ 8

-- what is written changes a frame, and not how many there are
with_count : (k : ℕ) (frames : List (List (Option ℕ))) (address : ℕ) (bytes : List ℕ) (next : List (List (Option ℕ))) → frames_with k frames address bytes ≡ Some next → length next ≡ length frames
with_count k [] address bytes next e = absurd (let bad : None ≡ Some next = e in cc)
with_count k (frame ∷ frames) address bytes next e =
    elim (cases_Bool (is_inside (frame_start k) address (length bytes))) [
      | inl inside ↦
          ap (λ (fs : List (List (Option ℕ))). length fs)
          (sym (some_same (written_at (address - frame_start k) bytes frame ∷ frames) next (sym (cond-true (is_inside (frame_start k) address (length bytes)) _ _ inside) ∙ e)))
      | inr outside ↦
          of_rest (λ rest is. with_count (k + 1) frames address bytes rest is) (frames_with (k + 1) frames address bytes) refl
          (sym (cond-false (is_inside (frame_start k) address (length bytes)) _ _ outside) ∙ e)
    ]
  where
    of_rest : ((rest : List (List (Option ℕ))) → frames_with (k + 1) frames address bytes ≡ Some rest → length rest ≡ length frames)
        → (o : Option (List (List (Option ℕ)))) → frames_with (k + 1) frames address bytes ≡ o → option_map (λ rest. frame ∷ rest) o ≡ Some next → length next ≡ length (frame ∷ frames)
    of_rest others None is made = absurd (let bad : None ≡ Some next = made in cc)
    of_rest others (Some rest) is made =
        ap (λ (fs : List (List (Option ℕ))). length fs) (sym (some_same (frame ∷ rest) next made)) ∙ ap suc (others rest is)

-- one frame more, and one alone
more_few : (frames : List (List (Option ℕ))) (frame : List (Option ℕ)) → length frames < 8 → length (frames ++ frame ∷ []) ≤ 8
more_few frames frame room = omega (arith, room, length-append frames (frame ∷ []))

one_few : (frame : List (Option ℕ)) → length (frame ∷ []) ≤ 8
one_few frame = omega arith

-- and one fewer
fewer_few : (frames : List (List (Option ℕ))) → length frames ≤ 8 → length (take (length frames - 1) frames) ≤ 8
fewer_few frames few = omega (arith, few, length-take-le (length frames - 1) frames (omega arith))

written_still : (k : ℕ) (frames : List (List (Option ℕ))) (address : ℕ) (bytes : List ℕ) (next : List (List (Option ℕ))) → frames_with k frames address bytes ≡ Some next → length frames ≤ 8 → length next ≤ 8
written_still k frames address bytes next e few = omega (arith, few, with_count k frames address bytes next e)

made_few : (made m : MachineState) → FewFrames made → Some made ≡ Some m → FewFrames m
made_few made m few e = subst FewFrames (some_same made m e) few

mapped_few : {X : Type 0} (does_it : X → MachineState) (o : Option X) (m : MachineState) → ((x : X) → FewFrames (does_it x)) → option_map does_it o ≡ Some m → FewFrames m
mapped_few does_it None m few e = absurd (let bad : None ≡ Some m = e in cc)
mapped_few does_it (Some x) m few e = made_few (does_it x) m (few x) e

module _ (m after : MachineState) (few : FewFrames m) where
  compute_few : (width : Width) (op : AluOp) (dst : Reg) (a b : Option ℕ) → compute m width op dst a b ≡ Some after → FewFrames after
  compute_few width op dst None b e = absurd (let bad : None ≡ Some after = e in cc)
  compute_few width op dst (Some a) None e = absurd (let bad : None ≡ Some after = e in cc)
  compute_few width op dst (Some a) (Some b) e = made_few _ after few e

  jump_few : (width : Width) (condition : Condition) (offset : ℤ) (a b : Option ℕ) → jump_if m width condition offset a b ≡ Some after → FewFrames after
  jump_few width condition offset None b e = absurd (let bad : None ≡ Some after = e in cc)
  jump_few width condition offset (Some a) None e = absurd (let bad : None ≡ Some after = e in cc)
  jump_few width condition offset (Some a) (Some b) e = made_few _ after few e

  store_few : (size : StoreSize) (address word : Option ℕ) → store m size address word ≡ Some after → FewFrames after
  store_few size None word e = absurd (let bad : None ≡ Some after = e in cc)
  store_few size (Some address) None e = absurd (let bad : None ≡ Some after = e in cc)
  store_few size (Some address) (Some word) e = of_frames (frames_with 0 m.frames address bytes) refl e
    where
      bytes : List ℕ
      bytes = little_bytes (byte_len (store_width size)) word

      of_frames : (o : Option (List (List (Option ℕ)))) → frames_with 0 m.frames address bytes ≡ o
          → option_map (λ (next : MachineState). record next { pc = m.pc + 1 }) (option_map (λ (frames : List (List (Option ℕ))). record m { frames = frames }) o) ≡ Some after → FewFrames after
      of_frames None is made = absurd (let bad : None ≡ Some after = made in cc)
      of_frames (Some frames) is made = made_few _ after (written_still 0 m.frames address bytes frames is few) made

  returned_few : (waiting : List OpenCall) → returned m waiting ≡ Some after → FewFrames after
  returned_few [] e = absurd (let bad : None ≡ Some after = e in cc)
  returned_few (call ∷ more) e = made_few _ after (fewer_few m.frames few) e

  -- a local call has a frame left
  entered_few : (distance : ℤ) (room : Bool) → has_frame_left m ≡ room → calls m (Local distance) ≡ Some after → FewFrames after
  entered_few distance true room e =
      made_few (entered m distance) after (more_few m.frames unwritten_frame (ltb-true (length m.frames) 8 room))
      (sym (cond-true (has_frame_left m) _ _ room) ∙ e)
  entered_few distance false room e = absurd (let bad : None ≡ Some after = sym (cond-false (has_frame_left m) _ _ room) ∙ e in cc)

  does_few : (insn : Insn) → does m insn ≡ Some after → FewFrames after
  does_few (Alu width op dst src) e = compute_few width op dst (first_operand m op dst) (operand m src) e
  does_few (InPlace op dst) e = mapped_few _ (register m dst) after (λ a. few) e
  does_few (SignExtend extension dst src) e = mapped_few _ (register m src) after (λ a. few) e
  does_few (JumpIf width condition dst src offset) e = jump_few width condition offset (register m dst) (operand m src) e
  does_few (Jump distance) e = made_few _ after few e
  does_few (LoadImmediate dst value) e = made_few _ after few e
  does_few (Load form dst src offset) e = mapped_few _ (option_and_then (word_from (load_width form) m) (address_of m src offset)) after (λ word. few) e
  does_few (Store size dst src offset) e = store_few size (address_of m dst offset) (operand m src) e
  does_few (Call (Helper number)) e = absurd (let bad : None ≡ Some after = e in cc)
  does_few (Call (Local distance)) e = entered_few distance (has_frame_left m) refl e
  does_few Exit e = returned_few m.open_calls e

  step_few : (o : Option Insn) → option_and_then (does m) o ≡ Some after → FewFrames after
  step_few None e = absurd (let bad : None ≡ Some after = e in cc)
  step_few (Some insn) e = does_few insn e

written_few : (frames : List (List (Option ℕ))) (written : Option Written) → length frames ≤ 8 → length (frames_after frames written) ≤ 8
written_few frames None few = few
written_few frames (Some written) few = of_frames (frames_with 0 frames written.address written.bytes) refl
  where
    of_frames : (o : Option (List (List (Option ℕ)))) → frames_with 0 frames written.address written.bytes ≡ o → length (unwrap_or o frames) ≤ 8
    of_frames None is = few
    of_frames (Some next) is = written_still 0 frames written.address written.bytes next is few

-- ---- what is held

with_few : (held : List ℕ) (freeze : ℕ) → length held < 8 → length (held_with held freeze) ≤ 8
with_few held freeze room =
    elim (cases_Bool (freeze == 0)) [
      | inl none ↦ subst (λ (hs : List ℕ). length hs ≤ 8) (sym (cond-true (freeze == 0) held (held ++ freeze ∷ []) none)) (omega (arith, room))
      | inr taken ↦
          subst (λ (hs : List ℕ). length hs ≤ 8) (sym (cond-false (freeze == 0) held (held ++ freeze ∷ []) taken))
          (omega (arith, room, length-append held (freeze ∷ [])))
    ]

without_few : (held : List ℕ) (freeze : ℕ) → length held ≤ 8 → length (held_without held freeze) ≤ 8
without_few held freeze few =
    omega (arith, few, length-filter (λ (number : ℕ). not (number == freeze)) held, count_by-le-length (λ (number : ℕ). not (number == freeze)) held)

-- ---- both

abbrev IsSmall : MachineState → Type 0
IsSmall m = (length m.held ≤ 8) × FewFrames m

-- a call by its rule: a helper by which a freeze is held wants room for it
changed_small : (change : Change) (row : Row) (arguments : Arguments) (answer : Answer) (m : MachineState) → Wants change row → meets_need m row.needs ≡ true → IsSmall m → IsSmall (changed_by change arguments answer (after_call m answer.r0))
changed_small changes.Nothing row arguments answer m wants need small = small
changed_small changes.Holds row arguments answer m wants need small =
    let room : meets_need m needs.Room ≡ true = subst (λ (n : Needs). meets_need m n ≡ true) wants.1 need in
    (with_few m.held answer.r0 (ltb-true (length m.held) 8 room), small.1)
changed_small changes.GivesUp row arguments answer m wants need small = (without_few m.held arguments.first small.0, small.1)
changed_small changes.Disposes row arguments answer m wants need small = small
changed_small (changes.Writes bytes) row arguments answer m wants need small = (small.0, written_few m.frames answer.written small.1)

answered_small : (limits : HelperLimits) (m : MachineState) (request : Request) (answer : Answer) → meets_rule limits m request ≡ true → IsSmall m → IsSmall (answered request answer m)
answered_small limits m request answer rule small =
    changed_small (row_of request.helper).machine (row_of request.helper) request.arguments answer m (wanted request.helper)
    (rule_parts limits m request rule).need small

-- the call of a machine that is not stuck is by its rule
rule_at : (program : List Slot) (limits : HelperLimits) (n : ℕ) (m : MachineState) (request : Request) → Safe program limits → Reached program n m → request_at program m ≡ Some request → meets_rule limits m request ≡ true
rule_at program limits n m request safe reached asks =
    elim (progress_lem program limits m (safe n m reached)) [
      | inl step ↦ absurd (let bad : None ≡ Some request = sym step.no_call ∙ asks in cc)
      | inr (inl call) ↦ subst (λ (r : Request). meets_rule limits m r ≡ true) (some_same call.request request (sym call.call ∙ asks)) call.rule
      | inr (inr exit) ↦ absurd (let bad : None ≡ Some request = sym exit.no_call ∙ asks in cc)
    ]

entry_small : (context : List ℕ) (freeze : ℕ) → IsSmall (entry context freeze)
entry_small context freeze =
    elim (cases_Bool (freeze == 0)) [
      | inl none ↦ (subst (λ (hs : List ℕ). length hs ≤ 8) (sym (cond-true (freeze == 0) [] (freeze ∷ []) none)) (omega arith), one_few unwritten_frame)
      | inr taken ↦ (subst (λ (hs : List ℕ). length hs ≤ 8) (sym (cond-false (freeze == 0) [] (freeze ∷ []) taken)) (omega arith), one_few unwritten_frame)
    ]

reached_small : (program : List Slot) (limits : HelperLimits) (n : ℕ) (m : MachineState) → Safe program limits → Reached program n m → IsSmall m
reached_small program limits zero m safe first = subst IsSmall (sym first.is) (entry_small first.context first.freeze)
reached_small program limits (suc n) m safe (before, reached, inl step) =
    let small = reached_small program limits n before safe reached in
    (subst (λ (hs : List ℕ). length hs ≤ 8) (sym (private_keeps program before m step).held) small.0, step_few before m small.1 (insn_at program before.pc) step)
reached_small program limits (suc n) m safe (before, reached, inr (request, answer, asks, allowed)) =
    subst IsSmall (sym allowed.1)
    (answered_small limits before request answer (rule_at program limits n before request safe reached asks) (reached_small program limits n before safe reached))

-- ---- in a world

-- each live run's machine
run_small : (setup : Setup) (world : World) (number : ℕ) (run : LiveRun) → IsLawful setup → IsSound setup world → run_of number world.runs.list ≡ Some run → IsSmall run.machine
run_small setup world number run lawful sound found =
    let reached = sound.reached number run found in
    let known = all_found run_key (λ (r : LiveRun). r.queue < queue_count setup) number world.runs.list run sound.kept.runs.queues found in
    let program = all_found run_key (λ (r : LiveRun). r.program ≡ (queue_setup setup r.queue).program) number world.runs.list run sound.kept.runs.programs found in
    let safe = (lawful_queue setup lawful run.queue known).safe in
    reached_small run.program setup.limits reached.0 run.machine (subst (λ (p : List Slot). Safe p setup.limits) (sym program) safe) reached.1

-- the entries of a run are as many as its machine holds, and there are none of a run that is not live
few_entries : (setup : Setup) (world : World) (number : ℕ) → IsLawful setup → IsSound setup world → length (entries_of number world.transport.freezes) ≤ 8
few_entries setup world number lawful sound = split (run_of number world.runs.list) refl
  where
    count : length (held_by number world.transport.freezes) ≡ length (entries_of number world.transport.freezes)
    count = length-map (entries_of number world.transport.freezes) (λ (freeze : Freeze). freeze.number)

    split : (o : Option LiveRun) → run_of number world.runs.list ≡ o → length (entries_of number world.transport.freezes) ≤ 8
    split None none =
        let nothing : length (held_by number world.transport.freezes) ≡ 0 = ap (λ (ns : List ℕ). length ns) (nothing_held setup world number (lists_of sound.kept) sound.held none) in
        omega (arith, nothing, count)
    split (Some run) found =
        let held : length run.machine.held ≡ length (held_by number world.transport.freezes) = ap (λ (ns : List ℕ). length ns) (sound.held.machines number run found) in
        omega (arith, (run_small setup world number run lawful sound found).0, held, count)

pub runs_keep_limits : RunsKeepLimits
runs_keep_limits setup lawful xs world run_is =
    let sound = run_sound setup xs world lawful run_is in
    record {
      held = λ number run found. (run_small setup world number run lawful sound found).0;
      entries = λ number. few_entries setup world number lawful sound;
      frames = λ number run found. (run_small setup world number run lawful sound found).1;
    }
