use Rattle.std.proofs.Common.{◌≡◌, ℕ, ◌+◌, ◌-◌, ◌<◌, ◌≤◌, List, [], ◌∷◌, ◌++◌, length, Option, Some, None, refl, ap, sym, subst, ◌∙◌, rules, arith, inl, inr}
use Rattle.std.proofs.lemmas.List.{get_or_default, set-get_or}
use Rattle.std.proofs.lemmas.Bool.{cases_lt}
use Rattle.std.proofs.lemmas.Result.{err_from_is_err_and}
use Rattle.bpf_insn.specs.declared.insn.Insn.{Insn}
use Rattle.bpf_insn.specs.declared.insn.Insn.TheVariants.{Call}
use Rattle.bpf_insn.specs.declared.insn.Callee.TheVariants.{Local}
use Rattle.bpf_insn.specs.Program.{insn_at}
use Rattle.call_shape.specs.Calls.{callee_in}
use Rattle.call_shape.specs.declared.lawful_shape.TheConstants.{MAX_WRITTEN_OUT}
use Rattle.call_shape.proofs.Contained.{callee_there}
use Rattle.check_description.specs.declared.description.Description.{Description}
use Rattle.check_description.specs.declared.saved.SavedRegisters.{SavedRegisters}
use Rattle.check_description.specs.Description.{NeverStuck}
use Rattle.reg_domain.specs.Enough.{IsEntryKnown}
use Rattle.reg_domain.specs.Ways.{Stays}
use Rattle.std.specs.Prelude.{IfOk, slice_set}
use Rattle.verifier.specs.Arrives.{AllArrive, IsNeverLacking}
use Rattle.verifier.specs.Function.{AreDone, ArePassed, HasChecked, IsEnd, IsOwn, checks_at, deep_under}
use Rattle.verifier.specs.Goes.{IsCallVisited, IsVisited}
use Rattle.verifier.specs.Table.{Table, described}
use Rattle.verifier.proofs.Checked.{stays_by}
use Rattle.verifier.proofs.Called.{HasComeBack, call_at, call_visited, came_back, entry_own, more_callers, none_came, room_to_enter}
use Rattle.verifier.proofs.Counts.{callee_count, checks_call, checks_one, room_for_one, total_next, within_whole}
use Rattle.verifier.proofs.Lacking.{first_arrives, never_calls}
use Rattle.verifier.proofs.Led.{if_ok}
use Rattle.verifier.proofs.OnItsWay.{chain_short}
use Rattle.verifier.proofs.Sound.{function_sound}
use Rattle.verifier.proofs.Told.{fails_so, if_err, on_ok}
use Rattle.verifier.proofs.Visited.{none_by, written_back}
use Rattle.verifier.proofs.Passed.{none_between, passed_none, passed_over}
use Rattle.verifier.proofs.Passing.{all_without, own_here, pass_call, pass_check, pass_exit, room_behind, taken_so}
use Rattle.verifier.proofs.pass.+functions.Goals as goal

pub call-enter-saved-requires : goal.call-enter-saved-requires
call-enter-saved-requires g t c =
    let room = room_to_enter c.args.program.now c.args.callers.now.items c.args.place c.args.callee c.args.known c.requires.lawful c.requires.own c.requires.calls in
    let depth : length c.deref_mut.result.now.stack ≡ length c.args.known.stack = ap (λ (d : Description). length d.stack) (c.deref_mut.ensures.value ∙ c.known.view_is) in
    omega (arith, room, c.requires.own.frames, depth)

pub call-returns-in_err-reserve-clause-unstuck : goal.call-returns-in_err-reserve-clause-unstuck
call-returns-in_err-reserve-clause-unstuck g t c = λ limits distance.
    subst (NeverStuck limits c.args.callers.now.items (Call (Local distance))) (c.deref_mut.ensures.value ∙ c.known.view_is) (c.enter-saved.ensures.unstuck limits c.args.callers.now.items distance)

pub call-visit_function-requires : goal.call-visit_function-requires
call-visit_function-requires g t c =
    let callers = c.args.callers.now.items in
    let saved = c.enter-saved.result in
    let pushed : c.push_reserved.new.self.items ≡ callers ++ saved ∷ [] = search rules in
    let count : length c.push_reserved.new.self.items ≡ length callers + 1 = ap length pushed ∙ more_callers callers saved in
    let room = room_to_enter c.args.program.now callers c.args.place c.args.callee c.args.known c.requires.lawful c.requires.own c.requires.calls in
    let own = entry_own c.args.program.now callers saved c.args.place c.args.callee c.args.known c.enter-saved.new.description c.requires.lawful c.requires.own c.requires.calls
    (subst (λ (d : Description). length c.enter-saved.new.description.stack ≡ length d.stack + 1) (c.deref_mut.ensures.value ∙ c.known.view_is) c.enter-saved.ensures.depth) in
    let few = callee_count callers c.push_reserved.new.self.items c.args.program.now c.args.callee count in λ κs outlives. (
      omega (arith, c.decreases, count, room),
      (
        outlives,
        (
          c.requires.lawful,
          (
            subst (λ (cs : List SavedRegisters). IsOwn c.args.program.now cs c.args.callee c.args.callee c.enter-saved.new.description) (sym pushed) own,
            omega (arith, few, c.requires.few),
          ),
        ),
      ),
    )

pub call-returns-in_err-left-clause-unstuck : goal.call-returns-in_err-left-clause-unstuck
call-returns-in_err-left-clause-unstuck g t c = λ limits distance.
    subst (NeverStuck limits c.args.callers.now.items (Call (Local distance))) (c.deref_mut.ensures.value ∙ c.known.view_is) (c.enter-saved.ensures.unstuck limits c.args.callers.now.items distance)

pub call-returns-clause-unstuck : goal.call-returns-clause-unstuck
call-returns-clause-unstuck g t c = λ limits distance.
    subst (NeverStuck limits c.args.callers.now.items (Call (Local distance))) (c.deref_mut.ensures.value ∙ c.known.view_is) (c.enter-saved.ensures.unstuck limits c.args.callers.now.items distance)

pub call-returns-clause-sound : goal.call-returns-clause-sound
call-returns-clause-sound g t c =
    let callers = c.args.callers.now.items in
    let saved = c.enter-saved.result in
    let pushed : c.push_reserved.new.self.items ≡ callers ++ saved ∷ [] = search rules in
    let visited : IsVisited c.args.limits.now c.args.program.now (callers ++ saved ∷ []) c.enter-saved.new.description c.args.callee c.in_ok-left.left c.args.visits.now c.visit_function.new.visits =
    subst (λ (cs : List SavedRegisters). IsVisited c.args.limits.now c.args.program.now cs c.enter-saved.new.description c.args.callee c.in_ok-left.left c.args.visits.now c.visit_function.new.visits) pushed c.in_ok-left.ensures.sound in
    subst (λ (d : Description). IsCallVisited c.args.limits.now c.args.program.now callers d c.args.place c.args.callee c.in_ok-left.left c.args.visits.now c.visit_function.new.visits) (c.deref_mut.ensures.value ∙ c.known.view_is)
    (call_visited c.args.limits.now c.args.program.now callers saved c.deref_mut.result.now c.enter-saved.new.description c.args.place c.args.callee c.in_ok-left.left c.args.visits.now c.visit_function.new.visits c.enter-saved.ensures.enters
    (call_at c.args.program.now c.args.place c.args.callee c.requires.own.begun c.requires.calls) visited)

pub visit-returns-in_default-clause-done : goal.visit-returns-in_default-clause-done
visit-returns-in_default-clause-done g t c =
    let none : insn_at c.args.program.now (c.args.start + c.args.at) ≡ None = sym c.in_default.ensures.value in
    λ entry first are.
    passed_over c.args.limits.now c.args.program.now c.args.callers.now.items entry c.args.start c.args.table.now c.args.left.now c.args.at first c.args.visits.now
    (none_between c.args.limits.now c.args.program.now c.args.callers.now.items entry c.args.start c.args.table.now c.args.left.now c.args.at first c.args.visits.now none are) are

pub visit-returns-in_default-clause-counted : goal.visit-returns-in_default-clause-counted
visit-returns-in_default-clause-counted g t c = λ d there.
    let none : insn_at c.args.program.now (c.args.start + c.args.at) ≡ None = sym c.in_default.ensures.value in
    let nothing = none_between c.args.limits.now c.args.program.now c.args.callers.now.items c.requires.before.0 c.args.start c.args.table.now c.args.left.now c.args.at c.requires.before.1 c.args.visits.now none c.requires.before.2 in
    absurd (let bad : None ≡ Some d = sym nothing ∙ there in cc)

pub visit-returns-in_default-take-clause-done : goal.visit-returns-in_default-take-clause-done
visit-returns-in_default-take-clause-done g t c =
    let unknown : described c.args.table.now c.args.at ≡ None = get_or_default c.args.table.now c.args.at None c.index-table-at.result c.requires.at ∙ (sym c.take.ensures.value ∙ none_by c.take.result c.in_default-take.not-Some) in
    let same : slice_set c.args.table.now c.args.at c.take.new.self ≡ c.args.table.now =
    ap (slice_set c.args.table.now c.args.at) (c.take.ensures.after ∙ sym unknown) ∙ set-get_or c.args.table.now c.args.at None in
    λ entry first are.
    subst (λ (table : Table). ArePassed c.args.limits.now c.args.program.now c.args.callers.now.items entry c.args.start table c.args.left.now (c.args.at + 1) first c.args.visits.now) (sym same)
    (passed_over c.args.limits.now c.args.program.now c.args.callers.now.items entry c.args.start c.args.table.now c.args.left.now c.args.at first c.args.visits.now unknown are)

pub visit-make-check-requires : goal.visit-make-check-requires
visit-make-check-requires g t c =
    let there : described c.args.table.now c.args.at ≡ Some c.in-Some-take.known = get_or_default c.args.table.now c.args.at None c.index-table-at.result c.requires.at ∙ (sym c.take.ensures.value ∙ c.in-Some-take.is) in
    let own = own_here c.args.limits.now c.args.program.now c.args.callers.now.items c.requires.before.0 c.args.start c.args.table.now c.args.left.now c.args.at c.requires.before.1 c.args.visits.now c.requires.before.2 c.in-Some-take.known there in
    let checks = checks_one (deep_under c.args.callers.now.items) c.args.program.now c.args.start (c.args.start + c.args.at) c.in-Some.insn own.within (sym c.in-Some.ensures.value) in
    omega (arith, checks, c.requires.few)

pub visit-call-requires : goal.visit-call-requires
visit-call-requires g t c =
    let program = c.args.program.now in
    let callers = c.args.callers.now.items in
    let place = c.args.start + c.args.at in
    let here : insn_at program place ≡ Some c.in-Some.insn = sym c.in-Some.ensures.value in
    let leads : callee_in place c.in-Some.insn ≡ Some c.in-Some-callee_of.target = sym c.in-Some-callee_of.ensures in
    let there : described c.args.table.now c.args.at ≡ Some c.in-Some-take.known = get_or_default c.args.table.now c.args.at None c.index-table-at.result c.requires.at ∙ (sym c.take.ensures.value ∙ c.in-Some-take.is) in
    let own = own_here c.args.limits.now c.args.program.now c.args.callers.now.items c.requires.before.0 c.args.start c.args.table.now c.args.left.now c.args.at c.requires.before.1 c.args.visits.now c.requires.before.2 c.in-Some-take.known there in
    let checks = checks_call (deep_under callers) program c.args.start place c.in-Some.insn c.in-Some-callee_of.target own.within here leads in λ κs outlives. (
      omega (arith, c.decreases),
      (
        outlives,
        (
          c.requires.lawful,
          (
            subst (λ (k : ℕ). IsOwn program callers k place c.in-Some-take.known) (sym own.within) own,
            (callee_there program place c.in-Some-callee_of.target c.in-Some.insn here leads, omega (arith, checks, c.requires.few)),
          ),
        ),
      ),
    )

pub visit-returns-in_err-back-clause-fails : goal.visit-returns-in_err-back-clause-fails
visit-returns-in_err-back-clause-fails g t c =
    let there : described c.args.table.now c.args.at ≡ Some c.in-Some-take.known = get_or_default c.args.table.now c.args.at None c.index-table-at.result c.requires.at ∙ (sym c.take.ensures.value ∙ c.in-Some-take.is) in
    let p = err_from_is_err_and c.from_residual.result c.from_residual.ensures.1 in
    rw (p.1, p.2) (fails_so ⊥ (IsNeverLacking c.args.program.now c.args.callers.now.items c.args.start × AllArrive c.args.program.now c.args.table.now) c.in_err-back.field-0.0 c.in_err-back.ensures.fails
    (λ never. never_calls c.args.program.now c.args.callers.now.items c.args.start c.args.table.now c.args.at c.in-Some.insn c.in-Some-callee_of.target c.in-Some-take.known never.0 never.1
    (sym c.in-Some.ensures.value) (sym c.in-Some-callee_of.ensures) there))

pub visit-arrive-requires : goal.visit-arrive-requires
visit-arrive-requires g t c =
    let room = room_behind c.args.limits.now c.args.program.now c.args.callers.now.items c.requires.before.0 c.args.start c.args.table.now c.args.left.now c.args.at c.requires.before.1 c.args.visits.now c.requires.before.2 c.in-Some.insn c.in-Some-callee_of.target c.take.new.self c.requires.at (sym c.in-Some.ensures.value) (sym c.in-Some-callee_of.ensures) in
    omega (arith, room)

pub visit-returns-in-Some-back-clause-done : goal.visit-returns-in-Some-back-clause-done
visit-returns-in-Some-back-clause-done g t c =
    let there : described c.args.table.now c.args.at ≡ Some c.in-Some-take.known = get_or_default c.args.table.now c.args.at None c.index-table-at.result c.requires.at ∙ (sym c.take.ensures.value ∙ c.in-Some-take.is) in
    let emptied = slice_set c.args.table.now c.args.at c.take.new.self in
    let one : c.make-check.new.visits ≡ c.args.visits.now + 1 = c.make-check.ensures.counted in
    let inside = subst (λ (n : ℕ). IsCallVisited c.args.limits.now c.args.program.now c.args.callers.now.items c.in-Some-take.known (c.args.start + c.args.at) c.in-Some-callee_of.target c.in_ok-back.back n c.call.new.visits) one c.in_ok-back.ensures.sound in
    if_ok c.arrive.result
    (λ joined entry first are.
    pass_call c.args.limits.now c.args.program.now c.args.callers.now.items entry c.args.start c.args.table.now c.args.left.now c.args.at first c.args.visits.now are
    c.call.new.visits c.in-Some.insn c.in-Some-callee_of.target c.in-Some-take.known c.in_ok-back.back emptied c.arrive.new.table
    c.requires.lawful (sym c.in-Some.ensures.value) (sym c.in-Some-callee_of.ensures) there
    (taken_so c.args.limits.now c.args.program.now c.args.callers.now.items entry c.args.start c.args.table.now c.args.left.now c.args.at first c.args.visits.now are c.requires.at c.take.new.self c.take.ensures.after)
    c.call.ensures.unstuck inside c.in_ok-back.ensures.frames
    (subst (λ (o : Option Description). HasComeBack emptied (c.args.at + 1) o c.arrive.new.table) (sym c.in-Some-back.is) (came_back emptied (c.args.at + 1) c.in-Some-back.back c.arrive.new.table c.arrive.ensures.whole joined)))
    c.arrive.ensures.joined

pub visit-returns-in-Some-back-clause-visits : goal.visit-returns-in-Some-back-clause-visits
visit-returns-in-Some-back-clause-visits g t c =
    let program = c.args.program.now in
    let callers = c.args.callers.now.items in
    let there : described c.args.table.now c.args.at ≡ Some c.in-Some-take.known = get_or_default c.args.table.now c.args.at None c.index-table-at.result c.requires.at ∙ (sym c.take.ensures.value ∙ c.in-Some-take.is) in
    let own = own_here c.args.limits.now c.args.program.now c.args.callers.now.items c.requires.before.0 c.args.start c.args.table.now c.args.left.now c.args.at c.requires.before.1 c.args.visits.now c.requires.before.2 c.in-Some-take.known there in
    let checks = checks_call (deep_under callers) program c.args.start (c.args.start + c.args.at) c.in-Some.insn c.in-Some-callee_of.target own.within (sym c.in-Some.ensures.value) (sym c.in-Some-callee_of.ensures) in
    on_ok c.arrive.result (omega (arith, checks, c.in_ok-back.ensures.visits, c.make-check.ensures.counted))

pub visit-returns-in-Some-back-clause-arrives : goal.visit-returns-in-Some-back-clause-arrives
visit-returns-in-Some-back-clause-arrives g t c =
    let there : described c.args.table.now c.args.at ≡ Some c.in-Some-take.known = get_or_default c.args.table.now c.args.at None c.index-table-at.result c.requires.at ∙ (sym c.take.ensures.value ∙ c.in-Some-take.is) in
    if_ok c.arrive.result
    (λ joined never all. absurd (never_calls c.args.program.now c.args.callers.now.items c.args.start c.args.table.now c.args.at c.in-Some.insn c.in-Some-callee_of.target c.in-Some-take.known never all
    (sym c.in-Some.ensures.value) (sym c.in-Some-callee_of.ensures) there))
    c.arrive.ensures.joined

pub visit-returns-in-Some-back-clause-fails : goal.visit-returns-in-Some-back-clause-fails
visit-returns-in-Some-back-clause-fails g t c =
    let there : described c.args.table.now c.args.at ≡ Some c.in-Some-take.known = get_or_default c.args.table.now c.args.at None c.index-table-at.result c.requires.at ∙ (sym c.take.ensures.value ∙ c.in-Some-take.is) in
    if_err ⊥ (IsNeverLacking c.args.program.now c.args.callers.now.items c.args.start × AllArrive c.args.program.now c.args.table.now) c.arrive.result
    (λ never. never_calls c.args.program.now c.args.callers.now.items c.args.start c.args.table.now c.args.at c.in-Some.insn c.in-Some-callee_of.target c.in-Some-take.known never.0 never.1
    (sym c.in-Some.ensures.value) (sym c.in-Some-callee_of.ensures) there)
    c.arrive.ensures.fails

pub visit-returns-in-None-clause-done : goal.visit-returns-in-None-clause-done
visit-returns-in-None-clause-done g t c =
    let there : described c.args.table.now c.args.at ≡ Some c.in-Some-take.known = get_or_default c.args.table.now c.args.at None c.index-table-at.result c.requires.at ∙ (sym c.take.ensures.value ∙ c.in-Some-take.is) in
    let emptied = slice_set c.args.table.now c.args.at c.take.new.self in
    let one : c.make-check.new.visits ≡ c.args.visits.now + 1 = c.make-check.ensures.counted in
    let inside = subst (λ (n : ℕ). IsCallVisited c.args.limits.now c.args.program.now c.args.callers.now.items c.in-Some-take.known (c.args.start + c.args.at) c.in-Some-callee_of.target c.in_ok-back.back n c.call.new.visits) one c.in_ok-back.ensures.sound in
    λ entry first are.
    pass_call c.args.limits.now c.args.program.now c.args.callers.now.items entry c.args.start c.args.table.now c.args.left.now c.args.at first c.args.visits.now are
    c.call.new.visits c.in-Some.insn c.in-Some-callee_of.target c.in-Some-take.known c.in_ok-back.back emptied emptied
    c.requires.lawful (sym c.in-Some.ensures.value) (sym c.in-Some-callee_of.ensures) there
    (taken_so c.args.limits.now c.args.program.now c.args.callers.now.items entry c.args.start c.args.table.now c.args.left.now c.args.at first c.args.visits.now are c.requires.at c.take.new.self c.take.ensures.after)
    c.call.ensures.unstuck inside c.in_ok-back.ensures.frames
    (subst (λ (o : Option Description). HasComeBack emptied (c.args.at + 1) o emptied) (sym c.in-None.is) (none_came emptied (c.args.at + 1)))

pub visit-returns-in-None-clause-visits : goal.visit-returns-in-None-clause-visits
visit-returns-in-None-clause-visits g t c =
    let program = c.args.program.now in
    let callers = c.args.callers.now.items in
    let there : described c.args.table.now c.args.at ≡ Some c.in-Some-take.known = get_or_default c.args.table.now c.args.at None c.index-table-at.result c.requires.at ∙ (sym c.take.ensures.value ∙ c.in-Some-take.is) in
    let own = own_here c.args.limits.now c.args.program.now c.args.callers.now.items c.requires.before.0 c.args.start c.args.table.now c.args.left.now c.args.at c.requires.before.1 c.args.visits.now c.requires.before.2 c.in-Some-take.known there in
    let checks = checks_call (deep_under callers) program c.args.start (c.args.start + c.args.at) c.in-Some.insn c.in-Some-callee_of.target own.within (sym c.in-Some.ensures.value) (sym c.in-Some-callee_of.ensures) in
    omega (arith, checks, c.in_ok-back.ensures.visits, c.make-check.ensures.counted)

pub visit-returns-in-Some-returning-clause-done : goal.visit-returns-in-Some-returning-clause-done
visit-returns-in-Some-returning-clause-done g t c =
    let callers = c.args.callers.now.items in
    let there : described c.args.table.now c.args.at ≡ Some c.in-Some-take.known = get_or_default c.args.table.now c.args.at None c.index-table-at.result c.requires.at ∙ (sym c.take.ensures.value ∙ c.in-Some-take.is) in
    let exit = c.in-Some-returning.ensures.some in
    let waits : callers ≡ exit.1 ++ c.in-Some-returning.saved ∷ [] = sym c.deref-2.ensures.value ∙ exit.2 in
    if_ok c.leave.result
    (λ has entry first are.
    pass_exit c.args.limits.now c.args.program.now c.args.callers.now.items entry c.args.start c.args.table.now c.args.left.now c.args.at first c.args.visits.now are
    c.make-check.new.visits c.in-Some.insn exit.1 c.in-Some-returning.saved c.in-Some-take.known (slice_set c.args.table.now c.args.at c.take.new.self) c.leave.new.left
    (sym c.in-Some.ensures.value) exit.0 waits there
    (taken_so c.args.limits.now c.args.program.now c.args.callers.now.items entry c.args.start c.args.table.now c.args.left.now c.args.at first c.args.visits.now are c.requires.at c.take.new.self c.take.ensures.after)
    c.leave.ensures.unstuck has c.make-check.ensures.counted)
    c.leave.ensures.left

pub visit-returns-in-Some-returning-clause-visits : goal.visit-returns-in-Some-returning-clause-visits
visit-returns-in-Some-returning-clause-visits g t c =
    let there : described c.args.table.now c.args.at ≡ Some c.in-Some-take.known = get_or_default c.args.table.now c.args.at None c.index-table-at.result c.requires.at ∙ (sym c.take.ensures.value ∙ c.in-Some-take.is) in
    let own = own_here c.args.limits.now c.args.program.now c.args.callers.now.items c.requires.before.0 c.args.start c.args.table.now c.args.left.now c.args.at c.requires.before.1 c.args.visits.now c.requires.before.2 c.in-Some-take.known there in
    let checks = checks_one (deep_under c.args.callers.now.items) c.args.program.now c.args.start (c.args.start + c.args.at) c.in-Some.insn own.within (sym c.in-Some.ensures.value) in
    on_ok c.leave.result (omega (arith, checks, c.make-check.ensures.counted))

pub visit-returns-clause-done : goal.visit-returns-clause-done
visit-returns-clause-done g t c =
    let limits = c.args.limits.now in
    let callers = c.args.callers.now.items in
    let place = c.args.start + c.args.at in
    let emptied = slice_set c.args.table.now c.args.at c.take.new.self in
    let there : described c.args.table.now c.args.at ≡ Some c.in-Some-take.known = get_or_default c.args.table.now c.args.at None c.index-table-at.result c.requires.at ∙ (sym c.take.ensures.value ∙ c.in-Some-take.is) in
    let stays : Stays callers c.in-Some.insn = stays_by callers place c.in-Some.insn (λ callee leads. c.in_default-callee_of.not-Some callee (c.callee_of.ensures ∙ leads)) (λ exit. sym c.deref-2.ensures.value ∙ c.in_default-returning.ensures.none exit) in
    let checked = subst (λ (cs : List SavedRegisters). IfOk c.check_ways.result (λ _. HasChecked limits cs c.args.start c.in-Some-take.known emptied c.args.at c.in-Some.insn c.check_ways.new.table)) c.deref-3.ensures.value
    (subst (λ (insn : Insn). IfOk c.check_ways.result (λ _. HasChecked limits c.deref-3.result.now c.args.start c.in-Some-take.known emptied c.args.at insn c.check_ways.new.table)) c.make-check.ensures.of.1 c.check_ways.ensures.checked) in
    if_ok c.check_ways.result
    (λ done entry first are.
    pass_check c.args.limits.now c.args.program.now c.args.callers.now.items entry c.args.start c.args.table.now c.args.left.now c.args.at first c.args.visits.now are
    c.make-check.new.visits c.in-Some.insn c.in-Some-take.known emptied c.check_ways.new.table
    c.requires.lawful (sym c.in-Some.ensures.value) stays there
    (taken_so c.args.limits.now c.args.program.now c.args.callers.now.items entry c.args.start c.args.table.now c.args.left.now c.args.at first c.args.visits.now are c.requires.at c.take.new.self c.take.ensures.after)
    c.check_ways.ensures.whole done c.make-check.ensures.counted)
    checked

pub visit-returns-clause-visits : goal.visit-returns-clause-visits
visit-returns-clause-visits g t c =
    let there : described c.args.table.now c.args.at ≡ Some c.in-Some-take.known = get_or_default c.args.table.now c.args.at None c.index-table-at.result c.requires.at ∙ (sym c.take.ensures.value ∙ c.in-Some-take.is) in
    let own = own_here c.args.limits.now c.args.program.now c.args.callers.now.items c.requires.before.0 c.args.start c.args.table.now c.args.left.now c.args.at c.requires.before.1 c.args.visits.now c.requires.before.2 c.in-Some-take.known there in
    let checks = checks_one (deep_under c.args.callers.now.items) c.args.program.now c.args.start (c.args.start + c.args.at) c.in-Some.insn own.within (sym c.in-Some.ensures.value) in
    on_ok c.check_ways.result (omega (arith, checks, c.make-check.ensures.counted))

pub visit-returns-clause-arrives : goal.visit-returns-clause-arrives
visit-returns-clause-arrives g t c =
    let there : described c.args.table.now c.args.at ≡ Some c.in-Some-take.known = get_or_default c.args.table.now c.args.at None c.index-table-at.result c.requires.at ∙ (sym c.take.ensures.value ∙ c.in-Some-take.is) in
    if_ok c.check_ways.result
    (λ arrives never all. arrives never.first never.lacks_not (all_without c.args.program.now c.args.table.now c.args.at c.take.new.self c.take.ensures.after c.requires.at all) (all c.args.at c.in-Some-take.known there))
    c.check_ways.ensures.arrives

pub visit_function-loop-at-init : goal.visit_function-loop-at-init
visit_function-loop-at-init g t c =
    let limits = c.args.limits.now in
    let program = c.args.program.now in
    let callers = c.args.callers.now.items in
    let len = c.end_of.result - c.args.start in
    let end : IsEnd program c.args.start (c.args.start + len) = subst (IsEnd program c.args.start) (let e : c.end_of.result ≡ c.args.start + len = omega (arith, c.end_of.ensures.some) in e) c.end_of.ensures in
    let first = c.in_ok-table.ensures in
    record {
      whole = first.whole;
      done = passed_none limits program callers c.args.start len c.args.entry c.in_ok-table.table.items end c.requires.own first c.args.visits.now;
      callers = refl;
      visits = omega arith;
      more = omega arith;
      first = λ none. first.there;
      counted = λ none. absurd (omega (arith, none));
      arrives = λ never known. first_arrives program len c.args.entry c.in_ok-table.table.items first known;
    }

pub visit_function-visit-requires : goal.visit_function-visit-requires
visit_function-visit-requires g t c =
    let limits = c.args.limits.now in
    let program = c.args.program.now in
    let callers = c.args.callers.now.items in
    let now = c.loop-at.callers.items in
    let inv = c.loop-at.invariant in
    let short = chain_short program (length callers) c.args.start c.requires.lawful c.requires.own.begun c.requires.own.chain in
    let before = subst (λ (table : Table). ArePassed limits program callers c.args.entry c.args.start table c.loop-at.left c.loop-at.at c.args.visits.now c.loop-at.visits) (sym c.deref_mut.ensures.value) inv.done in
    let inside : c.args.start + c.loop-at.at < length program = omega (arith, c.loop-at-test.true, c.end_of.ensures.inside) in
    let room = room_for_one callers program c.args.start (c.args.start + c.loop-at.at) c.args.visits.now c.loop-at.visits MAX_WRITTEN_OUT short inside inv.visits c.requires.few in λ κs outlives. (
      omega (arith, c.decreases, ap length inv.callers),
      (
        outlives,
        (
          c.requires.lawful,
          (
            omega (arith, c.loop-at-test.true, inv.whole, ap length c.deref_mut.ensures.value),
            (
              (c.args.entry, c.args.visits.now, subst (λ (cs : List SavedRegisters). ArePassed limits program cs c.args.entry c.args.start c.deref_mut.result.now c.loop-at.left c.loop-at.at c.args.visits.now c.loop-at.visits) (sym inv.callers) before),
              subst (λ (cs : List SavedRegisters). c.loop-at.visits + checks_at (deep_under cs) program c.args.start (c.args.start + c.loop-at.at) ≤ MAX_WRITTEN_OUT) (sym inv.callers) room,
            ),
          ),
        ),
      ),
    )

pub visit_function-returns-in_err-visit-clause-fails : goal.visit_function-returns-in_err-visit-clause-fails
visit_function-returns-in_err-visit-clause-fails g t c =
    let program = c.args.program.now in
    let inv = c.loop-at.invariant in
    let p = err_from_is_err_and c.from_residual-in_err-visit.result c.from_residual-in_err-visit.ensures.1 in
    rw (p.1, p.2) (fails_so (IsNeverLacking program c.loop-at.callers.items c.args.start × AllArrive program c.deref_mut.result.now) (IsNeverLacking program c.args.callers.now.items c.args.start × IsEntryKnown c.args.entry)
    c.in_err-visit.field-0.0 c.in_err-visit.ensures.fails
    (λ never. (subst (λ (cs : List SavedRegisters). IsNeverLacking program cs c.args.start) (sym inv.callers) never.0, subst (AllArrive program) (sym c.deref_mut.ensures.value) (inv.arrives never.0 never.1))))

pub visit_function-loop-at-preserved : goal.visit_function-loop-at-preserved
visit_function-loop-at-preserved g t c =
    let limits = c.args.limits.now in
    let program = c.args.program.now in
    let callers = c.args.callers.now.items in
    let inv = c.loop-at.invariant in
    let after = c.in_ok-visit.ensures in
    let value : ℕ → ℕ = checks_at (deep_under callers) program c.args.start in
    let visits : c.visit.new.visits ≤ c.loop-at.visits + value (c.args.start + c.loop-at.at) =
    subst (λ (cs : List SavedRegisters). c.visit.new.visits ≤ c.loop-at.visits + checks_at (deep_under cs) program c.args.start (c.args.start + c.loop-at.at)) inv.callers after.visits in
    let counted : c.args.visits.now < c.visit.new.visits = elim (cases_lt 0 c.loop-at.at) [
      | inl lt ↦ omega (arith, inv.counted lt, after.more)
      | inr none ↦
          let zero_at : c.loop-at.at ≡ 0 = omega (arith, none) in
          let there : described c.deref_mut.result.now c.loop-at.at ≡ Some c.args.entry =
          subst (λ (table : Table). described table c.loop-at.at ≡ Some c.args.entry) (sym c.deref_mut.ensures.value) (ap (described c.loop-at.table.items) zero_at ∙ inv.first zero_at) in
          omega (arith, inv.more, after.counted c.args.entry there)
    ] in
    let was = subst (λ (cs : List SavedRegisters). ArePassed limits program cs c.args.entry c.args.start c.deref_mut.result.now c.loop-at.left c.loop-at.at c.args.visits.now c.loop-at.visits) (sym inv.callers)
    (subst (λ (table : Table). ArePassed limits program callers c.args.entry c.args.start table c.loop-at.left c.loop-at.at c.args.visits.now c.loop-at.visits) (sym c.deref_mut.ensures.value) inv.done) in
    let whole : c.loop-at.table.len ≡ length c.visit.new.table = search (rules, after.whole, c.deref_mut.ensures.value) in
    rw (written_back c.visit.new.table _ c.loop-at.table.len whole) (record {
      whole = after.whole ∙ (ap length c.deref_mut.ensures.value ∙ inv.whole);
      done = subst (λ (cs : List SavedRegisters). ArePassed limits program cs c.args.entry c.args.start c.visit.new.table c.visit.new.left (c.loop-at.at + 1) c.args.visits.now c.visit.new.visits) inv.callers (after.done c.args.entry c.args.visits.now was);
      callers = after.callers ∙ inv.callers;
      visits = omega (arith, visits, inv.visits, total_next value c.args.start c.loop-at.at);
      more = omega (arith, after.more, inv.more);
      first = λ none. absurd (omega (arith, none));
      counted = λ some. counted;
      arrives = λ never known. after.arrives (subst (λ (cs : List SavedRegisters). IsNeverLacking program cs c.args.start) (sym inv.callers) never)
          (subst (AllArrive program) (sym c.deref_mut.ensures.value) (inv.arrives never known));
    })

pub visit_function-returns-clause-sound : goal.visit_function-returns-clause-sound
visit_function-returns-clause-sound g t c =
    let limits = c.args.limits.now in
    let program = c.args.program.now in
    let callers = c.args.callers.now.items in
    let inv = c.loop-at.invariant in
    let passed = inv.done in
    let at : c.loop-at.at ≡ length passed.all = omega (arith, c.loop-at-test.false, c.loop-at.auto.at-end, inv.whole, passed.whole) in
    let are = passed.visited in
    record {
      checks = are.checks;
      made = are.made;
      once = are.once;
      on_paths = are.on_paths;
      sound = function_sound limits program callers c.args.entry c.args.start passed.all c.loop-at.left are.checks
          (subst (AreDone limits program callers c.args.start passed.all c.loop-at.left are.checks) at are.done) passed.entered;
    }

pub visit_function-returns-clause-visits : goal.visit_function-returns-clause-visits
visit_function-returns-clause-visits g t c =
    let program = c.args.program.now in
    let callers = c.args.callers.now.items in
    let short = chain_short program (length callers) c.args.start c.requires.lawful c.requires.own.begun c.requires.own.chain in
    let inside : c.args.start + c.loop-at.at ≤ length program = omega (arith, c.loop-at.auto.at-end, c.end_of.ensures.inside, c.end_of.ensures.some) in
    within_whole callers program c.args.start (c.args.start + c.loop-at.at) c.args.visits.now c.loop-at.visits short inside c.loop-at.invariant.visits
