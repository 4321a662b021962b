use Rattle.std.proofs.Common.{◌≡◌, ℕ, ◌-◌, List, [], Option, length, refl, ap, sym, subst, ◌∙◌, arith}
use Rattle.bpf_insn.specs.declared.program.Slot.{Slot}
use Rattle.bpf_insn.specs.Program.{IsProgram}
use Rattle.bpf_semantics.specs.Reached.{Safe}
use Rattle.call_shape.specs.Shape.{IsLawful}
use Rattle.call_shape.specs.StaticPath.{starts}
use Rattle.call_shape.specs.WrittenOut.{written_out}
use Rattle.call_shape.proofs.Places.{begins_first}
use Rattle.call_shape.proofs.WrittenFew.{within_count}
use Rattle.helpers.specs.declared.limits.HelperLimits.{HelperLimits}
use Rattle.check_description.specs.declared.description.Description.{Description}
use Rattle.check_description.specs.Description.{DescribesEntries}
use Rattle.check_description.specs.declared.saved.SavedRegisters.{SavedRegisters}
use Rattle.verifier.specs.Checks.{AreChecks}
use Rattle.verifier.specs.Function.{IsOwn}
use Rattle.verifier.specs.Goes.{IsVisited}
use Rattle.verifier.proofs.OnItsWay.{chain_first}
use Rattle.verifier.proofs.Sound.{outermost_checked, outermost_safe}
use Rattle.verifier.proofs.pass.pass.Goals as goal

visited_outermost : (limits : HelperLimits) (program : List Slot) (entry : Description) (left : Option Description) (before after : ℕ) (callers : List SavedRegisters) → callers ≡ [] → IsVisited limits program callers entry 0 left before after → IsVisited limits program [] entry 0 left before after
visited_outermost limits program entry left before after callers none = subst (λ (cs : List SavedRegisters). IsVisited limits program cs entry 0 left before after) none

pub visit_function-requires-clause-own : goal.visit_function-requires-clause-own
visit_function-requires-clause-own g c =
    let program = c.program-program.result.now in
    let is : IsProgram program = subst IsProgram (sym c.program-program.ensures.value) c.program-program.ensures.program in
    let own : IsOwn program [] 0 0 c.in_ok-entry.entry = record {
      begun = begins_first program is;
      within = refl;
      frames = ap (λ (d : Description). length d.stack) c.in_ok-entry.ensures ∙ c.entry.ensures.known.depth;
      chain = chain_first program;
      leads = starts;
    } in
    subst (λ (cs : List SavedRegisters). IsOwn program cs 0 0 c.in_ok-entry.entry) (sym c.new-callers.ensures.items) own

pub visit_function-requires-clause-few : goal.visit_function-requires-clause-few
visit_function-requires-clause-few g c =
    let program = c.program-program.result.now in
    let lawful : IsLawful program = subst IsLawful (sym c.program-program.ensures.value) c.program-program.ensures.lawful in
    let deep = ap (λ (cs : List SavedRegisters). written_out (8 - length cs) program 0) c.new-callers.ensures.items in
    omega (arith, deep, within_count 8 program 0 lawful.count lawful.written_out, lawful.short)

pub returns-clause-safe : goal.returns-clause-safe
returns-clause-safe g c =
    let program = c.program-program.result.now in
    let limits = c.args.limits.now in
    let left = c.in_ok-visit_function.field-0 in
    let visited = visited_outermost limits program c.in_ok-entry.entry left 0 c.visit_function.new.visits c.new-callers.result.items c.new-callers.ensures.items c.in_ok-visit_function.ensures.sound in
    subst (λ (p : List Slot). Safe p limits) c.program-program.ensures.value (outermost_safe limits program c.in_ok-entry.entry left visited.checks (subst DescribesEntries (sym c.in_ok-entry.ensures) c.entry.ensures.entries) visited.sound)

pub returns-clause-visits : goal.returns-clause-visits
returns-clause-visits g c =
    let program = c.program-program.result.now in
    let limits = c.args.limits.now in
    let left = c.in_ok-visit_function.field-0 in
    let visited = visited_outermost limits program c.in_ok-entry.entry left 0 c.visit_function.new.visits c.new-callers.result.items c.new-callers.ensures.items c.in_ok-visit_function.ensures.sound in
    let deep = ap (λ (cs : List SavedRegisters). written_out (8 - length cs) program 0) c.new-callers.ensures.items in
    let same = ap (λ (p : List Slot). written_out 8 p 0) c.program-program.ensures.value in
    record {
      checks = visited.checks;
      are = subst (λ (p : List Slot). AreChecks p c.visit_function.new.visits visited.checks) c.program-program.ensures.value (record {
        once = visited.once;
        number = omega (arith, visited.made);
        on_paths = visited.on_paths;
        reached = outermost_checked limits program c.in_ok-entry.entry left visited.checks (subst DescribesEntries (sym c.in_ok-entry.ensures) c.entry.ensures.entries) visited.sound;
      });
      some = omega (arith, c.in_ok-visit_function.ensures.counted);
      few = λ count is. omega (arith, deep, same, c.in_ok-visit_function.ensures.visits, within_count 8 c.args.shape.now 0 count is);
    }

pub returns-clause-short : goal.returns-clause-short
returns-clause-short g c =
    let program = c.program-program.result.now in
    let lawful : IsLawful program = subst IsLawful (sym c.program-program.ensures.value) c.program-program.ensures.lawful in
    let deep = ap (λ (cs : List SavedRegisters). written_out (8 - length cs) program 0) c.new-callers.ensures.items in
    omega (arith, deep, c.in_ok-visit_function.ensures.visits, within_count 8 program 0 lawful.count lawful.written_out, lawful.short)
