use Rattle.std.proofs.Common.{◌≡◌, ℕ, ◌+◌, ◌-◌, ◌≤◌, Some, None, length, sym, ap, subst, ◌∙◌, arith}
use Rattle.std.specs.Prelude.{IfOk, IsOkAnd}
use Rattle.bpf_insn.specs.Program.{insn_at, slots_of}
use Rattle.call_shape.specs.Shape.{target_in}
use Rattle.check_description.specs.declared.description.Description.{Description}
use Rattle.check_private_insns.specs.declared.way.Way.TheVariants.{FallThrough, Taken}
use Rattle.verifier.specs.Arrives.{AllArrive, Arrives, NeverLacks, goes_to}
use Rattle.verifier.specs.Table.{HasLed}
use Rattle.verifier.proofs.Checked.{checked_jump, checked_straight}
use Rattle.verifier.proofs.Led.{if_ok}
use Rattle.verifier.proofs.Told.{err_and, if_and}
use Rattle.verifier.proofs.pass.check_ways.Goals.{After-table-in-None-1, After-table-in-Some-1}
use Rattle.verifier.proofs.pass.check_ways.Given.{Over}
use Rattle.verifier.proofs.pass.check_ways.Goals as goal

also_is : (g : Over) (c : After-table-in-Some-1 g) → c.in_ok-also-in-Some.also ≡ c.args.known
also_is g c = c.in_ok-also-in-Some.ensures ∙ (c.deref.ensures ∙ c.known.view_is)

pub returns-in_ok-lead-in-Some-clause-checked : goal.returns-in_ok-lead-in-Some-clause-checked
returns-in_ok-lead-in-Some-clause-checked g c =
    let slot : c.args.at + c.slots.result ≡ c.args.at + length (slots_of c.args.check.insn) = ap (λ n. c.args.at + n) c.slots.ensures in
    let leads : target_in (c.args.start + c.args.at) c.args.check.insn ≡ Some c.in-Some.target = sym c.in-Some.ensures in
    let led = subst (λ (d : Description). HasLed c.args.limits.now c.args.callers.now d c.args.table.now c.args.check.insn FallThrough (c.args.at + c.slots.result) c.lead.new.table) (also_is g c) c.in_ok-lead-in-Some.ensures.led in
    if_ok c.lead-in-Some.result
    (checked_jump c.args.limits.now c.args.program.now c.args.callers.now c.args.start c.args.known c.args.table.now c.lead.new.table c.lead-in-Some.new.table c.args.at (c.args.at + c.slots.result) c.in-Some.target c.args.check.insn
    c.requires.lawful slot c.requires.here c.requires.at c.lead.ensures.whole c.requires.end c.requires.stays leads led)
    c.lead-in-Some.ensures.led

-- on both ways of a jump all arrives
both_arrive : (g : Over) (c : After-table-in-Some-1 g) → (c.args.start ≡ 0) × NeverLacks c.args.program.now × AllArrive c.args.program.now c.args.table.now × Arrives c.args.program.now c.args.at c.args.known → IsOkAnd c.lead-in-Some.result (λ _. AllArrive c.args.program.now c.lead-in-Some.new.table)
both_arrive g c (zero, never, all, arrives) =
    let program = c.args.program.now in
    let place : c.args.start + c.args.at ≡ c.args.at = omega (arith, zero) in
    let whole : length c.args.table.now ≤ length program = omega (arith, c.requires.end.inside) in
    let here = subst (λ (k : ℕ). insn_at program k ≡ Some c.args.check.insn) place c.requires.here in
    let behind : goes_to c.args.at c.args.check.insn FallThrough ≡ Some (c.args.at + c.slots.result) = ap (λ n. Some (c.args.at + n)) (sym c.slots.ensures) in
    let target : goes_to c.args.at c.args.check.insn Taken ≡ Some (c.in-Some.target - c.args.start) =
    subst (λ (k : ℕ). target_in k c.args.check.insn ≡ Some c.in-Some.target) place (sym c.in-Some.ensures) ∙ ap Some (let e : c.in-Some.target ≡ c.in-Some.target - c.args.start = omega (arith, zero) in e) in
    let first = c.in_ok-lead-in-Some.ensures.passes program c.args.at never all whole here (subst (Arrives program c.args.at) (sym (also_is g c)) arrives) behind in
    c.lead-in-Some.ensures.passes program c.args.at never first (omega (arith, whole, c.lead.ensures.whole)) here arrives target

pub returns-in_ok-lead-in-Some-clause-arrives : goal.returns-in_ok-lead-in-Some-clause-arrives
returns-in_ok-lead-in-Some-clause-arrives g c =
    if_ok c.lead-in-Some.result (λ all_arrive zero never all arrives. all_arrive (zero, never, all, arrives)) (if_and _ _ c.lead-in-Some.result (both_arrive g c))

pub returns-in_ok-lead-in-Some-clause-fails : goal.returns-in_ok-lead-in-Some-clause-fails
returns-in_ok-lead-in-Some-clause-fails g c = err_and _ _ c.lead-in-Some.result c.lead-in-Some.ensures.fails (both_arrive g c)

roomy_is : (g : Over) (c : After-table-in-None-1 g) → c.in_ok-roomy-in-None.roomy ≡ c.args.known
roomy_is g c = c.in_ok-roomy-in-None.ensures

pub returns-in_ok-roomy-in-None-clause-checked : goal.returns-in_ok-roomy-in-None-clause-checked
returns-in_ok-roomy-in-None-clause-checked g c =
    let slot : c.args.at + c.slots.result ≡ c.args.at + length (slots_of c.args.check.insn) = ap (λ n. c.args.at + n) c.slots.ensures in
    let none : target_in (c.args.start + c.args.at) c.args.check.insn ≡ None = sym c.in-None.ensures in
    let led = subst (λ (d : Description). IfOk c.lead-in-None.result (λ _. HasLed c.args.limits.now c.args.callers.now d c.args.table.now c.args.check.insn FallThrough (c.args.at + c.slots.result) c.lead-in-None.new.table)) (roomy_is g c) c.lead-in-None.ensures.led in
    if_ok c.lead-in-None.result
    (checked_straight c.args.limits.now c.args.program.now c.args.callers.now c.args.start c.args.known c.args.table.now c.lead-in-None.new.table c.args.at (c.args.at + c.slots.result) c.args.check.insn
    slot c.requires.here c.requires.at c.requires.end c.requires.stays none)
    led

one_arrives : (g : Over) (c : After-table-in-None-1 g) → (c.args.start ≡ 0) × NeverLacks c.args.program.now × AllArrive c.args.program.now c.args.table.now × Arrives c.args.program.now c.args.at c.args.known → IsOkAnd c.lead-in-None.result (λ _. AllArrive c.args.program.now c.lead-in-None.new.table)
one_arrives g c (zero, never, all, arrives) =
    let program = c.args.program.now in
    let place : c.args.start + c.args.at ≡ c.args.at = omega (arith, zero) in
    let here = subst (λ (k : ℕ). insn_at program k ≡ Some c.args.check.insn) place c.requires.here in
    let behind : goes_to c.args.at c.args.check.insn FallThrough ≡ Some (c.args.at + c.slots.result) = ap (λ n. Some (c.args.at + n)) (sym c.slots.ensures) in
    c.lead-in-None.ensures.passes program c.args.at never all (omega (arith, c.requires.end.inside)) here (subst (Arrives program c.args.at) (sym (roomy_is g c)) arrives) behind

pub returns-in_ok-roomy-in-None-clause-arrives : goal.returns-in_ok-roomy-in-None-clause-arrives
returns-in_ok-roomy-in-None-clause-arrives g c =
    if_ok c.lead-in-None.result (λ all_arrive zero never all arrives. all_arrive (zero, never, all, arrives)) (if_and _ _ c.lead-in-None.result (one_arrives g c))

pub returns-in_ok-roomy-in-None-clause-fails : goal.returns-in_ok-roomy-in-None-clause-fails
returns-in_ok-roomy-in-None-clause-fails g c = err_and _ _ c.lead-in-None.result c.lead-in-None.ensures.fails (one_arrives g c)
