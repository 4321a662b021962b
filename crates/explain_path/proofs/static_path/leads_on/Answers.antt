use Rattle.std.proofs.Common.{◌≡◌, ℕ, List, [], ◌∷◌, take, slice_index_or, sym, subst, false, rules}
use Rattle.std.proofs.lemmas.List.{take_more}
use Rattle.explain_path.specs.Passes.{StandingLeads, Passes, begins, goes_on, standing}
use Rattle.explain_path.proofs.Paths.{no_path}
use Rattle.explain_path.proofs.static_path.leads_on.Goals as goal

pub loop-slot-init : goal.loop-slot-init
loop-slot-init c = subst (λ (returns : List ℕ). Passes c.args.program.now (0 ∷ []) (standing 0 returns)) (sym c.new-returns.ensures.items) (begins)

pub loop-slot-preserved : goal.loop-slot-preserved
loop-slot-preserved c =
    let program = c.args.program.now in
    let slots = c.args.slots.now in
    let at = c.loop-slot.slot-index in
    let to = slice_index_or slots at 0 in
    let from = standing c.loop-slot.at c.loop-slot.returns.items in
    let there = standing to c.leads.new.returns.items in
    let leads : StandingLeads program from there = c.in_ok-leads.ensures.yes c.if-not-branch.false in
    subst (λ (passed : List ℕ). Passes program (0 ∷ passed) there) (sym (take_more slots at 0 c.loop-slot-test.true))
    (goes_on (0 ∷ take at slots) from there c.loop-slot.invariant leads)

pub returns-then-not-branch-clause-no : goal.returns-then-not-branch-clause-no
returns-then-not-branch-clause-no c = λ e path.
    let fails : c.in_ok-leads.field-0 ≡ false = search rules in
    no_path c.args.program.now c.args.slots.now c.loop-slot.slot-index c.loop-slot.at c.loop-slot.returns.items c.loop-slot.invariant c.loop-slot-test.true
    (c.in_ok-leads.ensures.no fails) path
