use Rattle.std.proofs.Common.{◌≡◌, ℕ, List, [], ◌∷◌, ◌++◌, sym, subst, ap, ◌∙◌, arith}
use Rattle.std.proofs.lemmas.List.{get_or_read}
use Rattle.bpf_insn.specs.declared.program.Slot.{Slot}
use Rattle.explain_path.specs.Passes.{standing}
use Rattle.explain_path.specs.Remaining.{StepsOn}
use Rattle.explain_path.proofs.Remaining.{IsWalked, walked_first, walked_more, walked_all}
use Rattle.explain_path.proofs.budget.longest_path.Goals as goal

pub loop-slot-init : goal.loop-slot-init
loop-slot-init c =
    let shape = c.args.shape.now in
    let program = c.program-program.ensures in
    let lengths = c.in_ok-lengths.lengths.items in
    let slots = c.push.new.self.items in
    let returns = c.new-returns.result.items in
    let first : slots ≡ 0 ∷ [] = c.in_ok-push.ensures.items ∙ ap (λ (l : List ℕ). l ++ 0 ∷ []) c.new-slots.ensures.items in
    subst (λ (p : List Slot). IsWalked p lengths slots (standing 0 returns) 1) (sym program.value)
    (walked_first shape lengths slots returns program.program program.lawful c.in_ok-lengths.ensures first c.new-returns.ensures.items)

pub loop-slot-preserved : goal.loop-slot-preserved
loop-slot-preserved c =
    let program = c.program-program.result.now in
    let lengths = c.in_ok-lengths.lengths.items in
    let at = standing c.loop-slot.at c.loop-slot.returns.items in
    let to = standing c.in_ok-at.at c.next_of.new.returns.items in
    walked_more program lengths c.loop-slot.slots.items c.push-in-loop-slot.new.self.items at to c.loop-slot._slot
    (subst (λ (l : List ℕ). StepsOn program l at to) c.deref.ensures.value c.in_ok-at.ensures) c.in_ok-push-2.ensures.items c.loop-slot.invariant

pub returns : goal.returns
returns c =
    let program = c.args.shape.now in
    let lengths = c.in_ok-lengths.lengths.items in
    let slots = c.loop-slot.slots.items in
    let at = standing c.loop-slot.at c.loop-slot.returns.items in
    let walked = subst (λ (p : List Slot). IsWalked p lengths slots at c.loop-slot._slot) c.program-program.ensures.value c.loop-slot.invariant in
    let end = get_or_read lengths 0 c.index-slot-end.result.now (omega arith) c.index-slot-end.ensures 0 in
    let budget = walked_all program lengths slots at c.loop-slot._slot (omega (arith, end)) (λ some. omega (arith, end)) walked in
    record { path = budget.1; exit = budget.0.path; longest = budget.0.most }
