use Rattle.std.proofs.Common.{◌≡◌, ◌<◌, ◌+◌, ◌*◌, ◌/◌, ◌%◌, ℕ, length, arith, ap, sym, subst, ◌∙◌}
use Rattle.check_register_kinds.specs.declared.kind.Kind.{Kind}
use Rattle.check_register_kinds.specs.Kinds.{HoldsKind, IsNumber}
use Rattle.bpf_semantics.specs.Frames.{frame_start}
use Rattle.check_description.specs.Memory.{word_there}
use Rattle.check_description.specs.Spills.{kind_of, spill_at}
use Rattle.check_description.proofs.Spilled.{no_number}
use Rattle.check_description.proofs.Words.{word_found}
use Rattle.check_description.proofs.description.Description.spilled.Goals as goal

pub returns-then-is_multiple_of-clause-holds : goal.returns-then-is_multiple_of-clause-holds
returns-then-is_multiple_of-clause-holds c = λ numbers callers m address is lies live.
    let frame = c.args.frame in
    let word : ℕ = c.args.offsets.least / 8 in
    let whole : c.args.offsets.least % 8 ≡ 0 = c.is_multiple_of.ensures.0 c.if-is_multiple_of.true in
    let there : frame < length m.frames = omega (arith, live, is.frames.depth) in
    let few : word < 64 = omega (arith, c.requires.inside, c.if-offsets.true) in
    let at : address ≡ frame_start frame + 8 * word = omega (arith, whole, c.if-offsets.true, lies.1, lies.2, lies.3) in
    let kind : c.kind.result ≡ kind_of (spill_at c.args.self.now.spills frame word) = c.kind.ensures ∙ ap kind_of c.at.ensures in
    subst (λ (k : Kind). HoldsKind numbers k (word_there m address)) (sym kind)
    (subst (HoldsKind numbers (kind_of (spill_at c.args.self.now.spills frame word))) (sym (word_found m frame word address there at few)) (is.spills frame word few))

pub returns-then-is_multiple_of-clause-no_number : goal.returns-then-is_multiple_of-clause-no_number
returns-then-is_multiple_of-clause-no_number c = λ number. no_number c.at.result (subst IsNumber c.kind.ensures number)

pub returns-then-is_multiple_of-clause-aligned : goal.returns-then-is_multiple_of-clause-aligned
returns-then-is_multiple_of-clause-aligned c = λ word least most.
    let same : c.args.offsets.least / 8 ≡ word = omega (arith, least) in
    c.kind.ensures ∙ ap kind_of c.at.ensures ∙ ap (λ (n : ℕ). kind_of (spill_at c.args.self.now.spills c.args.frame n)) same

pub returns-then-is_multiple_of-clause-elsewhere : goal.returns-then-is_multiple_of-clause-elsewhere
returns-then-is_multiple_of-clause-elsewhere c = λ never.
    let whole : c.args.offsets.least % 8 ≡ 0 = c.is_multiple_of.ensures.0 c.if-is_multiple_of.true in
    absurd (never (c.args.offsets.least / 8) (omega (arith, whole)) (omega (arith, whole, c.if-offsets.true)))
