use Rattle.std.proofs.Common.{◌≡◌, ◌+◌, ℕ, List, length, set, sym, ap, subst, ◌∙◌, arith}
use Rattle.bpf_insn.specs.Program.{IsProgram}
use Rattle.call_shape.specs.Onward.{onward}
use Rattle.call_shape.specs.Postorder.{IsWholePostorder}
use Rattle.call_shape.specs.Shape.{IsLawful}
use Rattle.call_shape.specs.Tables.{HasEntries}
use Rattle.call_shape.proofs.Filled.{read_at, begun_at, has_entries}
use Rattle.call_shape.proofs.Places.{begins_inside, there_begins}
use Rattle.call_shape.proofs.Ways.{lawful_way}
use Rattle.budget_path.specs.Length.{length_by}
use Rattle.budget_path.specs.Longest.{AreLongest}
use Rattle.budget_path.proofs.PathLengths.{AreLengths, lengths_more, are_longest}
use Rattle.budget_path.proofs.longest.lengths.Goals as goal

pub unreachable-requires : goal.unreachable-requires
unreachable-requires c =
    let same = c.program-program.ensures.value in
    let order = subst (λ p. IsWholePostorder p c.postorder-place-items.result.now) (sym same) c.postorder-place-items.ensures in
    let here = begun_at c.program-program.result.now c.postorder-place-items.result.now c.loop-place.place-index c.from-place.result order c.loop-place-test.true c.from-place.ensures in
    c.in_default.not-Some here.0 (c.fetch.ensures.value ∙ here.1)

pub length_by-longest-requires-clause-entries : goal.length_by-longest-requires-clause-entries
length_by-longest-requires-clause-entries c =
    let program = c.program-program.result.now in
    let lawful = subst IsLawful (sym c.program-program.ensures.value) c.program-program.ensures.lawful in
    let long = ap length c.deref.ensures.value in
    subst (HasEntries (length c.deref.result.now)) (sym c.of.ensures)
    (has_entries program c.from-place.result (length c.deref.result.now) (onward c.from-place.result c.in-Some.insn) (omega (arith, long, c.loop-place.invariant.whole))
    (lawful_way program c.from-place.result c.in-Some.insn c.len.ensures.program lawful.frames.calls.functions (sym c.in-Some.ensures.value)))

pub index_mut-requires : goal.index_mut-requires
index_mut-requires c =
    let inside = begins_inside c.program-program.result.now c.from-place.result (there_begins c.program-program.result.now c.from-place.result c.in-Some.insn (sym c.in-Some.ensures.value)) in
    omega (arith, inside, c.loop-place.invariant.whole, c.loop-place.lengths.ok.0)

pub loop-place-preserved : goal.loop-place-preserved
loop-place-preserved c =
    let program = c.program-program.result.now in
    let places = c.postorder-place-items.result.now in
    let place = c.from-place.result in
    let lengths = c.loop-place.lengths.items in
    let same = c.program-program.ensures.value in
    let lawful = subst IsLawful (sym same) c.program-program.ensures.lawful in
    let order = subst (λ p. IsWholePostorder p places) (sym same) c.postorder-place-items.ensures in
    let is : c.length_by-longest.result ≡ length_by lengths (onward place c.in-Some.insn) =
    c.length_by-longest.ensures ∙ ap (length_by c.deref.result.now) c.of.ensures ∙ ap (λ (xs : List ℕ). length_by xs (onward place c.in-Some.insn)) c.deref.ensures.value in
    subst (λ (n : ℕ). AreLengths program places (set lengths place n) (c.loop-place.place-index + 1)) (sym is)
    (lengths_more program places lengths c.loop-place.place-index place c.in-Some.insn c.len.ensures.program lawful order c.loop-place-test.true
    (read_at places c.loop-place.place-index place c.loop-place-test.true c.from-place.ensures) (sym c.in-Some.ensures.value) c.loop-place.invariant)

pub returns : goal.returns
returns c =
    let program = c.program-program.result.now in
    let places = c.postorder-place-items.result.now in
    let same = c.program-program.ensures.value in
    let order = subst (λ p. IsWholePostorder p places) (sym same) c.postorder-place-items.ensures in
    let last : c.loop-place.place-index ≡ length places = omega arith in
    subst (λ p. AreLongest p c.loop-place.lengths.items) same
    (are_longest program places c.loop-place.lengths.items (subst IsProgram (sym same) c.program-program.ensures.program) (subst IsLawful (sym same) c.program-program.ensures.lawful) order
    (subst (λ (n : ℕ). AreLengths program places c.loop-place.lengths.items n) last c.loop-place.invariant))
