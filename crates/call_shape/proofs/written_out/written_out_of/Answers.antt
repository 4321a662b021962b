use Rattle.std.proofs.Common.{ℕ, length, set, sym, subst, ◌≡◌, ◌∙◌, ◌+◌, arith}
use Rattle.call_shape.proofs.Places.{begins_first}
use Rattle.call_shape.proofs.Counting.{AreCounts, IsCount, counts_first, counts_more, capped_first}
use Rattle.call_shape.proofs.Filled.{read_at, begun_at, filled_all}
use Rattle.call_shape.proofs.written_out.written_out_of.Goals as goal

pub loop-place-init : goal.loop-place-init
loop-place-init c = counts_first c.args.program.now c.args.places.now

pub unreachable-requires : goal.unreachable-requires
unreachable-requires c =
    let here = begun_at c.args.program.now c.args.places.now c.loop-place.place-index c.from-place.result c.requires.order c.loop-place-test.true c.from-place.ensures in
    c.in_default.not-Some here.0 (c.fetch.ensures.value ∙ here.1)

pub loop-place-preserved : goal.loop-place-preserved
loop-place-preserved c =
    let program = c.args.program.now in
    let places = c.args.places.now in
    let place = c.from-place.result in
    let counts = c.loop-place.counts in
    subst (λ (n : ℕ). AreCounts program places (set counts place n) (c.loop-place.place-index + 1)) (sym c.count_on.ensures)
    (counts_more program places counts c.loop-place.place-index place c.in-Some.insn c.requires.program c.requires.contained c.requires.order c.loop-place-test.true
    (read_at places c.loop-place.place-index place c.loop-place-test.true c.from-place.ensures) (sym c.in-Some.ensures.value) c.loop-place.invariant)

pub returns : goal.returns
returns c =
    let program = c.args.program.now in
    let places = c.args.places.now in
    let last : c.loop-place.place-index ≡ length places = omega arith in
    capped_first program _
    (filled_all program places (IsCount program) c.loop-place.counts 0 c.requires.order
    (subst (λ (n : ℕ). AreCounts program places c.loop-place.counts n) last c.loop-place.invariant).filled (begins_first program c.requires.program))
