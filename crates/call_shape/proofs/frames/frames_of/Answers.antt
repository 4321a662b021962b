use Rattle.std.proofs.Common.{ℕ, length, set, sym, ap, subst, ◌≡◌, ◌∙◌, ◌+◌, arith}
use Rattle.bpf_insn.specs.declared.program.TheConstants.{MAX_SLOTS}
use Rattle.call_shape.specs.Depth.{depth_by}
use Rattle.call_shape.specs.Onward.{onward}
use Rattle.call_shape.specs.Tables.{HasEntries}
use Rattle.call_shape.proofs.Places.{begins_first}
use Rattle.call_shape.proofs.Depths.{AreDepths, IsDeepest, depths_first, depths_more, frames_first}
use Rattle.call_shape.proofs.Filled.{read_at, begun_at, filled_all, has_entries}
use Rattle.call_shape.proofs.Ways.{lawful_way}
use Rattle.call_shape.proofs.frames.frames_of.Goals as goal

pub loop-place-init : goal.loop-place-init
loop-place-init c = depths_first c.args.program.now c.args.places.now

pub unreachable-requires : goal.unreachable-requires
unreachable-requires c =
    let here = begun_at c.args.program.now c.args.places.now c.loop-place.place-index c.from-place.result c.requires.order c.loop-place-test.true c.from-place.ensures in
    c.in_default.not-Some here.0 (c.fetch.ensures.value ∙ here.1)

pub depth_by-requires-clause-entries : goal.depth_by-requires-clause-entries
depth_by-requires-clause-entries c =
    let program = c.args.program.now in
    subst (HasEntries MAX_SLOTS) (sym c.of.ensures)
    (has_entries program c.from-place.result MAX_SLOTS (onward c.from-place.result c.in-Some.insn) c.requires.program.in_range.1
    (lawful_way program c.from-place.result c.in-Some.insn c.requires.program c.requires.functions (sym c.in-Some.ensures.value)))

pub loop-place-preserved : goal.loop-place-preserved
loop-place-preserved c =
    let program = c.args.program.now in
    let places = c.args.places.now in
    let place = c.from-place.result in
    let depths = c.loop-place.depths in
    let is = c.depth_by.ensures ∙ ap (depth_by depths) c.of.ensures in
    subst (λ (d : ℕ). AreDepths program places (set depths place d) (c.loop-place.place-index + 1)) (sym is)
    (depths_more program places depths c.loop-place.place-index place c.in-Some.insn c.requires.program c.requires.functions c.requires.order c.loop-place-test.true
    (read_at places c.loop-place.place-index place c.loop-place-test.true c.from-place.ensures) (sym c.in-Some.ensures.value) c.loop-place.invariant)

pub returns : goal.returns
returns c =
    let program = c.args.program.now in
    let places = c.args.places.now in
    let last : c.loop-place.place-index ≡ length places = omega arith in
    frames_first program _
    (filled_all program places (IsDeepest program) c.loop-place.depths 0 c.requires.order
    (subst (λ (n : ℕ). AreDepths program places c.loop-place.depths n) last c.loop-place.invariant).filled (begins_first program c.requires.program))
