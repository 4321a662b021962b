use Rattle.std.proofs.Common.{◌≡◌, ℕ, ◌<◌, ◌≤◌, length, None, sym, rules, arith}
use Rattle.bpf_insn.specs.Program.{insn_at}
use Rattle.verifier.proofs.Ends.{closed_more, closed_skip}
use Rattle.verifier.proofs.ways.end_of.Goals.{in-Some, in_default}
use Rattle.verifier.proofs.ways.end_of.Goals as goal

pub loop-place-preserved : goal.loop-place-preserved
loop-place-preserved c = elim c.match-fetch.branch [
  | in-Some w ↦
      let end : ℕ = c.match-fetch.end in
      let wider : c.loop-place.end ≤ end = omega (arith, w.end-is, w.max-end.ensures) in
      let beyond : w.furthest.result < end = omega (arith, w.end-is, w.max-end.ensures) in
      let inside : end ≤ length c.args.program.now = omega (arith, w.end-is, w.max-end.ensures, w.furthest.ensures.inside, c.loop-place.invariant.inside) in
      record {
        some = omega (arith, c.loop-place.invariant.some, wider);
        inside = inside;
        so_far = omega (arith, c.loop-place.invariant.so_far, c.if-place-end.false, wider);
        closed = closed_more c.args.program.now c.args.start c.loop-place.place c.loop-place.end end w.in-Some.insn (sym w.in-Some.ensures.value) c.loop-place.invariant.closed wider
            (w.furthest.ensures.leads end beyond);
      }
  | in_default w ↦
      let none : insn_at c.args.program.now c.loop-place.place ≡ None = search rules in
      rw w.end-is (record {
        some = c.loop-place.invariant.some;
        inside = c.loop-place.invariant.inside;
        so_far = omega (arith, c.loop-place.invariant.so_far, c.if-place-end.false);
        closed = closed_skip c.args.program.now c.args.start c.loop-place.place c.loop-place.end none c.loop-place.invariant.closed;
      })
]
