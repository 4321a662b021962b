use Rattle.std.proofs.Common.{◌∙◌, ◌≤◌, List, ℕ, length, take, ap, subst, sym}
use Rattle.cli_io.specs.Replacing.{At, IsFrontOf, with_more}
use Rattle.cli_io.proofs.Stages.{at_stays, front_taken, put_more, taken_on}
use Rattle.cli_io.proofs.replacing.write_all.Goals.{in-Ok, in-Err+else-ne}
use Rattle.cli_io.proofs.replacing.write_all.Goals as goal

pub returns-in-Ok-eq0 : goal.returns-in-Ok-eq0
returns-in-Ok-eq0 g c = λ path whole base stage takes at.
    let bytes = c.args.bytes.now in
    let on = taken_on bytes c.loop.written _ c.loop.invariant.within c.in-Ok-eq0.ensures.0 in
    let front = subst (λ (t : List ℕ). IsFrontOf t bytes) on.1 (front_taken _ bytes) in
    (_, front, put_more path whole base _ _ stage _ _ bytes front takes (c.loop.invariant.at path whole base stage takes at) c.in-Ok-eq0.ensures.1)

pub loop-preserved : goal.loop-preserved
loop-preserved g c =
    let bytes = c.args.bytes.now in
    elim c.match-write.branch [
      | in-Ok w ↦ (
          let on = taken_on bytes c.loop.written w.in-Ok.count c.loop.invariant.within w.in-Ok.ensures.0 in
          record {
            within = subst (λ n. n ≤ length bytes) (sym w.written-is) on.0;
            at = λ path whole base stage takes at.
                subst (λ (t : List ℕ). At path whole base (g.F.Folder.steps c.write.new.self) (with_more stage t)) (sym (ap (λ n. take n bytes) w.written-is ∙ on.1))
                (put_more path whole base _ _ stage _ _ bytes (subst (λ (t : List ℕ). IsFrontOf t bytes) on.1 (front_taken _ bytes)) takes (c.loop.invariant.at path whole base stage takes at) w.in-Ok.ensures.1);
          })
      | in-Err+else-ne w ↦
          record {
            within = subst (λ n. n ≤ length bytes) (sym w.written-is) c.loop.invariant.within;
            at = λ path whole base stage takes at.
                subst (λ (n : ℕ). At path whole base (g.F.Folder.steps c.write.new.self) (with_more stage (take n bytes))) (sym w.written-is)
                (at_stays path whole base _ _ _ (c.loop.invariant.at path whole base stage takes at) w.in-Err.ensures);
          }
    ]

pub returns-then-ne : goal.returns-then-ne
returns-then-ne g c = λ path whole base stage takes at.
    let bytes = c.args.bytes.now in
    (take c.loop.written bytes, front_taken c.loop.written bytes, at_stays path whole base _ _ _ (c.loop.invariant.at path whole base stage takes at) c.in-Err.ensures)

pub returns : goal.returns
returns g c = λ path whole base stage takes at.
    let bytes = c.args.bytes.now in
    (take c.loop.written bytes, front_taken c.loop.written bytes, c.loop.invariant.at path whole base stage takes at)
