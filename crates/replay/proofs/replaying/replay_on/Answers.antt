use Rattle.std.proofs.Common.{◌≡◌, false, true, refl, sym, ◌∙◌}
use Rattle.replay.proofs.Replayed.{last_is_faulty, one_is_faulty}
use Rattle.replay.proofs.replaying.replay_on.Goals as goal
use Rattle.replay.proofs.replaying.replay_on.Goals.{else-followed-len-via-then-followed-len+else-is_same_totals, else-followed-len-via-else-followed-len}

pub returns-else-followed-len : goal.returns-else-followed-len
returns-else-followed-len g c = elim c.else-followed-len.branch [
  | else-followed-len-via-then-followed-len+else-is_same_totals w ↦ (
    c.requires.version,
    refl,
    last_is_faulty c.args.engine.now.setup c.followed.new.engine c.args.trace.now.records.items c.in_ok-followed.followed c.args.trace.now.totals c.in_ok-followed.ensures
        (w.if-followed-len.true ∙ c.len.ensures)
        (λ is. let bad : false ≡ true = sym w.if-is_same_totals.false ∙ w.is_same_totals.ensures.1 (w.totals.ensures ∙ is) in cc),
  )
  | else-followed-len-via-else-followed-len w ↦ (
    c.requires.version,
    refl,
    one_is_faulty c.args.engine.now.setup c.followed.new.engine c.args.trace.now.records.items c.in_ok-followed.followed c.args.trace.now.totals c.in_ok-followed.ensures
        (λ all. w.if-followed-len.false (all ∙ sym c.len.ensures)),
  )
]
