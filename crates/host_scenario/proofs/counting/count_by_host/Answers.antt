use Rattle.std.proofs.Common.{◌≡◌, ◌+◌, ℕ, Bool, arith, if◌then◌else◌, length, subst, sym, take, ◌∙◌}
use Rattle.host_scenario.specs.Asked.{by_host}
use Rattle.host_scenario.proofs.Counted.{count_more}
use Rattle.host_scenario.proofs.counting.count_by_host.Goals as goal
use Rattle.host_scenario.proofs.counting.count_by_host.Goals.{then-is_by_host, else-is_by_host}

pub loop-place-preserved : goal.loop-place-preserved
loop-place-preserved c =
    let items = c.args.records.now.items in
    let before : ℕ = length (by_host (take c.loop-place.place items)) in
    let more = count_more items c.loop-place.place c.index.result.now (omega (arith, c.loop-place-test.true, c.len-place-end.ensures)) c.index.ensures in
    elim c.if-is_by_host.branch [
      | then-is_by_host w ↦
          let total : length (by_host (take (c.loop-place.place + 1) items)) ≡ before + 1 =
          subst (λ (b : Bool). length (by_host (take (c.loop-place.place + 1) items)) ≡ (if b then before + 1 else before)) (sym c.is_by_host.ensures ∙ w.if-is_by_host.true) more in
          (omega (arith, w.count-is, c.loop-place.invariant.0, total), omega (arith, w.count-is, c.loop-place.invariant.1))
      | else-is_by_host w ↦
          let total : length (by_host (take (c.loop-place.place + 1) items)) ≡ before =
          subst (λ (b : Bool). length (by_host (take (c.loop-place.place + 1) items)) ≡ (if b then before + 1 else before)) (sym c.is_by_host.ensures ∙ w.if-is_by_host.false) more in
          (omega (arith, w.count-is, c.loop-place.invariant.0, total), omega (arith, w.count-is, c.loop-place.invariant.1))
    ]
